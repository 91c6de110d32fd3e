use Rattle.std.proofs.Common.{rules}
use Rattle.sp_blocks.proofs.stanza.read_stanza.Goals as goal

pub returns-clause-reads : goal.returns-clause-reads
returns-clause-reads g c = search rules

pub returns-clause-fills : goal.returns-clause-fills
returns-clause-fills g c = search rules
