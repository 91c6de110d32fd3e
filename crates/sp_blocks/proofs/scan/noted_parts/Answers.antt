use Rattle.std.proofs.Common.{rules}
use Rattle.sp_blocks.proofs.scan.noted_parts.Goals as goal

pub returns-in-None : goal.returns-in-None
returns-in-None c = search rules
