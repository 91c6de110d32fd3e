use Rattle.std.proofs.Common.{rules}
use Rattle.sp_wire.proofs.edits.replace_at.Goals as goal

pub returns-in_err-first : goal.returns-in_err-first
returns-in_err-first c = search rules

pub returns-in_err-lines : goal.returns-in_err-lines
returns-in_err-lines c = search rules

pub returns : goal.returns
returns c = search rules
