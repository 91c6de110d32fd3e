use Rattle.std.proofs.Common.{rules}
use Rattle.sp_fill.proofs.rows.may_part.Goals as goal

pub returns-in_default : goal.returns-in_default
returns-in_default c = search rules
