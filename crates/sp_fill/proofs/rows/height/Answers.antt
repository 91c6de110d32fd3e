use Rattle.std.proofs.Common.{rules}
use Rattle.sp_fill.proofs.rows.height.Goals as goal

pub returns : goal.returns
returns c = search rules
