use Rattle.std.proofs.Common.{rules}
use Rattle.sp_emph.proofs.joins.goes_on.Goals as goal

pub returns-then-run-next : goal.returns-then-run-next
returns-then-run-next c = search rules
