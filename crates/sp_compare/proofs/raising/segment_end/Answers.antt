use Rattle.std.proofs.Common.{arith}
use Rattle.std.proofs.lemmas.Grind.{common_steps}
use Rattle.sp_compare.proofs.raising.segment_end.Goals as goal

pub returns-then-place-starts : goal.returns-then-place-starts
returns-then-place-starts c = grind (arith, common_steps)
