use Rattle.std.proofs.Common.{arith}
use Rattle.std.proofs.lemmas.Grind.{common_steps}
use Rattle.sp_clean.proofs.notes.push_flagged.Goals as goal

pub loop-flag-preserved : goal.loop-flag-preserved
loop-flag-preserved c = grind (arith, common_steps)
