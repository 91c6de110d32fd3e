use Rattle.std.proofs.Common.{arith}
use Rattle.std.proofs.lemmas.Grind.{common_steps}
use Rattle.sp_scenes.proofs.numbering.heading_lines.Goals as goal

pub loop-heading-preserved : goal.loop-heading-preserved
loop-heading-preserved c = grind (arith, common_steps)
