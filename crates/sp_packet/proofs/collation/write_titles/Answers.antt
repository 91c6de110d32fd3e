use Rattle.std.proofs.Common.{arith}
use Rattle.std.proofs.lemmas.Grind.{common_steps}
use Rattle.sp_packet.proofs.collation.write_titles.Goals as goal

pub loop-title-preserved : goal.loop-title-preserved
loop-title-preserved c = grind (arith, common_steps)
