use Rattle.std.proofs.Common.{arith}
use Rattle.std.proofs.lemmas.Grind.{common_steps}
use Rattle.sp_packet.proofs.collation.write_merged.Goals as goal

pub loop-sheet-preserved : goal.loop-sheet-preserved
loop-sheet-preserved c = grind (arith, common_steps)
