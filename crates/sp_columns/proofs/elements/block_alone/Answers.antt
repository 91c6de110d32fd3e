use Rattle.std.proofs.Common.{arith}
use Rattle.std.proofs.lemmas.Grind.{common_steps}
use Rattle.sp_columns.proofs.elements.block_alone.Goals as goal

pub returns : goal.returns
returns c = grind (arith, common_steps)

pub shape_rows-requires : goal.shape_rows-requires
shape_rows-requires c = grind (arith, common_steps)
