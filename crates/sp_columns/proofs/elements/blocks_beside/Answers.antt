use Rattle.std.proofs.Common.{arith}
use Rattle.std.proofs.lemmas.Grind.{common_steps}
use Rattle.sp_columns.proofs.elements.blocks_beside.Goals as goal

pub overflow_sub-shift : goal.overflow_sub-shift
overflow_sub-shift c = grind (arith, common_steps)

pub overflow_cast-shift : goal.overflow_cast-shift
overflow_cast-shift c = grind (arith, common_steps)

pub shape_rows-requires : goal.shape_rows-requires
shape_rows-requires c = grind (arith, common_steps)

pub block_rows-requires-2-clause-shift : goal.block_rows-requires-2-clause-shift
block_rows-requires-2-clause-shift c = grind (arith, common_steps)

pub returns : goal.returns
returns c = grind (arith, common_steps)
