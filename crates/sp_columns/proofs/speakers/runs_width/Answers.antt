use Rattle.std.proofs.Common.{arith}
use Rattle.std.proofs.lemmas.Grind.{common_steps}
use Rattle.sp_columns.proofs.speakers.runs_width.Goals as goal

pub overflow_add-width : goal.overflow_add-width
overflow_add-width c = grind (arith, common_steps)

pub overflow_cast-width : goal.overflow_cast-width
overflow_cast-width c = grind (arith, common_steps)

pub columns-requires : goal.columns-requires
columns-requires c = grind (arith, common_steps)

pub returns-clause-bound : goal.returns-clause-bound
returns-clause-bound c = grind (arith, common_steps)

pub returns-clause-value : goal.returns-clause-value
returns-clause-value c = grind (arith, common_steps)
