use Rattle.std.proofs.Common.{arith}
use Rattle.std.proofs.lemmas.Grind.{common_steps}
use Rattle.sp_columns.proofs.lines.add_rows.Goals as goal

pub loop-row-preserved : goal.loop-row-preserved
loop-row-preserved c = grind (arith, common_steps)

pub overflow_add-number : goal.overflow_add-number
overflow_add-number c = grind (arith, common_steps)

pub line_row-requires-clause-fits : goal.line_row-requires-clause-fits
line_row-requires-clause-fits c = grind (arith, common_steps)

pub returns-clause-items : goal.returns-clause-items
returns-clause-items c = grind (arith, common_steps)

pub returns-clause-few : goal.returns-clause-few
returns-clause-few c = grind (arith, common_steps)
