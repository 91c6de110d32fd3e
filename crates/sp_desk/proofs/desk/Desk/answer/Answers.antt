use Rattle.std.proofs.Common.{rules}
use Rattle.sp_desk.proofs.desk.Desk.answer.Goals as goal

pub returns-in-Undo-clause-step : goal.returns-in-Undo-clause-step
returns-in-Undo-clause-step g c = search rules
