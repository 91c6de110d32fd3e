use Rattle.std.proofs.Common.{rules}
use Rattle.sp_desk.proofs.desk.Desk.set_speakers.Goals as goal

pub returns-clause-step : goal.returns-clause-step
returns-clause-step c = search rules
