use Rattle.std.proofs.Common.{rules}
use Rattle.sp_run.proofs.status.StatusFromSessionEnd.from.Goals as goal

pub returns-in-InputFull : goal.returns-in-InputFull
returns-in-InputFull c = search rules
