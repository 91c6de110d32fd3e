use Rattle.std.proofs.Common.{rules}
use Rattle.sp_run.proofs.status.Status.code.Goals as goal

pub returns-in-NotLocked : goal.returns-in-NotLocked
returns-in-NotLocked c = search rules
