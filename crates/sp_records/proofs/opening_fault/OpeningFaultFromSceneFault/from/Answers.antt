use Rattle.std.proofs.Common.{rules}
use Rattle.sp_records.proofs.opening_fault.OpeningFaultFromSceneFault.from.Goals as goal

pub returns-in-SceneForm : goal.returns-in-SceneForm
returns-in-SceneForm c = search rules
