use Rattle.std.proofs.Common.{rules}
use Rattle.sp_labels.proofs.writing.write_step.Goals as goal

pub returns-in_default : goal.returns-in_default
returns-in_default g c = search rules
