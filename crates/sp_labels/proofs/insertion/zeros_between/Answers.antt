use Rattle.std.proofs.Common.{rules}
use Rattle.sp_labels.proofs.insertion.zeros_between.Goals as goal

pub returns-in-Some : goal.returns-in-Some
returns-in-Some c = search rules
