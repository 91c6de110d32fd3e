use Rattle.std.proofs.Common.{rules}
use Rattle.sp_labels.proofs.label.compare.Goals as goal

pub returns : goal.returns
returns c = search rules
