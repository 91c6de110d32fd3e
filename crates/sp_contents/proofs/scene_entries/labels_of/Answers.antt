use Rattle.std.proofs.Common.{rules}
use Rattle.sp_contents.proofs.scene_entries.labels_of.Goals as goal

pub returns-in-Some : goal.returns-in-Some
returns-in-Some c = search rules
