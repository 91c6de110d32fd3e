use Rattle.std.proofs.Common.{rules}
use Rattle.sp_cast.proofs.keys.scene_key.Goals as goal

pub returns-in-Some : goal.returns-in-Some
returns-in-Some c = search rules
