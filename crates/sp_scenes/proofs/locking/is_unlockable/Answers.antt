use Rattle.std.proofs.Common.{rules}
use Rattle.sp_scenes.proofs.locking.is_unlockable.Goals as goal

pub returns-in-None : goal.returns-in-None
returns-in-None c = search rules
