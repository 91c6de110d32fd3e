use Rattle.std.proofs.Common.{rules}
use Rattle.sp_cast.proofs.writing.scene_text.Goals as goal

pub returns-in-None : goal.returns-in-None
returns-in-None c = search rules
