use Rattle.std.proofs.Common.{rules}
use Rattle.sp_cast.proofs.writing.write_scene.Goals as goal

pub returns : goal.returns
returns c = search rules
