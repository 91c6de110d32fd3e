use Rattle.std.proofs.Common.{rules}
use Rattle.sp_room.proofs.change.change_at.Goals as goal

pub returns : goal.returns
returns c = search rules
