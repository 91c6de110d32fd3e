use Rattle.std.proofs.Common.{rules}
use Rattle.sp_room.proofs.change.moved_to.Goals as goal

pub returns-in-Replace : goal.returns-in-Replace
returns-in-Replace c = search rules
