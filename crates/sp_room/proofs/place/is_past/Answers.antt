use Rattle.std.proofs.Common.{rules}
use Rattle.sp_room.proofs.place.is_past.Goals as goal

pub returns-in-Some : goal.returns-in-Some
returns-in-Some c = search rules
