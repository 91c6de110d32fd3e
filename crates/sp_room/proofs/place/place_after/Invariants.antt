use Rattle.sp_room.specs.Changes.{ranges}
use Rattle.sp_room.proofs.Walks.{Placed}
use Rattle.sp_room.proofs.place.place_after.Given as goal

abbrev pub invariant-loop-i : goal.invariant-loop-i
invariant-loop-i l = Placed l.lines l.since l.seen l.first (ranges l.changes.items) l.count l.i l.version l.place
