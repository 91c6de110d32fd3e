use Rattle.std.proofs.Common.{◌-◌}
use Rattle.sp_room.specs.Changes.{ranges}
use Rattle.sp_room.proofs.Walks.{CountedBack}
use Rattle.sp_room.proofs.place.lines_before.Given as goal

abbrev pub invariant-loop-i : goal.invariant-loop-i
invariant-loop-i l = CountedBack l.lines l.since (ranges l.changes.items) l.i l.count

abbrev pub decreases-loop-i : goal.decreases-loop-i
decreases-loop-i l = l.i - l.since
