use Rattle.std.proofs.Common.{arith}
use Rattle.sp_room.specs.Changes.{range_of, ranges}
use Rattle.sp_room.proofs.Walks.{BackOver, back_over}
use Rattle.sp_room.proofs.place.lines_before.Goals as goal
use Rattle.sp_room.proofs.place.lines_before.Goals.{After-index-change}

over : (c : After-index-change) → BackOver c.args.lines c.args.since (ranges c.args.changes.now.items) c.loop-i.i c.loop-i.count (range_of c.index-change.result.now)
over c =
    back_over c.args.lines c.args.since c.args.changes.now.items c.loop-i.i c.loop-i.count c.index-change.result.now c.loop-i.invariant c.loop-i-test.true c.index-change.ensures c.requires.fits

pub overflow_sub-count : goal.overflow_sub-count
overflow_sub-count c = (over (goal.at.overflow_sub-count c).After-index-change).fewer

pub overflow_add-count : goal.overflow_add-count
overflow_add-count c =
    let small = (over (goal.at.overflow_add-count c).After-index-change).small in
    omega (arith, small)

pub loop-i-preserved : goal.loop-i-preserved
loop-i-preserved c = (over (goal.at.loop-i-preserved c).After-index-change).next
