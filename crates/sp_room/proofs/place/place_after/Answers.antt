use Rattle.std.proofs.Common.{◌<◌, ◌+◌, ◌^◌, ℕ, length, arith, subst, sym}
use Rattle.sp_room.specs.Changes.{range_of, ranges}
use Rattle.sp_room.proofs.Walks.{Placed, PlacedAt, placed_at, placed_behind, placed_before, placed_across}
use Rattle.sp_room.proofs.place.place_after.Goals as goal
use Rattle.sp_room.proofs.place.place_after.Goals.{After-index-change, then-change-place, else-change-place+else-change-place-2}

at : (c : After-index-change) → PlacedAt c.args.lines (ranges c.args.changes.now.items) c.loop-i.i c.args.count c.loop-i.place (range_of c.index-change.result.now)
at c =
    let tested = c.loop-i-test.true in
    let len = c.len-i-end.ensures in
    let whole = c.args.changes.now.ok in
    let low : c.loop-i.i < length c.args.changes.now.items = omega (arith, tested, len, whole) in
    let few : c.args.lines < 2 ^ 64 = omega arith in
    placed_at c.args.lines c.args.since c.args.seen c.args.first c.args.changes.now.items c.args.count c.loop-i.i c.loop-i.version c.loop-i.place c.index-change.result.now c.loop-i.invariant low c.index-change.ensures few c.requires.fits

pub overflow_add-change : goal.overflow_add-change
overflow_add-change c =
    let end = (at (goal.at.overflow_add-change c).After-index-change).end in
    omega (arith, end)

pub overflow_add-place : goal.overflow_add-place
overflow_add-place c =
    let moved = (at (goal.at.overflow_add-place c).After-index-change).moved c.if-change-place.true in
    let later = (at (goal.at.overflow_add-place c).After-index-change).later in
    omega (arith, moved, later)

pub overflow_add-place-else-change-place : goal.overflow_add-place-else-change-place
overflow_add-place-else-change-place c =
    let range = (at (goal.at.overflow_add-place-else-change-place c).After-index-change).range in
    omega (arith, range)

pub returns-then-change-place-2 : goal.returns-then-change-place-2
returns-then-change-place-2 c =
    placed_across c.args.lines c.args.since c.args.seen c.args.first (ranges c.args.changes.now.items) c.args.count c.loop-i.i c.loop-i.version c.loop-i.place (range_of c.index-change.result.now) c.loop-i.invariant (at (goal.at.returns-then-change-place-2 c).After-index-change) c.if-change-place.false c.if-change-place-2.true

pub loop-i-preserved : goal.loop-i-preserved
loop-i-preserved c =
    elim c.if-change-place.branch [
      | then-change-place w ↦ subst (λ (place : ℕ). Placed c.args.lines c.args.since c.args.seen c.args.first (ranges c.args.changes.now.items) c.args.count (c.loop-i.i + 1) (c.loop-i.version + 1) place) (sym w.place-is)
          (placed_behind c.args.lines c.args.since c.args.seen c.args.first (ranges c.args.changes.now.items) c.args.count c.loop-i.i c.loop-i.version c.loop-i.place (range_of c.index-change.result.now) c.loop-i.invariant (at (goal.at.loop-i-preserved c).After-index-change) w.if-change-place.true)
      | else-change-place+else-change-place-2 w ↦ subst (λ (place : ℕ). Placed c.args.lines c.args.since c.args.seen c.args.first (ranges c.args.changes.now.items) c.args.count (c.loop-i.i + 1) (c.loop-i.version + 1) place) (sym w.place-is)
          (placed_before c.args.lines c.args.since c.args.seen c.args.first (ranges c.args.changes.now.items) c.args.count c.loop-i.i c.loop-i.version c.loop-i.place (range_of c.index-change.result.now) c.loop-i.invariant (at (goal.at.loop-i-preserved c).After-index-change) w.if-change-place.false w.if-change-place-2.false)
    ]
