use Rattle.std.proofs.Common.{◌+◌, ◌-◌, ◌/◌, arith}
use Rattle.std.proofs.lemmas.Option.{get_or_from_slice_get}
use Rattle.sp_layout.proofs.Halves.{halved-behind, halved-before, halved-found}
use Rattle.sp_layout.proofs.search.starts_below.Goals as goal

pub loop-from-preserved-then-at-bound : goal.loop-from-preserved-then-at-bound
loop-from-preserved-then-at-bound c =
    let middle = c.loop-from.from + (c.loop-from.to - c.loop-from.from) / 2 in
    let place = get_or_from_slice_get c.args.starts.now.items middle c.at.result 0 c.at.ensures in
    halved-behind _ _ _ _ middle c.requires c.loop-from.invariant (omega arith) (omega (arith, place, c.if-at-bound.true))

pub loop-from-preserved : goal.loop-from-preserved
loop-from-preserved c =
    let middle = c.loop-from.from + (c.loop-from.to - c.loop-from.from) / 2 in
    let place = get_or_from_slice_get c.args.starts.now.items middle c.at.result 0 c.at.ensures in
    halved-before _ _ _ _ middle c.requires c.loop-from.invariant (omega arith) (omega arith) (omega (arith, place, c.if-at-bound.false))

pub returns : goal.returns
returns c = halved-found _ _ _ _ c.loop-from.invariant c.loop-from-test.false
