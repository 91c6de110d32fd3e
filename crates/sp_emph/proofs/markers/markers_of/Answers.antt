use Rattle.std.proofs.Common.{◌+◌, ◌-◌, ◌≡◌, length, subst, arith}
use Rattle.sp_emph.specs.Markers.{AreBelow}
use Rattle.sp_emph.proofs.MarkerLaws.{AreBelow-bare}
use Rattle.sp_emph.proofs.markers.markers_of.Goals as goal

pub loop-place-init : goal.loop-place-init
loop-place-init c = record {
  low = c.next_mark-place.ensures.within;
  below = AreBelow-bare _ _ c.next_mark-place.result 0 _ (omega arith) c.next_mark-place.ensures.bare (c.new-markers.ensures c.args.line.now);
}

pub loop-place-preserved : goal.loop-place-preserved
loop-place-preserved c = record {
  low = c.next_mark-place-in-loop-place.ensures.within;
  below = AreBelow-bare _ _ (c.next_mark-place-in-loop-place.result - (c.loop-place.place + 1)) (c.loop-place.place + 1) _ (omega arith) c.next_mark-place-in-loop-place.ensures.bare c.in_ok-add.ensures;
}

pub returns : goal.returns
returns c =
    let all : c.loop-place.place ≡ length c.args.line.now = omega (arith, c.loop-place.invariant.low, c.loop-place-test.false) in
    subst (λ k. AreBelow c.args.line.now k c.loop-place.markers) all c.loop-place.invariant.below
