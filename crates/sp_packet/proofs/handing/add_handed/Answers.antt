use Rattle.std.proofs.Common.{true, false, append-nil, ap, sym, ◌∙◌}
use Rattle.sp_packet.proofs.PlaceWalk.{handed-step}
use Rattle.sp_packet.proofs.handing.add_handed.Goals as goal
use Rattle.sp_packet.proofs.handing.add_handed.Goals.{then-is_handed+in_ok-push, else-is_handed}

pub loop-place-preserved : goal.loop-place-preserved
loop-place-preserved c =
    let old = c.loop-place.places.items in
    elim c.if-is_handed.branch [
      | then-is_handed+in_ok-push w ↦
          handed-step c.args.fresh.now c.args.titles c.loop-place.place c.args.facts.now c.index-facts-place.result true old c.if-is_handed.places.items _ c.loop-place-test.true (sym c.index-facts-place.is)
          (sym c.is_handed.ensures ∙ w.if-is_handed.true) (ap (λ v. v.items) w.places-is ∙ w.in_ok-push.ensures.items) c.loop-place.invariant
      | else-is_handed w ↦
          handed-step c.args.fresh.now c.args.titles c.loop-place.place c.args.facts.now c.index-facts-place.result false old c.if-is_handed.places.items _ c.loop-place-test.true (sym c.index-facts-place.is)
          (sym c.is_handed.ensures ∙ w.if-is_handed.false) (ap (λ v. v.items) w.places-is ∙ sym (append-nil old)) c.loop-place.invariant
    ]
