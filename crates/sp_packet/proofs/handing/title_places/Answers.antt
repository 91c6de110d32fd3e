use Rattle.std.proofs.Common.{◌≡◌, suc, ◌+◌, ◌-◌, ◌++◌, ◌∷◌, [], true, replicate, append_assoc, ap, sym, ◌∙◌, arith}
use Rattle.spec_packet.specs.StatePackets.{places_from}
use Rattle.sp_packet.proofs.handing.title_places.Goals as goal

pub loop-place-preserved : goal.loop-place-preserved
loop-place-preserved c =
    let place = c.loop-place.place in
    let old = c.loop-place.places.items in
    let rest = places_from (place + 1) (replicate (c.args.titles - (place + 1)) true) in
    let test = c.loop-place-test.true in
    let left : c.args.titles - place ≡ suc (c.args.titles - (place + 1)) = omega (arith, test) in
    ap (λ l. l ++ rest) c.in_ok-push.ensures.items ∙ append_assoc old (place ∷ []) rest ∙ sym (ap (λ n. old ++ places_from place (replicate n true)) left) ∙ c.loop-place.invariant
