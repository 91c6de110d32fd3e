use Rattle.std.proofs.Common.{◌≡◌, get_or, ap, ◌∙◌, rules, arith}
use Rattle.std.proofs.lemmas.List.Sorted.{IsNonDecreasingBy-from_sort_by_key}
use Rattle.spec_labels.specs.Scenes.{SceneRecordOf}
use Rattle.sp_scenes.specs.declared.places.LinePlace.{LinePlace}
use Rattle.sp_scenes.proofs.LinePlaces.{ArePlacesOf-more, ArePlaces-sorted}
use Rattle.sp_scenes.proofs.places.places_of.Goals as goal

pub loop-place-preserved : goal.loop-place-preserved
loop-place-preserved c =
    let here : c.record.inside.line ≡ (get_or c.args.records.now c.loop-place.place c.index-records-place.result).line = ap (λ (it : SceneRecordOf). it.line) (c.record.view_is ∙ c.index-records-place.is) in
    ArePlacesOf-more c.loop-place.place c.record.inside.line c.args.records.now c.index-records-place.result c.loop-place.places.items c.push.new.self.items c.loop-place-test.true here c.in_ok-push.ensures.items c.loop-place.invariant

pub returns : goal.returns
returns c =
    let sorted = IsNonDecreasingBy-from_sort_by_key (λ (entry : LinePlace). entry.line) c.sort_by_key.new.self.items c.in_ok-sort_by_key.ensures.sorted (λ a r f called. search rules) in
    ArePlaces-sorted c.args.records.now c.loop-place.places.items c.sort_by_key.new.self.items c.loop-place.place (omega arith) c.in_ok-sort_by_key.ensures.permutation sorted c.loop-place.invariant
