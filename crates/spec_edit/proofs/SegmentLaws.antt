-- A segment that no touched element stands in keeps what it shows.
use Rattle.std.proofs.Common.{◌≡◌, Bool, true, false, cond, List, [], ◌∷◌, ◌++◌, map, inl, inr, refl, sym, ap, ap₂, ◌∙◌}
use Rattle.std.specs.Prelude.{filter, All}
use Rattle.std.specs.List.{flat_map}
use Rattle.std.proofs.lemmas.Bool.{cases_Bool}
use Rattle.std.proofs.lemmas.List.{map-append}
use Rattle.std.proofs.lemmas.List.Elements.{All-head, All-tail, filter-append}
use Rattle.spec_labels.specs.Spots.{Bounds, is_within, BoundsFollow}
use Rattle.spec_text.specs.Ranges.{RangeOf}
use Rattle.spec_edit.specs.Items.{Item, sight_of, is_inside, sights_in}
use Rattle.spec_edit.proofs.Steps.{Step, before_of, after_of, item_after, IsLeft, Keeps, Clear}
use Rattle.spec_labels.proofs.SpotLaws.{within-after}

-- What stands in a segment of two texts one behind the other.
pub sights_in-append : (bounds : Bounds) (xs ys : List Item) → sights_in bounds (xs ++ ys) ≡ sights_in bounds xs ++ sights_in bounds ys
sights_in-append bounds xs ys =
    ap (map sight_of) (filter-append (is_inside bounds) xs ys) ∙ map-append sight_of (filter (is_inside bounds) xs) (filter (is_inside bounds) ys)

-- Items that the edit moves at most show the same.
pub sights_in-moved : (range : RangeOf) (bounds new : Bounds) (items : List Item) → BoundsFollow range bounds new → All (IsLeft range) items
    → sights_in new (map (item_after range) items) ≡ sights_in bounds items
sights_in-moved range bounds new [] follow left = refl
sights_in-moved range bounds new (item ∷ items) follow left =
    let same = within-after range bounds new item.spot follow (All-head (IsLeft range) item items left) in
    let rest = sights_in-moved range bounds new items follow (All-tail (IsLeft range) item items left) in
    let later = filter (is_inside new) (map (item_after range) items) in
    ap (λ b. map sight_of (cond b (item_after range item ∷ later) later)) same ∙ by (is_within bounds item.spot) rest
  where
    by : (b : Bool) → map sight_of (filter (is_inside new) (map (item_after range) items)) ≡ map sight_of (filter (is_inside bounds) items)
        → map sight_of (cond b (item_after range item ∷ filter (is_inside new) (map (item_after range) items)) (filter (is_inside new) (map (item_after range) items)))
        ≡ map sight_of (cond b (item ∷ filter (is_inside bounds) items) (filter (is_inside bounds) items))
    by true rest = ap (λ zs. item.sight ∷ zs) rest
    by false rest = rest

-- One element.
step-same : (range : RangeOf) (bounds new : Bounds) (step : Step) → BoundsFollow range bounds new → Keeps range step → Clear bounds new step
    → sights_in new step.after ≡ sights_in bounds step.before
step-same range bounds new step follow keeps clear =
    elim (cases_Bool step.touched) [
      | inl touched ↦ clear.after touched ∙ sym (clear.before touched)
      | inr untouched ↦
          ap (sights_in new) (keeps.moved untouched)
          ∙ sights_in-moved range bounds new step.before follow (keeps.left untouched)
    ]

-- All elements.
pub segment-same : (range : RangeOf) (bounds new : Bounds) (steps : List Step) → BoundsFollow range bounds new → All (Keeps range) steps → All (Clear bounds new) steps
    → sights_in new (flat_map after_of steps) ≡ sights_in bounds (flat_map before_of steps)
segment-same range bounds new [] follow keeps clear = refl
segment-same range bounds new (step ∷ steps) follow keeps clear =
    sights_in-append new step.after (flat_map after_of steps)
    ∙ ap₂ (λ xs ys. xs ++ ys)
    (step-same range bounds new step follow (All-head (Keeps range) step steps keeps) (All-head (Clear bounds new) step steps clear))
    (segment-same range bounds new steps follow (All-tail (Keeps range) step steps keeps) (All-tail (Clear bounds new) step steps clear))
    ∙ sym (sights_in-append bounds step.before (flat_map before_of steps))
