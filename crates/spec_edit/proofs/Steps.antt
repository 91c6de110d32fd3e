-- A text before and after an edit, element by element.
use Rattle.std.specs.Prelude.{◌≡◌, ◌⊎◌, ℕ, ◌+◌, ◌<◌, ◌≤◌, Bool, true, false, List, [], ◌∷◌, ◌++◌, length, map, All, AllPairs}
use Rattle.std.specs.List.{list_any}
use Rattle.spec_script.specs.LongestRuns.{Group, members}
use Rattle.spec_script.specs.Stanzas.{PlacedBlock}
use Rattle.spec_text.specs.Ranges.{RangeOf, IsOutside}
use Rattle.spec_pages.specs.OwnPages.{AreJoined}
use Rattle.spec_labels.specs.Spots.{Spot, is_ahead, AtMost, Bounds, spot_after}
use Rattle.spec_edit.specs.Items.{Item, all_sights, sights_in, shapes_among, front_of, back_of}

-- An element before and after an edit: whether it is touched, whether it was and is there, and what it has.
pub record Step : Type 0 where
  pub touched : Bool
  pub was : Bool
  pub stays : Bool
  pub before : List Item
  pub after : List Item

abbrev pub before_of : Step → List Item
before_of step = step.before

abbrev pub after_of : Step → List Item
after_of step = step.after

abbrev pub was_there : Step → Bool
was_there step = step.was

abbrev pub is_there : Step → Bool
is_there step = step.stays

-- An item that the edit moved and didn't change.
abbrev pub item_after : RangeOf → Item → Item
item_after range item = record { spot = spot_after range item.spot; sight = item.sight }

abbrev pub IsLeft : RangeOf → Item → Type 0
IsLeft range item = IsOutside range item.spot.place

-- An element that the edit doesn't touch stands outside its range, and is moved at most.
pub record Keeps (range : RangeOf) (step : Step) : Type 0 where
  pub left : step.touched ≡ false → All (IsLeft range) step.before
  pub moved : step.touched ≡ false → step.after ≡ map (item_after range) step.before

-- An element that the edit touches has nothing in the segment, before and after.
pub record Clear (old new : Bounds) (step : Step) : Type 0 where
  pub before : step.touched ≡ true → sights_in old step.before ≡ []
  pub after : step.touched ≡ true → sights_in new step.after ≡ []

-- Elements of a text: what each has, whether it is touched, and whether it may stand in a segment (a title page doesn't).
pub record TextOf (E : Type 0) : Type 0 where
  pub items : E → List Item
  pub touched : E → Bool
  pub in_body : E → Bool

-- An element that stays, with what it is after the edit; one that is gone; one that is new.
abbrev pub stays : {E : Type 0} → TextOf E → TextOf E → (E → E) → E → Step
stays old new move it = record { touched = old.touched it; was = old.in_body it; stays = new.in_body (move it); before = old.items it; after = new.items (move it) }

abbrev pub goes : {E : Type 0} → TextOf E → E → Step
goes old it = record { touched = true; was = old.in_body it; stays = false; before = old.items it; after = [] }

abbrev pub comes : {E : Type 0} → TextOf E → E → Step
comes new it = record { touched = true; was = false; stays = new.in_body it; before = []; after = new.items it }

-- Elements in front that stay, those that go, those that come, and those behind that stay.
abbrev pub edit_steps : {E : Type 0} → TextOf E → TextOf E → (E → E) → (E → E) → List E → List E → List E → List E → List Step
edit_steps old new one other front gone come back =
    map (stays old new one) front ++ (map (goes old) gone ++ (map (comes new) come ++ map (stays old new other) back))

-- An element stands in the segment of the rows from s to before e, where so many rows stand before it and the segment has a row:
-- one of its rows does; or it has none, and the last row before it or the first behind it does.
abbrev pub Stands : ℕ → ℕ → ℕ → List Item → Type 0
Stands s e before items =
    let rows = length (shapes_among (map (λ (item : Item). item.sight) items)) in
    ((0 < rows) × (s < before + rows) × (before < e)) ⊎ ((rows ≡ 0) × (s ≤ before) × (before ≤ e))

-- No touched element of a text stands in the segment; so many rows stand before these.
abbrev pub NoneTouchedStands : {E : Type 0} → TextOf E → ℕ → ℕ → ℕ → List E → Type 0
NoneTouchedStands text s e before [] = Unit {0}
NoneTouchedStands text s e before (it ∷ elements) =
    (text.in_body it ≡ true → text.touched it ≡ true → Stands s e before (text.items it) → ⊥)
    × NoneTouchedStands text s e (before + length (shapes_among (map (λ (item : Item). item.sight) (text.items it)))) elements

-- The same of steps.
abbrev pub NoneStepStands : (Step → Bool) → (Step → List Item) → ℕ → ℕ → ℕ → List Step → Type 0
NoneStepStands there items s e before [] = Unit {0}
NoneStepStands there items s e before (step ∷ steps) =
    (there step ≡ true → step.touched ≡ true → Stands s e before (items step) → ⊥)
    × NoneStepStands there items s e (before + length (shapes_among (map (λ (item : Item). item.sight) (items step)))) steps

-- An element is touched where one of its blocks is.
abbrev pub touches : (PlacedBlock → Bool) → Group PlacedBlock → Bool
touches touched element = list_any touched (members element)

-- Spots rise strictly over a text.
abbrev pub AreRising : List Item → Type 0
AreRising items = AllPairs (λ (one other : Item). is_ahead one.spot other.spot ≡ true) items

-- The spot is one of these.
abbrev pub IsOne : List Spot → Spot → Type 0
IsOne [] spot = ⊥
IsOne (one ∷ spots) spot = (one ≡ spot) ⊎ IsOne spots spot

-- No record is anchored inside a segment, and both its ends are anchors; the text begins with the first and ends with the last.
pub record LiesBetween (items : List Item) (spots : List Spot) (bounds : Bounds) : Type 0 where
  pub order : AtMost bounds.low bounds.high
  pub spare : All (λ spot. AtMost spot bounds.low ⊎ AtMost bounds.high spot) spots
  pub begin : (front_of bounds.low items ≡ []) ⊎ IsOne spots bounds.low
  pub end : (back_of bounds.high items ≡ []) ⊎ IsOne spots bounds.high

-- The spots of a text rise, and a speech goes on behind a row exactly where the next row continues it.
pub record IsLaidOut (items : List Item) : Type 0 where
  pub rising : AreRising items
  pub joined : AreJoined (shapes_among (all_sights items))
