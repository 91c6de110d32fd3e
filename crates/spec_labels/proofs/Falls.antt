-- The first label that isn't above the one before it.
use Rattle.std.proofs.Common.{◌≡◌, ℕ, suc, ◌+◌, ◌<◌, ◌≤◌, Bool, true, false, not, cond, List, [], ◌∷◌, length, get_or, drop, drop-cons, add-one, is_lt, Ordering, Less, Equal, Greater, refl, ap, ap₂, sym, ◌∙◌, arith}
use Rattle.std.specs.Prelude.{Option, Some, None, AllPairs, zip, position, option_map, option_and_then, slice_get}
use Rattle.std.specs.List.{position_from}
use Rattle.std.proofs.lemmas.Iterator.Adapters.{position_from-zero}
use Rattle.std.proofs.lemmas.List.{drop_all}
use Rattle.std.proofs.lemmas.List.Elements.{All-cons, All-weaker}
use Rattle.std.proofs.lemmas.List.Kept.{AllPairs-cons}
use Rattle.std.proofs.lemmas.List.Quantifiers.{position-Some}
use Rattle.std.proofs.lemmas.Option.{slice_get-get_or}
use Rattle.spec_text.proofs.ListLaws.{pairs-head}
use Rattle.spec_labels.specs.Labels.{LabelOf, label_cmp, Below}
use Rattle.spec_labels.specs.Scenes.{HeadingOf, first_fall, unlocked_labels, disordered_place}
use Rattle.spec_labels.proofs.LabelOrder.{Below-transitive}
use Rattle.spec_labels.proofs.HeadingLabels.{length-unlocked_labels}

-- A label and the one behind it.
abbrev Pair : Type 0
Pair = LabelOf × LabelOf

-- The second label isn't above the first.
abbrev is_fall : Pair → Bool
is_fall pair = not (is_lt (label_cmp pair.0 pair.1))

-- The first fall of these pairs, the first of which stands at a place.
abbrev fall_from : ℕ → List Pair → Option ℕ
fall_from place pairs = position_from is_fall place pairs

-- Labels in pairs with those behind them, from a place on.
abbrev pairs_from : List LabelOf → ℕ → List Pair
pairs_from labels place = zip (drop place labels) (drop (place + 1) labels)

label-step : (labels : List LabelOf) (place : ℕ) (one : LabelOf) → place < length labels → one ≡ get_or labels place one → drop place labels ≡ one ∷ drop (place + 1) labels
label-step labels place one within here =
    drop-cons labels place one within ∙ ap₂ (λ (l : LabelOf) (k : ℕ). l ∷ drop k labels) (sym here) (sym (add-one place))

-- These labels stand at a place and directly behind it.
pub record StandAt (labels : List LabelOf) (place : ℕ) (one other : LabelOf) : Type 0 where
  pub within : place + 1 < length labels
  pub first : one ≡ get_or labels place one
  pub second : other ≡ get_or labels (place + 1) other

pairs-step : (labels : List LabelOf) (place : ℕ) (one other : LabelOf) → StandAt labels place one other → pairs_from labels place ≡ (one, other) ∷ pairs_from labels (place + 1)
pairs-step labels place one other stand =
    let first : drop place labels ≡ one ∷ drop (place + 1) labels = label-step labels place one (omega (arith, stand.within)) stand.first in
    let second : drop (place + 1) labels ≡ other ∷ drop (place + 1 + 1) labels = label-step labels (place + 1) other stand.within stand.second in
    ap₂ (λ (xs ys : List LabelOf). zip xs ys) first second

-- No label before a place falls.
pub record Rises (labels : List LabelOf) (place : ℕ) : Type 0 where
  pub so_far : fall_from place (pairs_from labels place) ≡ fall_from 0 (pairs_from labels 0)

pub Rises-none : (labels : List LabelOf) → Rises labels 0
Rises-none labels = record { so_far = refl }

pub Rises-more : (labels : List LabelOf) (place : ℕ) (one other : LabelOf) → StandAt labels place one other → is_lt (label_cmp one other) ≡ true
    → Rises labels place → Rises labels (place + 1)
Rises-more labels place one other stand rises so = record {
  so_far =
      let rest = fall_from (place + 1) (pairs_from labels (place + 1)) in
      sym (ap (fall_from place) (pairs-step labels place one other stand) ∙ ap (λ b. cond (not b) (Some place) rest) rises) ∙ so.so_far;
}

first_fall-from : (labels : List LabelOf) → first_fall labels ≡ option_map (λ place. place + 1) (fall_from 0 (pairs_from labels 0))
first_fall-from labels = ap (option_map (λ place. place + 1)) (position_from-zero is_fall (zip labels (drop 1 labels)))

pub Rises-falls : (labels : List LabelOf) (place : ℕ) (one other : LabelOf) → StandAt labels place one other → is_lt (label_cmp one other) ≡ false
    → Rises labels place → Some (place + 1) ≡ first_fall labels
Rises-falls labels place one other stand falls so =
    let rest = fall_from (place + 1) (pairs_from labels (place + 1)) in
    sym (first_fall-from labels ∙ ap (option_map (λ k. k + 1)) (sym so.so_far ∙ ap (fall_from place) (pairs-step labels place one other stand) ∙ ap (λ b. cond (not b) (Some place) rest) falls))

zip-none : (labels : List LabelOf) → zip {X = LabelOf} labels [] ≡ []
zip-none [] = refl
zip-none (label ∷ labels) = refl

pub Rises-all : (labels : List LabelOf) (place : ℕ) → length labels ≤ place + 1 → Rises labels place → None ≡ first_fall labels
Rises-all labels place all so =
    let none : pairs_from labels place ≡ [] = ap (zip (drop place labels)) (drop_all (place + 1) labels all) ∙ zip-none (drop place labels) in
    sym (first_fall-from labels ∙ ap (option_map (λ k. k + 1)) (sym so.so_far ∙ ap (fall_from place) none))

-- The first fall is the place of a label.
length-zip : (label : LabelOf) (labels : List LabelOf) → length (zip (label ∷ labels) labels) ≡ length labels
length-zip label [] = refl
length-zip label (next ∷ labels) = ap suc (length-zip next labels)

pub first_fall-within : (labels : List LabelOf) (place : ℕ) → first_fall labels ≡ Some place → place < length labels
first_fall-within [] place is = cc
first_fall-within (label ∷ labels) place is = by (position is_fall (zip (label ∷ labels) labels)) refl
  where
    by : (o : Option ℕ) → position is_fall (zip (label ∷ labels) labels) ≡ o → place < length (label ∷ labels)
    by None none = let no_more : None ≡ Some place = sym (ap (option_map (λ (k : ℕ). k + 1)) none) ∙ is in cc
    by (Some k) at =
        let same : Some (k + 1) ≡ Some place = sym (ap (option_map (λ (j : ℕ). j + 1)) at) ∙ is in
        let number : k + 1 ≡ place = cc in
        let found = position-Some is_fall (zip (label ∷ labels) labels) k (label, label) at in
        omega (arith, number, found.0, length-zip label labels)

-- Labels of which none falls rise.
rises-from : (place : ℕ) (low : LabelOf) (labels : List LabelOf) → fall_from place (zip (low ∷ labels) labels) ≡ None → AllPairs Below (low ∷ labels)
rises-from place low [] none = λ i j d less within. absurd (omega (arith, less, within))
rises-from place low (next ∷ labels) none = by (label_cmp low next) refl (rises-from (place + 1) next labels) none
  where
    rest : Option ℕ
    rest = fall_from (place + 1) (zip (next ∷ labels) labels)

    by : (o : Ordering) → label_cmp low next ≡ o → (rest ≡ None → AllPairs Below (next ∷ labels)) → cond (not (is_lt o)) (Some place) rest ≡ None → AllPairs Below (low ∷ next ∷ labels)
    by Less is rise later =
        let rising = rise later in
        let below : Below low next = record { less = is } in
        AllPairs-cons Below low (next ∷ labels)
        (All-cons (Below low) next labels below (All-weaker (Below next) (Below low) (λ other more. Below-transitive below more) labels (pairs-head Below next labels rising)))
        rising
    by Equal is rise later = cc
    by Greater is rise later = cc

pub no-fall-rises : (labels : List LabelOf) → first_fall labels ≡ None → AllPairs Below labels
no-fall-rises [] none = λ i j d less within. absurd (omega (arith, within))
no-fall-rises (label ∷ labels) none = rises-from 0 label labels (at_none (fall_from 0 (zip (label ∷ labels) labels)) (sym (first_fall-from (label ∷ labels)) ∙ none))
  where
    at_none : (o : Option ℕ) → option_map (λ (place : ℕ). place + 1) o ≡ None → o ≡ None
    at_none None is = refl
    at_none (Some k) is = cc

-- The heading at the first fall.
pub disordered_place-at : (headings : List HeadingOf) (place : ℕ) (d : HeadingOf) → place < length headings → first_fall (unlocked_labels headings) ≡ Some place
    → disordered_place headings ≡ Some (get_or headings place d).place
disordered_place-at headings place d within is =
    ap (λ o. option_map (λ (it : HeadingOf). it.place) (option_and_then (λ k. slice_get headings k) o)) is
    ∙ ap (option_map (λ (it : HeadingOf). it.place)) (slice_get-get_or headings place d within)

pub disordered_place-none : (headings : List HeadingOf) → first_fall (unlocked_labels headings) ≡ None → disordered_place headings ≡ None
disordered_place-none headings is = ap (λ o. option_map (λ (it : HeadingOf). it.place) (option_and_then (λ k. slice_get headings k) o)) is

-- Where no heading is out of order, no label falls.
pub ordered-no-fall : (headings : List HeadingOf) → disordered_place headings ≡ None → first_fall (unlocked_labels headings) ≡ None
ordered-no-fall headings none = by (first_fall (unlocked_labels headings)) refl
  where
    by : (o : Option ℕ) → first_fall (unlocked_labels headings) ≡ o → first_fall (unlocked_labels headings) ≡ None
    by None is = is
    by (Some place) is =
        let d : HeadingOf = record { place = 0; id = 0; written = false; number = None } in
        let within : place < length headings = omega (arith, first_fall-within (unlocked_labels headings) place is, length-unlocked_labels headings) in
        let no_more : None ≡ Some (get_or headings place d).place = sym none ∙ disordered_place-at headings place d within is in cc
