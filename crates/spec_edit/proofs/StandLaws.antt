-- An element that doesn't stand in a segment has nothing between the segment's ends.
use Rattle.std.proofs.Common.{◌≡◌, ◌⊎◌, ℕ, ◌+◌, ◌<◌, ◌≤◌, Bool, true, false, not, ◌&&◌, cond, List, [], ◌∷◌, ◌++◌, map, length, get_or, inl, inr, refl, sym, ap, subst, ◌∙◌, arith, length-append, get_or-append-add}
use Rattle.std.specs.Prelude.{filter, All}
use Rattle.std.specs.List.{flat_map}
use Rattle.std.proofs.lemmas.Bool.{cases_Bool}
use Rattle.std.proofs.lemmas.List.{map-append, append_assoc, get_or_append_left}
use Rattle.std.proofs.lemmas.List.Elements.{All-nil, All-cons, All-head, All-tail, filter-append}
use Rattle.spec_text.proofs.ListLaws.{filter-whole, pairs-back}
use Rattle.spec_labels.specs.Spots.{Spot, is_ahead, Bounds, is_within}
use Rattle.spec_edit.specs.Items.{Sight, page_break, row, Item, sight_of, is_inside, sights_in, shapes_among, is_front, all_sights, start_of}
use Rattle.spec_edit.proofs.Steps.{Step, AreRising, Stands, NoneStepStands}
use Rattle.spec_edit.proofs.AmongLaws.{shapes_among-append}
use Rattle.spec_edit.proofs.SplitLaws.{none-behind, rising-front}

-- How many rows items have.
abbrev pub row_count : List Item → ℕ
row_count items = length (shapes_among (all_sights items))

pub row_count-append : (xs ys : List Item) → row_count (xs ++ ys) ≡ row_count xs + row_count ys
row_count-append xs ys =
    ap (λ l. length (shapes_among l)) (map-append sight_of xs ys) ∙ ap length (shapes_among-append (all_sights xs) (all_sights ys))
    ∙ length-append (shapes_among (all_sights xs)) (shapes_among (all_sights ys))

pub start_of-append : (spot : Spot) (xs ys : List Item) → start_of (xs ++ ys) spot ≡ start_of xs spot + start_of ys spot
start_of-append spot xs ys =
    ap row_count (filter-append (is_front spot) xs ys) ∙ row_count-append (filter (is_front spot) xs) (filter (is_front spot) ys)

row_count-filter : (p : Item → Bool) (xs : List Item) → row_count (filter p xs) ≤ row_count xs
row_count-filter p [] = omega arith
row_count-filter p (x ∷ xs) = by (p x) x.sight (row_count-filter p xs)
  where
    by : (b : Bool) (sight : Sight) → row_count (filter p xs) ≤ row_count xs
        → row_count (cond b (record { spot = x.spot; sight = sight } ∷ filter p xs) (filter p xs)) ≤ row_count (record { spot = x.spot; sight = sight } ∷ xs)
    by true page_break rest = rest
    by true (row it) rest = omega (arith, rest)
    by false page_break rest = rest
    by false (row it) rest = omega (arith, rest)

-- Where an item isn't before a spot, the rows before the spot are before the item.
pub not-ahead-start : (spot : Spot) (front : List Item) (x : Item) (later : List Item) → AreRising (front ++ (x ∷ later)) → is_ahead x.spot spot ≡ false
    → start_of (front ++ (x ∷ later)) spot ≤ row_count front
not-ahead-start spot front x later rising fails =
    let closed = rising-front spot (x ∷ later) (pairs-back (λ (a b : Item). is_ahead a.spot b.spot ≡ true) front (x ∷ later) rising) in
    let here : filter (is_front spot) (x ∷ later) ≡ [] =
    ap (λ b. cond b (x ∷ filter (is_front spot) later) (filter (is_front spot) later)) fails ∙ none-behind (is_front spot) x later closed fails in
    let none : start_of (x ∷ later) spot ≡ 0 = ap row_count here in
    omega (arith, start_of-append spot front (x ∷ later), none, row_count-filter (is_front spot) front)

-- Where an item is before a spot, so are all rows before the item, and its own.
pub ahead-start : (spot : Spot) (front : List Item) (x : Item) (later : List Item) → AreRising (front ++ (x ∷ later)) → is_ahead x.spot spot ≡ true
    → row_count front + row_count (x ∷ []) ≤ start_of (front ++ (x ∷ later)) spot
ahead-start spot front x later rising passes =
    let closed = rising-front spot (front ++ (x ∷ later)) rising in
    let zero_at : length front + 0 ≡ length front = omega arith in
    let all : All (λ y. is_front spot y ≡ true) front = λ i d inside.
    subst (λ y. is_front spot y ≡ true) (get_or_append_left front (x ∷ later) d i inside)
    (closed i (length front) d inside (omega (arith, length-append front (x ∷ later)))
    (subst (λ y. is_front spot y ≡ true) (sym (ap (λ n. get_or (front ++ (x ∷ later)) n d) (sym zero_at) ∙ get_or-append-add front (x ∷ later) 0 d)) passes)) in
    let before : start_of front spot ≡ row_count front = ap row_count (filter-whole (is_front spot) front all) in
    let here : start_of (x ∷ later) spot ≡ row_count (x ∷ filter (is_front spot) later) =
    ap (λ b. row_count (cond b (x ∷ filter (is_front spot) later) (filter (is_front spot) later))) passes in
    let own = row_count-append (x ∷ []) (filter (is_front spot) later) in
    omega (arith, start_of-append spot front (x ∷ later), before, here, own)

-- An element has rows alone, or none.
abbrev pub IsOneKind : List Item → Type 0
IsOneKind own = (row_count own ≡ length own) ⊎ (row_count own ≡ 0)

and-false : (a b : Bool) → ((a ≡ true) → (b ≡ true) → ⊥) → (a && b) ≡ false
and-false true true h = absurd (h refl refl)
and-false true false h = refl
and-false false b h = refl

not-true : (a : Bool) → not a ≡ true → a ≡ false
not-true true h = absurd (let bad : ⊥ = cc in bad)
not-true false h = refl

-- One by one: the items of an element that are left, where so many rows stand before them.
none-inside : (bounds : Bounds) (whole front rest zs : List Item) (c n : ℕ) → AreRising whole → whole ≡ front ++ (rest ++ zs)
    → c ≤ row_count front → row_count front + row_count rest ≡ c + n → ((row_count rest ≡ length rest) ⊎ (n ≡ 0))
    → (((0 < n) × (start_of whole bounds.low < c + n) × (c < start_of whole bounds.high)) ⊎ ((n ≡ 0) × (start_of whole bounds.low ≤ c) × (c ≤ start_of whole bounds.high)) → ⊥)
    → sights_in bounds rest ≡ []
none-inside bounds whole front [] zs c n rising is low count kind off = refl
none-inside bounds whole front (x ∷ rest) zs c n rising is low count kind off =
    let rises : AreRising (front ++ (x ∷ (rest ++ zs))) = subst AreRising is rising in
    let split = row_count-append (x ∷ []) rest in
    let out : is_within bounds x.spot ≡ false = and-false (not (is_ahead x.spot bounds.low)) (is_ahead x.spot bounds.high) (λ h g.
    let s = subst (λ (w : List Item). start_of w bounds.low ≤ row_count front) (sym is) (not-ahead-start bounds.low front x (rest ++ zs) rises (not-true (is_ahead x.spot bounds.low) h)) in
    let e = subst (λ (w : List Item). row_count front + row_count (x ∷ []) ≤ start_of w bounds.high) (sym is) (ahead-start bounds.high front x (rest ++ zs) rises g) in
    elim kind [
      | inl rows ↦
          let one : 0 < row_count (x ∷ []) = omega (arith, rows, split, row_count-all rest) in
          off (inl (omega (arith, count, split, low, one), omega (arith, s, count, split, one), omega (arith, e, low, one)))
      | inr none ↦ off (inr (none, omega (arith, s, count, low, none), omega (arith, e, low)))
    ]) in
    let moved : whole ≡ (front ++ (x ∷ [])) ++ (rest ++ zs) = is ∙ sym (append_assoc front (x ∷ []) (rest ++ zs)) in
    let more = row_count-append front (x ∷ []) in
    let kind_rest : (row_count rest ≡ length rest) ⊎ (n ≡ 0) = elim kind [
      | inl rows ↦ inl (omega (arith, rows, split, row_count-all rest, row_count-all (x ∷ [])))
      | inr none ↦ inr none
    ] in
    ap (λ b. map sight_of (cond b (x ∷ filter (is_inside bounds) rest) (filter (is_inside bounds) rest))) out
    ∙ none-inside bounds whole (front ++ (x ∷ [])) rest zs c n rising moved (omega (arith, low, more)) (omega (arith, count, more, split)) kind_rest off
  where
    row_count-all : (xs : List Item) → row_count xs ≤ length xs
    row_count-all [] = omega arith
    row_count-all (y ∷ ys) = by y.sight (row_count-all ys)
      where
        by : (sight : Sight) → row_count ys ≤ length ys → row_count (record { spot = y.spot; sight = sight } ∷ ys) ≤ length (y ∷ ys)
        by page_break h = omega (arith, h)
        by (row it) h = omega (arith, h)

-- An element that doesn't stand in a segment has nothing in it.
pub stands-not : (bounds : Bounds) (xs own zs : List Item) → AreRising (xs ++ (own ++ zs)) → IsOneKind own
    → (Stands (start_of (xs ++ (own ++ zs)) bounds.low) (start_of (xs ++ (own ++ zs)) bounds.high) (row_count xs) own → ⊥)
    → sights_in bounds own ≡ []
stands-not bounds xs own zs rising kind off =
    none-inside bounds (xs ++ (own ++ zs)) xs own zs (row_count xs) (row_count own) rising refl (omega arith) (omega arith)
    (elim kind [ inl rows ↦ inl rows | inr none ↦ inr none ]) off

-- What an element of a text is: it has rows alone or none, and nothing where it isn't there.
pub record IsElement (there : Step → Bool) (items : Step → List Item) (step : Step) : Type 0 where
  pub kind : IsOneKind (items step)
  pub none : there step ≡ false → items step ≡ []

clear-from : (bounds : Bounds) (there : Step → Bool) (items : Step → List Item) (whole front : List Item) (steps : List Step)
    → AreRising whole → whole ≡ front ++ flat_map items steps → All (IsElement there items) steps
    → NoneStepStands there items (start_of whole bounds.low) (start_of whole bounds.high) (row_count front) steps
    → All (λ (step : Step). step.touched ≡ true → sights_in bounds (items step) ≡ []) steps
clear-from bounds there items whole front [] rising is elements none = All-nil (λ (step : Step). step.touched ≡ true → sights_in bounds (items step) ≡ [])
clear-from bounds there items whole front (step ∷ steps) rising is elements none =
    let it = All-head (IsElement there items) step steps elements in
    let zs = flat_map items steps in
    let moved : whole ≡ (front ++ items step) ++ zs = is ∙ sym (append_assoc front (items step) zs) in
    All-cons (λ (step : Step). step.touched ≡ true → sights_in bounds (items step) ≡ []) step steps
    (λ touched. elim (cases_Bool (there step)) [
      | inl here ↦ stands-not bounds front (items step) zs (subst AreRising is rising) it.kind
          (subst (λ (w : List Item). Stands (start_of w bounds.low) (start_of w bounds.high) (row_count front) (items step) → ⊥) is (none.0 here touched))
      | inr absent ↦ ap (sights_in bounds) (it.none absent)
    ])
    (clear-from bounds there items whole (front ++ items step) steps rising moved (All-tail (IsElement there items) step steps elements)
    (subst (λ n. NoneStepStands there items (start_of whole bounds.low) (start_of whole bounds.high) n steps) (sym (row_count-append front (items step))) none.1))

-- Where no touched element stands in a segment, none has anything in it.
pub none-stands : (bounds : Bounds) (there : Step → Bool) (items : Step → List Item) (steps : List Step)
    → AreRising (flat_map items steps) → All (IsElement there items) steps
    → NoneStepStands there items (start_of (flat_map items steps) bounds.low) (start_of (flat_map items steps) bounds.high) 0 steps
    → All (λ (step : Step). step.touched ≡ true → sights_in bounds (items step) ≡ []) steps
none-stands bounds there items steps rising elements none = clear-from bounds there items (flat_map items steps) [] steps rising refl elements none
