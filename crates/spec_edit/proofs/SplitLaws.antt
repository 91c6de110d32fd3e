-- A text whose spots rise, cut at the two ends of a segment.
use Rattle.std.proofs.Common.{◌≡◌, zero, suc, ◌≤◌, Bool, true, false, not, ◌&&◌, cond, List, [], ◌∷◌, ◌++◌, map, length, inl, inr, refl, sym, ap, ◌∙◌, arith}
use Rattle.std.specs.Prelude.{filter, AllPairs}
use Rattle.std.proofs.lemmas.Bool.{cases_Bool}
use Rattle.std.proofs.lemmas.List.{map-append, append_assoc}
use Rattle.spec_labels.specs.Spots.{Spot, is_ahead, Bounds, AtMost}
use Rattle.spec_edit.specs.Items.{Sight, page_break, row, Item, sight_of, is_inside, sights_in, shapes_among, is_front, is_back, front_of, back_of, all_sights, start_of}
use Rattle.spec_edit.proofs.Steps.{AreRising}
use Rattle.spec_labels.proofs.SpotLaws.{ahead-then, ahead-atmost}

-- Two tests, of which the second passes what the first does, each at the front of a list.
pub record Fronts {X : Type 0} (p q : X → Bool) (xs : List X) : Type 0 where
  pub both : (x : X) → p x ≡ true → q x ≡ true
  pub first : AllPairs (λ (x y : X). p y ≡ true → p x ≡ true) xs
  pub second : AllPairs (λ (x y : X). q y ≡ true → q x ≡ true) xs

fronts-tail : {X : Type 0} (p q : X → Bool) (x : X) (xs : List X) → Fronts p q (x ∷ xs) → Fronts p q xs
fronts-tail p q x xs f = record {
  both = f.both;
  first = λ i j d less inside. f.first (suc i) (suc j) d (omega (arith, less)) (omega (arith, inside));
  second = λ i j d less inside. f.second (suc i) (suc j) d (omega (arith, less)) (omega (arith, inside));
}

-- No element behind one that fails passes.
pub none-behind : {X : Type 0} (p : X → Bool) (x : X) (xs : List X) → AllPairs (λ (x y : X). p y ≡ true → p x ≡ true) (x ∷ xs) → p x ≡ false → filter p xs ≡ []
none-behind p x [] front fails = refl
none-behind {X} p x (y ∷ ys) front fails =
    let here : p y ≡ false = elim (cases_Bool (p y)) [
      | inl passed ↦ (let e : true ≡ false = sym (front 0 1 x (omega arith) (omega arith) passed) ∙ fails in absurd (let no : ⊥ = cc in no))
      | inr is ↦ is
    ] in
    ap (λ b. cond b (y ∷ filter p ys) (filter p ys)) here ∙ none-behind p x ys rest fails
  where
    rest : AllPairs (λ (a b : X). p b ≡ true → p a ≡ true) (x ∷ ys)
    rest zero zero d less inside = absurd (omega (arith, less))
    rest zero (suc j) d less inside = front 0 (suc (suc j)) d (omega arith) (omega (arith, inside))
    rest (suc i) zero d less inside = absurd (omega (arith, less))
    rest (suc i) (suc j) d less inside = front (suc (suc i)) (suc (suc j)) d (omega (arith, less)) (omega (arith, inside))

-- The front that passes the second test: what passes the first, and what passes the second alone.
pub front-parts : {X : Type 0} (p q : X → Bool) (xs : List X) → Fronts p q xs → filter q xs ≡ filter p xs ++ filter (λ x. not (p x) && q x) xs
front-parts p q [] f = refl
front-parts {X} p q (x ∷ xs) f = by (p x) (q x) refl refl (front-parts p q xs (fronts-tail p q x xs f)) (none-behind p x xs f.first)
  where
    mid : X → Bool
    mid y = not (p y) && q y

    by : (a b : Bool) → p x ≡ a → q x ≡ b → filter q xs ≡ filter p xs ++ filter mid xs → (p x ≡ false → filter p xs ≡ [])
        → cond b (x ∷ filter q xs) (filter q xs) ≡ cond a (x ∷ filter p xs) (filter p xs) ++ cond (not a && b) (x ∷ filter mid xs) (filter mid xs)
    by true true pa qb rest none = ap (λ (zs : List X). x ∷ zs) rest
    by true false pa qb rest none = absurd (let e : true ≡ false = sym (f.both x pa) ∙ qb in let no : ⊥ = cc in no)
    by false true pa qb rest none = ap (λ (zs : List X). x ∷ zs) (rest ∙ ap (λ (zs : List X). zs ++ filter mid xs) (none pa)) ∙ sym (ap (λ (zs : List X). zs ++ (x ∷ filter mid xs)) (none pa))
    by false false pa qb rest none = rest

-- A list is what passes a test at its front, and what fails it.
pub front-back : {X : Type 0} (q : X → Bool) (xs : List X) → AllPairs (λ (x y : X). q y ≡ true → q x ≡ true) xs → xs ≡ filter q xs ++ filter (λ x. not (q x)) xs
front-back q [] front = refl
front-back {X} q (x ∷ xs) front =
    by (q x) refl (front-back q xs (λ i j d less inside. front (suc i) (suc j) d (omega (arith, less)) (omega (arith, inside)))) (none-behind q x xs front)
  where
    by : (b : Bool) → q x ≡ b → xs ≡ filter q xs ++ filter (λ y. not (q y)) xs → (q x ≡ false → filter q xs ≡ [])
        → x ∷ xs ≡ cond b (x ∷ filter q xs) (filter q xs) ++ cond (not b) (x ∷ filter (λ y. not (q y)) xs) (filter (λ y. not (q y)) xs)
    by true is rest none = ap (λ (zs : List X). x ∷ zs) rest
    by false is rest none =
        ap (λ (zs : List X). x ∷ zs) (rest ∙ ap (λ (zs : List X). zs ++ filter (λ y. not (q y)) xs) (none is))
        ∙ sym (ap (λ (zs : List X). zs ++ (x ∷ filter (λ y. not (q y)) xs)) (none is))

-- Rows before a spot stand at the front.
pub rising-front : (spot : Spot) (items : List Item) → AreRising items → AllPairs (λ (x y : Item). is_front spot y ≡ true → is_front spot x ≡ true) items
rising-front spot items rising i j d less inside h = ahead-then _ _ spot (rising i j d less inside) h

rising-fronts : (bounds : Bounds) (items : List Item) → AreRising items → AtMost bounds.low bounds.high → Fronts (is_front bounds.low) (is_front bounds.high) items
rising-fronts bounds items rising order = record {
  both = λ x h. ahead-atmost x.spot bounds.low bounds.high h order;
  first = rising-front bounds.low items rising;
  second = rising-front bounds.high items rising;
}

-- What stands before a segment's end: what stands before the segment, and what stands in it.
pub front-high : (bounds : Bounds) (items : List Item) → AreRising items → AtMost bounds.low bounds.high
    → front_of bounds.high items ≡ front_of bounds.low items ++ sights_in bounds items
front-high bounds items rising order =
    ap (map sight_of) (front-parts (is_front bounds.low) (is_front bounds.high) items (rising-fronts bounds items rising order))
    ∙ map-append sight_of (filter (is_front bounds.low) items) (filter (is_inside bounds) items)

-- A text is what stands before a segment, in it, and behind it.
pub text-parts : (bounds : Bounds) (items : List Item) → AreRising items → AtMost bounds.low bounds.high
    → all_sights items ≡ front_of bounds.low items ++ (sights_in bounds items ++ back_of bounds.high items)
text-parts bounds items rising order =
    ap (map sight_of) (front-back (is_front bounds.high) items (rising-front bounds.high items rising))
    ∙ map-append sight_of (filter (is_front bounds.high) items) (filter (is_back bounds.high) items)
    ∙ ap (λ (zs : List Sight). zs ++ back_of bounds.high items) (front-high bounds items rising order)
    ∙ append_assoc (front_of bounds.low items) (sights_in bounds items) (back_of bounds.high items)

-- More rows stand before a later spot.
pub start_of-rises : (one other : Spot) (items : List Item) → AtMost one other → start_of items one ≤ start_of items other
start_of-rises one other [] order = omega arith
start_of-rises one other (item ∷ items) order =
    by (is_ahead item.spot one) (is_ahead item.spot other) item.sight (λ h. ahead-atmost item.spot one other h order) (start_of-rises one other items order)
  where
    by : (a b : Bool) (sight : Sight) → (a ≡ true → b ≡ true) → start_of items one ≤ start_of items other
        → length (shapes_among (map sight_of (cond a (record { spot = item.spot; sight = sight } ∷ filter (is_front one) items) (filter (is_front one) items))))
        ≤ length (shapes_among (map sight_of (cond b (record { spot = item.spot; sight = sight } ∷ filter (is_front other) items) (filter (is_front other) items))))
    by true true page_break h rest = rest
    by true true (row it) h rest = omega (arith, rest)
    by true false sight h rest = absurd (let e = h refl in let no : ⊥ = cc in no)
    by false true page_break h rest = rest
    by false true (row it) h rest = omega (arith, rest)
    by false false sight h rest = rest
