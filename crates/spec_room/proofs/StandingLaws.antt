-- The texts that a room stands for: putting one behind, leaving out the first ones, and the text at a version.
use Rattle.std.proofs.Common.{◌≡◌, ℕ, zero, suc, ◌+◌, ◌-◌, ◌≤◌, List, [], ◌∷◌, ◌++◌, length, drop, get_or, sym, arith, refl, subst}
use Rattle.spec_text.specs.Ranges.{RangeOf}
use Rattle.spec_room.specs.Changes.{Text, Changes}
use Rattle.spec_room.specs.Rooms.{last_of}
use Rattle.spec_room.specs.Standing.{Stands}

-- There is one text more than there are changes.
pub stands-length : (changes : List RangeOf) (texts : List Text) (now : Text) → Stands changes texts now → length texts ≡ length changes + 1
stands-length [] [] now stands = absurd stands
stands-length [] (text ∷ []) now stands = refl
stands-length [] (text ∷ next ∷ texts) now stands = absurd stands
stands-length (change ∷ changes) [] now stands = absurd stands
stands-length (change ∷ changes) (text ∷ []) now stands = absurd stands
stands-length (change ∷ changes) (text ∷ next ∷ texts) now stands =
    let rest = stands-length changes (next ∷ texts) now stands.1 in
    omega (arith, rest)

-- A further change puts its text behind.
pub stands_put : (changes : List RangeOf) (texts : List Text) (now new : Text) (change : RangeOf) → Stands changes texts now → Changes change now new → Stands (changes ++ change ∷ []) (texts ++ new ∷ []) new
stands_put [] [] now new change stands made = absurd stands
stands_put [] (text ∷ []) now new change stands made = (subst (λ (old : Text). Changes change old new) (sym stands) made, refl)
stands_put [] (text ∷ next ∷ texts) now new change stands made = absurd stands
stands_put (first ∷ changes) [] now new change stands made = absurd stands
stands_put (first ∷ changes) (text ∷ []) now new change stands made = absurd stands
stands_put (first ∷ changes) (text ∷ next ∷ texts) now new change stands made = (stands.0, stands_put changes (next ∷ texts) now new change stands.1 made)

-- The first texts may be left out with their changes.
pub stands_drop : (n : ℕ) (changes : List RangeOf) (texts : List Text) (now : Text) → n ≤ length changes → Stands changes texts now → Stands (drop n changes) (drop n texts) now
stands_drop zero changes texts now few stands = stands
stands_drop (suc n) [] texts now few stands = absurd (omega arith)
stands_drop (suc n) (change ∷ changes) [] now few stands = absurd stands
stands_drop (suc n) (change ∷ changes) (text ∷ []) now few stands = absurd stands
stands_drop (suc n) (change ∷ changes) (text ∷ next ∷ texts) now few stands = stands_drop n changes (next ∷ texts) now (omega arith) stands.1

-- From one text on.
pub record StandsFrom (changes : List RangeOf) (text now : Text) : Type 0 where
  pub later : List Text
  pub stands : Stands changes (text ∷ later) now

pub stands_from : (n : ℕ) (changes : List RangeOf) (texts : List Text) (now : Text) → n ≤ length changes → Stands changes texts now → StandsFrom (drop n changes) (get_or texts n []) now
stands_from zero changes [] now few stands = absurd (let e = stands-length changes [] now stands in omega (arith, e))
stands_from zero changes (text ∷ texts) now few stands = record { later = texts; stands = stands }
stands_from (suc n) [] texts now few stands = absurd (omega arith)
stands_from (suc n) (change ∷ changes) [] now few stands = absurd stands
stands_from (suc n) (change ∷ changes) (text ∷ []) now few stands = absurd stands
stands_from (suc n) (change ∷ changes) (text ∷ next ∷ texts) now few stands = stands_from n changes (next ∷ texts) now (omega arith) stands.1

-- A text put behind, where as many are left out as are too many.
pub stands_last : (most : ℕ) (changes : List RangeOf) (texts : List Text) (now new : Text) (change : RangeOf) → Stands changes texts now → Changes change now new → Stands (last_of most (changes ++ change ∷ [])) (last_of (most + 1) (texts ++ new ∷ [])) new
stands_last most changes texts now new change stands made =
    let longer = stands_put changes texts now new change stands made in
    let texts_len = stands-length (changes ++ change ∷ []) (texts ++ new ∷ []) new longer in
    let n : ℕ = length (changes ++ change ∷ []) - most in
    let few : n ≤ length (changes ++ change ∷ []) = omega arith in
    let same : n ≡ length (texts ++ new ∷ []) - (most + 1) = omega (arith, texts_len) in
    subst (λ (k : ℕ). Stands (drop n (changes ++ change ∷ [])) (drop k (texts ++ new ∷ [])) new) same (stands_drop n (changes ++ change ∷ []) (texts ++ new ∷ []) new few longer)
