-- What page ends and page records see of a text: its rows and its page breaks, each at a spot.
use Rattle.std.proofs.Common.{◌≡◌, ℕ, suc, ◌+◌, ◌≤◌, Bool, List, [], ◌∷◌, ◌++◌, length, map, inl, inr, refl, ap, ◌∙◌, arith, length-append}
use Rattle.std.specs.Prelude.{Contains, filter}
use Rattle.std.proofs.lemmas.List.Elements.{filter-append}
use Rattle.spec_text.specs.Ranges.{RangeOf}
use Rattle.spec_text.proofs.ListLaws.{Contains-first, Contains-later, Contains-either}
use Rattle.spec_pages.specs.declared.Shape.{Shape}
use Rattle.spec_labels.specs.Spots.{Spot, is_ahead, spot_after}

pub data Mark : Type 0 where
  page_break : Spot → Mark
  row : Spot → Shape → Mark

abbrev pub spot_in : Mark → Spot
spot_in (page_break spot) = spot
spot_in (row spot shape) = spot

-- It stands before a spot.
abbrev pub is_before : Spot → Mark → Bool
is_before spot mark = is_ahead (spot_in mark) spot

abbrev pub shapes : List Mark → List Shape
shapes [] = []
shapes (page_break spot ∷ marks) = shapes marks
shapes (row spot shape ∷ marks) = shape ∷ shapes marks

-- How many rows there are.
abbrev pub rows : List Mark → ℕ
rows marks = length (shapes marks)

-- The rows before which page breaks stand, where so many rows stand before these.
abbrev pub breaks : ℕ → List Mark → List ℕ
breaks count [] = []
breaks count (page_break spot ∷ marks) = count ∷ breaks count marks
breaks count (row spot shape ∷ marks) = breaks (count + 1) marks

-- How many rows stand before a spot.
abbrev pub start : List Mark → Spot → ℕ
start marks spot = rows (filter (is_before spot) marks)

-- What an edit moved and didn't change.
abbrev pub mark_after : RangeOf → Mark → Mark
mark_after range (page_break spot) = page_break (spot_after range spot)
mark_after range (row spot shape) = row (spot_after range spot) shape

pub shapes-append : (xs ys : List Mark) → shapes (xs ++ ys) ≡ shapes xs ++ shapes ys
shapes-append [] ys = refl
shapes-append (page_break spot ∷ xs) ys = shapes-append xs ys
shapes-append (row spot shape ∷ xs) ys = ap (λ (l : List Shape). shape ∷ l) (shapes-append xs ys)

pub rows-append : (xs ys : List Mark) → rows (xs ++ ys) ≡ rows xs + rows ys
rows-append xs ys = ap length (shapes-append xs ys) ∙ length-append (shapes xs) (shapes ys)

pub breaks-append : (count : ℕ) (xs ys : List Mark) → breaks count (xs ++ ys) ≡ breaks count xs ++ breaks (count + rows xs) ys
breaks-append count [] ys = let e : count ≡ count + 0 = omega arith in ap (λ n. breaks n ys) e
breaks-append count (page_break spot ∷ xs) ys = ap (λ (l : List ℕ). count ∷ l) (breaks-append count xs ys)
breaks-append count (row spot shape ∷ xs) ys =
    let e : count + 1 + rows xs ≡ count + suc (rows xs) = omega arith in
    breaks-append (count + 1) xs ys ∙ ap (λ n. breaks (count + 1) xs ++ breaks n ys) e

pub start-append : (xs ys : List Mark) (spot : Spot) → start (xs ++ ys) spot ≡ start xs spot + start ys spot
start-append xs ys spot = ap rows (filter-append (is_before spot) xs ys) ∙ rows-append (filter (is_before spot) xs) (filter (is_before spot) ys)

-- ---- moved

pub shapes-moved : (range : RangeOf) (marks : List Mark) → shapes (map (mark_after range) marks) ≡ shapes marks
shapes-moved range [] = refl
shapes-moved range (page_break spot ∷ marks) = shapes-moved range marks
shapes-moved range (row spot shape ∷ marks) = ap (λ (l : List Shape). shape ∷ l) (shapes-moved range marks)

pub breaks-moved : (range : RangeOf) (count : ℕ) (marks : List Mark) → breaks count (map (mark_after range) marks) ≡ breaks count marks
breaks-moved range count [] = refl
breaks-moved range count (page_break spot ∷ marks) = ap (λ (l : List ℕ). count ∷ l) (breaks-moved range count marks)
breaks-moved range count (row spot shape ∷ marks) = breaks-moved range (count + 1) marks

-- ---- places of page breaks

pub none-there : (q : ℕ) → Contains [] q → ⊥
none-there q found = let inside = found.1 in omega (arith, inside)

-- A page break stands before one of these rows, or at their end.
pub breaks-among : (count : ℕ) (marks : List Mark) (q : ℕ) → Contains (breaks count marks) q → (count ≤ q) × (q ≤ count + rows marks)
breaks-among count [] q found = absurd (none-there q found)
breaks-among count (page_break spot ∷ marks) q found = elim (Contains-either count q (breaks count marks) found) [
  | inl is ↦ (omega (arith, is), omega (arith, is))
  | inr rest ↦ breaks-among count marks q rest
]
breaks-among count (row spot shape ∷ marks) q found =
    let rest = breaks-among (count + 1) marks q found in (omega (arith, rest.0), omega (arith, rest.1))

-- Where other rows stand before them, they move with these.
pub breaks-shift : (one other : ℕ) (marks : List Mark) (p q : ℕ) → p + other ≡ q + one → Contains (breaks one marks) p → Contains (breaks other marks) q
breaks-shift one other [] p q shift found = absurd (none-there p found)
breaks-shift one other (page_break spot ∷ marks) p q shift found = elim (Contains-either one p (breaks one marks) found) [
  | inl is ↦ Contains-first other q (breaks other marks) (omega (arith, is, shift))
  | inr rest ↦ Contains-later other q (breaks other marks) (breaks-shift one other marks p q shift rest)
]
breaks-shift one other (row spot shape ∷ marks) p q shift found = breaks-shift (one + 1) (other + 1) marks p q (omega (arith, shift)) found
