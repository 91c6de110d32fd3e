-- Elements of which one has other rows.
use Rattle.std.proofs.Common.{◌≡◌, ◌≢◌, ℕ, zero, suc, ◌<◌, ◌≤◌, Option, Some, None, List, [], ◌∷◌, length, take, drop, get_or, refl, ap, arith, length-append}
use Rattle.std.specs.Prelude.{IfSome}
use Rattle.std.proofs.lemmas.List.{length-map}
use Rattle.spec_pages.specs.Rows.{Row, ElementOf, placed_rows, shifted_row}
use Rattle.spec_sheets.specs.Layout.{placed_in}
use Rattle.sp_layout.specs.Bodies.{KeyedElements, row_count}
use Rattle.sp_layout.specs.Exchanges.{rows_at, with_rows_at}
use Rattle.sp_layout.proofs.RowSwaps.{count-alike, length-alike, length-rows, take-rows}
use Rattle.sp_compare.specs.OldElements.{AreOtherRows, OtherRowsOf, with_others}

-- ---- the rows of an element exchanged

-- The elements behind it stay.
pub drop-past : (elements : List ElementOf) (n place : ℕ) (rows : List Row) → place < n → drop n (with_rows_at elements place rows) ≡ drop n elements
drop-past elements zero place rows low = absurd (omega (arith, low))
drop-past [] (suc n) place rows low = refl
drop-past (element ∷ elements) (suc n) zero rows low = refl
drop-past (element ∷ elements) (suc n) (suc place) rows low = drop-past elements n place rows (omega (arith, low))

-- As many rows stand before each place.
pub count-rows : (elements : List ElementOf) (n place : ℕ) (rows : List Row) → length rows ≡ length (rows_at elements place) → row_count (take n (with_rows_at elements place rows)) ≡ row_count (take n elements)
count-rows elements zero place rows same = refl
count-rows [] (suc n) place rows same = refl
count-rows (element ∷ elements) (suc n) zero rows same =
    let own : ElementOf = record { first = element.first; rows = rows } in
    let one = length-append (placed_rows own) (placed_in (take n elements)) in
    let two = length-append (placed_rows element) (placed_in (take n elements)) in
    let placed = length-map rows (shifted_row element.first) in
    let before = length-map element.rows (shifted_row element.first) in
    omega (arith, same, one, two, placed, before)
count-rows (element ∷ elements) (suc n) (suc place) rows same =
    let rest = count-rows elements n place rows same in
    let one = length-append (placed_rows element) (placed_in (take n (with_rows_at elements place rows))) in
    let two = length-append (placed_rows element) (placed_in (take n elements)) in
    omega (arith, rest, one, two)

-- An element has its rows, or those that came.
own-rows : (elements : List ElementOf) (at : ℕ) (d : ElementOf) → at < length elements → get_or elements at d ≡ record { first = (get_or elements at d).first; rows = rows_at elements at }
own-rows [] at d inside = absurd (omega (arith, inside))
own-rows (element ∷ elements) zero d inside = refl
own-rows (element ∷ elements) (suc at) d inside = own-rows elements at d (omega (arith, inside))

element-rows : (elements : List ElementOf) (at place : ℕ) (rows : List Row) (d : ElementOf) → at < length elements
    → get_or (with_rows_at elements place rows) at d ≡ record { first = (get_or elements at d).first; rows = rows_at (with_rows_at elements place rows) at }
element-rows [] at place rows d inside = absurd (omega (arith, inside))
element-rows (element ∷ elements) zero zero rows d inside = refl
element-rows (element ∷ elements) (suc at) zero rows d inside = own-rows elements at d (omega (arith, inside))
element-rows (element ∷ elements) zero (suc place) rows d inside = refl
element-rows (element ∷ elements) (suc at) (suc place) rows d inside = element-rows elements at place rows d (omega (arith, inside))

pub rows-elsewhere : (elements : List ElementOf) (at place : ℕ) (rows : List Row) → place ≢ at → rows_at (with_rows_at elements place rows) at ≡ rows_at elements at
rows-elsewhere [] at place rows ne = refl
rows-elsewhere (element ∷ elements) zero zero rows ne = absurd (ne refl)
rows-elsewhere (element ∷ elements) (suc at) zero rows ne = refl
rows-elsewhere (element ∷ elements) zero (suc place) rows ne = refl
rows-elsewhere (element ∷ elements) (suc at) (suc place) rows ne = rows-elsewhere elements at place rows (λ e. ne (ap suc e))

-- ---- other rows, where there are any

module _ (body : KeyedElements) (to : ℕ) where
  pub others-count : (others : Option OtherRowsOf) → IfSome others (AreOtherRows body.elements to) → (n : ℕ) → row_count (take n (with_others body others).elements) ≡ row_count (take n body.elements)
  others-count None are n = refl
  others-count (Some it) are n = count-rows body.elements n it.element it.rows (length-alike it.rows (rows_at body.elements it.element) are.alike)

  pub others-all : (others : Option OtherRowsOf) → IfSome others (AreOtherRows body.elements to) → row_count (with_others body others).elements ≡ row_count body.elements
  others-all None are = refl
  others-all (Some it) are = count-alike body.elements it.element it.rows are.alike

  pub others-front : (others : Option OtherRowsOf) → IfSome others (AreOtherRows body.elements to) → (n : ℕ) → n ≤ to → take n (with_others body others).elements ≡ take n body.elements
  others-front None are n low = refl
  others-front (Some it) are n low = let behind = are.behind in take-rows body.elements n it.element it.rows (omega (arith, low, behind))

pub others-size : (body : KeyedElements) (others : Option OtherRowsOf) → length (with_others body others).elements ≡ length body.elements
others-size body None = refl
others-size body (Some it) = length-rows body.elements it.element it.rows

pub others-at : (body : KeyedElements) (others : Option OtherRowsOf) (at : ℕ) (d : ElementOf) → at < length body.elements
    → get_or (with_others body others).elements at d ≡ record { first = (get_or body.elements at d).first; rows = rows_at (with_others body others).elements at }
others-at body None at d inside = own-rows body.elements at d inside
others-at body (Some it) at d inside = element-rows body.elements at it.element it.rows d inside
