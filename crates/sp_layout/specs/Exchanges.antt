-- Elements of a body exchanged for others (docs/RULES.md, "Windows").
use Rattle.std.specs.Prelude.{◌≡◌, ℕ, zero, suc, List, [], ◌∷◌, ◌++◌, map, take, drop, slice_range}
use Rattle.spec_pages.specs.Rows.{Row, ElementOf}
use Rattle.sp_gap.specs.Runs.{exchanged}
use Rattle.sp_gap.specs.Moves.{shifted, CanShift}
use Rattle.sp_layout.specs.Bodies.{KeyedElements, row_count}

-- An element whose lines stand elsewhere: its place is less and more by so much.
abbrev pub moved_element : ℕ → ℕ → ElementOf → ElementOf
moved_element less more element = record { first = shifted less more element.first; rows = element.rows }

abbrev pub CanMove : ℕ → ℕ → ElementOf → Type 0
CanMove less more element = CanShift less more element.first

-- How many rows stand before the element at a place.
abbrev pub rows_before : KeyedElements → ℕ → ℕ
rows_before body place = row_count (take place body.elements)

-- The elements from one place to before another, with their keys.
abbrev pub run_of : KeyedElements → ℕ → ℕ → KeyedElements
run_of body from to = record { elements = slice_range body.elements from to; keys = slice_range body.keys (rows_before body from) (rows_before body to) }

-- Others stand in their place, and the later ones are moved.
abbrev pub with_run : KeyedElements → ℕ → ℕ → KeyedElements → ℕ → ℕ → KeyedElements
with_run body from to others less more = record {
  elements = take from body.elements ++ (others.elements ++ map (moved_element less more) (drop to body.elements));
  keys = exchanged body.keys (rows_before body from) (rows_before body to) others.keys;
}

-- Elements of which the one at a place has other rows.
abbrev pub with_rows_at : List ElementOf → ℕ → List Row → List ElementOf
with_rows_at [] place rows = []
with_rows_at (element ∷ elements) zero rows = record { first = element.first; rows = rows } ∷ elements
with_rows_at (element ∷ elements) (suc place) rows = element ∷ with_rows_at elements place rows

abbrev pub with_rows : KeyedElements → ℕ → List Row → KeyedElements
with_rows body place rows = record { elements = with_rows_at body.elements place rows; keys = body.keys }

-- The rows of the element at a place; none where there is no such element.
abbrev pub rows_at : List ElementOf → ℕ → List Row
rows_at [] place = []
rows_at (element ∷ elements) zero = element.rows
rows_at (element ∷ elements) (suc place) = rows_at elements place

-- Rows with the same shapes and marks, one by one: to page ends, and by their stars, they are alike.
pub record AreRowsAlike (rows others : List Row) : Type 0 where
  pub shapes : map (λ (row : Row). row.shape) rows ≡ map (λ (row : Row). row.shape) others
  pub marks : map (λ (row : Row). row.mark) rows ≡ map (λ (row : Row). row.mark) others
