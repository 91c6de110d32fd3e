-- The elements of a text before a change, by those after it (docs/RULES.md, "Edits and records").
use Rattle.std.specs.Prelude.{ℕ, ◌+◌, ◌<◌, ◌≤◌, List, length, map, take, drop, Option, None, Some}
use Rattle.spec_pages.specs.Rows.{Row, ElementOf}
use Rattle.spec_sheets.specs.Layout.{placed_in}
use Rattle.sp_layout.specs.Bodies.{KeyedElements, row_count, BodyOf, keyed_elements}
use Rattle.sp_layout.specs.Exchanges.{AreRowsAlike, moved_element, rows_at, with_rows, with_run}
use Rattle.sp_compare.specs.declared.old_rows.RunPlaces.{RunPlaces}

-- Rows that the element at a place had before a change.
pub record OtherRowsOf : Type 0 where
  pub element : ℕ
  pub rows : List Row

-- It stands behind a run of elements, and page ends see the same of its rows.
pub record AreOtherRows (elements : List ElementOf) (to : ℕ) (other : OtherRowsOf) : Type 0 where
  pub behind : to ≤ other.element
  pub inside : other.element < length elements
  pub alike : AreRowsAlike other.rows (rows_at elements other.element)

-- Elements of which one has such rows, where there are any.
abbrev pub with_others : KeyedElements → Option OtherRowsOf → KeyedElements
with_others body None = body
with_others body (Some other) = with_rows body other.element other.rows

-- So many rows stand before the element that has others, and up to the end of it.
abbrev pub others_from : List ElementOf → ℕ → Option OtherRowsOf → ℕ
others_from elements to None = row_count (take to elements)
others_from elements to (Some other) = row_count (take other.element elements)

abbrev pub others_to : List ElementOf → ℕ → Option OtherRowsOf → ℕ
others_to elements to None = row_count (take to elements)
others_to elements to (Some other) = row_count (take (other.element + 1) elements)

-- The elements before a change after which these are there, and which took others out of the place of a run of them.
abbrev pub old_elements : KeyedElements → Option OtherRowsOf → RunPlaces → KeyedElements → KeyedElements
old_elements news others at gone = with_run (with_others news others) at.from at.to gone at.less at.more

-- The same by bodies.
abbrev pub old_body : BodyOf → Option OtherRowsOf → RunPlaces → BodyOf → KeyedElements
old_body news others at gone = old_elements (keyed_elements news) others at (keyed_elements gone)

-- A `usize` counts their rows, in half of its range.
abbrev pub HasFewRows : KeyedElements → Type 0
HasFewRows body = row_count body.elements ≤ 9223372036854775807

-- The rows of the elements behind those places, with the lines that these had before the change.
abbrev pub rows_behind : BodyOf → Option OtherRowsOf → RunPlaces → List Row
rows_behind news others at = placed_in (map (moved_element at.less at.more) (drop at.to (with_others (keyed_elements news) others).elements))
