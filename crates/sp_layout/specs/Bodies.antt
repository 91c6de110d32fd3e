-- Elements one behind the other, with what is asked of their rows (docs/RULES.md, "Elements").
use Rattle.std.specs.Prelude.{◌≡◌, ℕ, ◌+◌, ◌<◌, ◌≤◌, List, [], ◌∷◌, ◌++◌, length, map, take}
use Rattle.spec_text.specs.Lines.{LineState}
use Rattle.spec_pages.specs.declared.Shape.{Shape}
use Rattle.spec_pages.specs.Rows.{Row, ElementOf, placed_rows}
use Rattle.spec_labels.specs.declared.RowKey.{RowKey}
use Rattle.spec_sheets.specs.Layout.{placed_in}
use Rattle.spec_sheets.specs.Shown.{row_key, heading_count}
use Rattle.sp_layout.specs.RowFacts.{FactsOf}

-- Elements, and the keys of their rows.
pub record KeyedElements : Type 0 where
  pub elements : List ElementOf
  pub keys : List RowKey

-- The same of a body, and for how many elements and rows it has room without taking memory.
pub record BodyOf : Type 0 where
  pub elements : List ElementOf
  pub keys : List RowKey
  pub room : ℕ
  pub row_room : ℕ

abbrev pub keyed_elements : BodyOf → KeyedElements
keyed_elements body = record { elements = body.elements; keys = body.keys }

abbrev pub no_elements : KeyedElements
no_elements = record { elements = []; keys = [] }

-- Elements of these lines.
abbrev pub body_of : List LineState → List ElementOf → KeyedElements
body_of lines elements = record { elements = elements; keys = map (row_key lines) (placed_in elements) }

-- One more element.
abbrev pub with_element : List LineState → KeyedElements → ElementOf → KeyedElements
with_element lines body element =
    record { elements = body.elements ++ element ∷ []; keys = body.keys ++ map (row_key lines) (placed_rows element) }

-- How many rows elements have, and what page ends see of them, and their marks.
abbrev pub row_count : List ElementOf → ℕ
row_count elements = length (placed_in elements)

abbrev pub shapes_in : List ElementOf → List Shape
shapes_in elements = map (λ (row : Row). row.shape) (placed_in elements)

abbrev pub marks_in : List ElementOf → List ℕ
marks_in elements = map (λ (row : Row). row.mark) (placed_in elements)

-- What stands before each element, where so much stands before the first: by the size of an element.
abbrev pub starts_by : (ElementOf → ℕ) → ℕ → List ElementOf → List ℕ
starts_by size count [] = []
starts_by size count (element ∷ elements) = count ∷ starts_by size (count + size element) elements

abbrev pub rows_of : ElementOf → ℕ
rows_of element = length element.rows

abbrev pub headings_of : ElementOf → ℕ
headings_of element = heading_count (element ∷ [])

-- What a body keeps.
pub record BodyParts : Type 0 where
  pub elements : List ElementOf
  pub facts : FactsOf
  pub row_starts : List ℕ
  pub heading_starts : List ℕ
  pub rows : ℕ
  pub headings : ℕ

-- What it keeps is that of its elements.
pub record IsBody (parts : BodyParts) : Type 0 where
  pub shapes : parts.facts.shapes ≡ shapes_in parts.elements
  pub marks : parts.facts.marks ≡ marks_in parts.elements
  pub keys : length parts.facts.keys ≡ row_count parts.elements
  pub row_starts : parts.row_starts ≡ starts_by rows_of 0 parts.elements
  pub heading_starts : parts.heading_starts ≡ starts_by headings_of 0 parts.elements
  pub rows : parts.rows ≡ row_count parts.elements
  pub headings : parts.headings ≡ heading_count parts.elements

-- The element at a place is that in which a row stands.
pub record StandsIn (elements : List ElementOf) (row place : ℕ) : Type 0 where
  pub inside : place < length elements
  pub from : row_count (take place elements) ≤ row
  pub to : row < row_count (take (place + 1) elements)

-- Elements of a page, the rows of the page among theirs, and how many headings stand before them.
pub record PageOf : Type 0 where
  pub elements : List ElementOf
  pub from : ℕ
  pub to : ℕ
  pub headings : ℕ

-- The page has the elements in which these rows stand, and the rows are those.
pub record IsPageOf (elements : List ElementOf) (from to : ℕ) (page : PageOf) : Type 0 where
  pub front : List ElementOf
  pub back : List ElementOf
  pub split : elements ≡ front ++ (page.elements ++ back)
  pub starts : from ≡ row_count front + page.from
  pub ends : to ≡ row_count front + page.to
  pub within : page.to ≤ row_count page.elements
  pub headings : page.headings ≡ heading_count front
