-- A text laid out (docs/RULES.md, "Elements" and "Pages").
use Rattle.std.specs.Prelude.{◌≡◌, ◌⊎◌, ℕ, ◌+◌, ◌-◌, ◌<◌, Bool, true, false, not, if◌then◌else◌, List, [], ◌∷◌, length, map, filter, slice_index_or}
use Rattle.std.specs.List.{flat_map}
use Rattle.spec_text.specs.Lines.{LineState}
use Rattle.spec_script.specs.declared.Kind.{Kind}
use Rattle.spec_script.specs.declared.Kind.TheVariants as kinds
use Rattle.spec_script.specs.LongestRuns.{Group}
use Rattle.spec_pages.specs.Pages.{continues_speech, goes_on}
use Rattle.spec_pages.specs.Rows.{Row, ElementOf, placed_rows, is_title, single_rows, dual_rows}
use Rattle.spec_sheets.specs.Speakers.{Spoken, text_elements}

-- A block laid out, with the speech beside it where there is one.
abbrev pub laid_beside : List LineState → Spoken → List Spoken → ElementOf
laid_beside lines it [] = record { first = it.placed.first; rows = single_rows lines it.placed.first it.placed.block it.continued }
laid_beside lines it (right ∷ others) =
    record { first = it.placed.first; rows = dual_rows lines it.placed.first it.placed.block it.continued right.placed.first right.placed.block right.continued }

-- An element laid out.
abbrev pub laid_out : List LineState → Group Spoken → ElementOf
laid_out lines element = laid_beside lines element.first element.more

abbrev pub kind_of : Group Spoken → Kind
kind_of element = element.first.placed.block.kind

-- The element is a title page; every other one stands in the body.
abbrev pub is_title_element : Group Spoken → Bool
is_title_element element = is_title (kind_of element)

abbrev pub in_body : Group Spoken → Bool
in_body element = not (is_title_element element)

abbrev pub is_page_break : Kind → Bool
is_page_break kinds.PageBreak = true
is_page_break _ = false

-- How many body rows stand before what is behind an element.
abbrev pub rows_behind : List LineState → ℕ → Group Spoken → ℕ
rows_behind lines count element = if in_body element then count + length (laid_out lines element).rows else count

-- The rows before which page breaks stand, where so many body rows stand before these elements.
abbrev pub breaks_from : List LineState → ℕ → List (Group Spoken) → List ℕ
breaks_from lines count [] = []
breaks_from lines count (element ∷ elements) =
    if is_page_break (kind_of element) then count ∷ breaks_from lines (rows_behind lines count element) elements
    else breaks_from lines (rows_behind lines count element) elements

-- A text laid out: the elements of its title page, those of its body, and the body rows before which page breaks stand.
pub record Layout : Type 0 where
  pub titles : List ElementOf
  pub body : List ElementOf
  pub breaks : List ℕ

-- Elements laid out.
abbrev pub layout_in : List LineState → List (Group Spoken) → Layout
layout_in lines elements = record {
  titles = map (laid_out lines) (filter is_title_element elements);
  body = map (laid_out lines) (filter in_body elements);
  breaks = breaks_from lines 0 elements;
}

-- The rows of elements, with places in the text.
abbrev pub placed_in : List ElementOf → List Row
placed_in elements = flat_map placed_rows elements

-- A row of an element knows how many of the element's rows stand before it and behind it.
pub record KnowsPlace (count place : ℕ) (row : Row) : Type 0 where
  pub index : row.shape.index ≡ place
  pub rest : place + 1 + row.shape.rest ≡ count

abbrev pub AreIndexed : List Row → Type 0
AreIndexed rows = (k : ℕ) (d : Row) → k < length rows → KnowsPlace (length rows) k (slice_index_or rows k d)

-- The key of a row is below another's: its line stands earlier, or they are of one line and its number is lower.
abbrev pub KeyBelow : Row → Row → Type 0
KeyBelow one other = (one.line < other.line) ⊎ ((one.line ≡ other.line) × (one.row < other.row))

-- A row goes on with a speech exactly where that speech goes on behind the row before it; so does neither the first nor the last.
pub record AreJoined (rows : List Row) : Type 0 where
  pub next : (q : ℕ) (d : Row) → 0 < q → q < length rows → continues_speech (slice_index_or rows q d).shape ≡ goes_on (slice_index_or rows (q - 1) d).shape
  pub first : (d : Row) → 0 < length rows → continues_speech (slice_index_or rows 0 d).shape ≡ false
  pub last : (d : Row) → 0 < length rows → goes_on (slice_index_or rows (length rows - 1) d).shape ≡ false

-- The layout of a text, by whether speakers who go on are told.
abbrev pub layout_of : Bool → List LineState → Layout
layout_of speakers lines = layout_in lines (text_elements speakers lines)
