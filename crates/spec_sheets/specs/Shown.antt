-- What a page shows of the rows of elements (docs/RULES.md, "Sheets").
use Rattle.std.specs.Prelude.{ℕ, Bool, true, false, ◌&&◌, ◌||◌, ◌==◌, if◌then◌else◌, List, [], ◌∷◌, ◌++◌, length, map, filter, drop, take_while, slice_get, slice_index_or, Option, Some, None, option_map}
use Rattle.std.specs.List.{list_any}
use Rattle.spec_text.specs.Lines.{LineState, line_texts}
use Rattle.spec_script.specs.LongestRuns.{last_of}
use Rattle.spec_pages.specs.declared.RowKind.{RowKind}
use Rattle.spec_pages.specs.declared.RowKind.TheVariants.{Action, Cue}
use Rattle.spec_pages.specs.declared.Shape.{Shape}
use Rattle.spec_pages.specs.Pages.{is_heading}
use Rattle.spec_pages.specs.Rows.{Cell, Row, ElementOf, placed_rows, line_state}
use Rattle.spec_labels.specs.declared.RowKey.{RowKey}
use Rattle.spec_labels.specs.Labels.{LabelOf}
use Rattle.spec_sheets.specs.Cells.{ShownCell, shown_cell, without_numbers, shown_cells, ends_continued, with_continued}

-- All that a page shows of a row and that page ends see of it: its key by the id of its line, its shape, its mark, its cells with
-- their texts and scene number, the same without the scene number, and the cells that repeat the cue of its speech. No place of
-- a line is part of it.
pub record Shown : Type 0 where
  pub key : RowKey
  pub shape : Shape
  pub mark : ℕ
  pub cells : List ShownCell
  pub bare : List ShownCell
  pub cue : List ShownCell

abbrev pub no_row : Row
no_row = record { line = 0; row = 0; mark = 0; shape = record { lead = 0; kind = Action; index = 0; rest = 0; sentence_end = false }; cells = [] }

-- The first row of a heading.
abbrev pub opens_heading : Row → Bool
opens_heading row = is_heading row.shape.kind && (row.shape.index == 0)

-- The label that stands beside a row: that of its element on the first row of a heading.
abbrev pub row_label : Option LabelOf → Row → Option LabelOf
row_label label row = if opens_heading row then label else None

abbrev pub is_cue : RowKind → Bool
is_cue Cue = true
is_cue _ = false

-- The rows of the cue that the rows of a speech begin with.
abbrev pub cue_rows : List Row → List Row
cue_rows rows = take_while (λ (row : Row). is_cue row.shape.kind) rows

abbrev pub is_fixed : Cell → Bool
is_fixed cell = cell.fixed

-- A cue repeated: the cells of its first row, and `(CONT'D)` unless that row has it or the cue's last row ends so.
abbrev pub repeated_cells : List (List ℕ) → List Row → List ShownCell
repeated_cells texts [] = []
repeated_cells texts (row ∷ later) =
    if list_any is_fixed row.cells || ends_continued texts (last_of row later).cells then map (shown_cell texts) row.cells
    else with_continued (map (shown_cell texts) row.cells)

-- The cue of an element's rows, repeated; it is the element's own.
abbrev pub element_cue : List (List ℕ) → List Row → List ShownCell
element_cue texts rows = repeated_cells texts (cue_rows rows)

-- A row of an element with this cue and label.
abbrev pub shown_of : List LineState → List ShownCell → Option LabelOf → Row → Shown
shown_of lines cue label row = record {
  key = record { line = (line_state lines row.line).id; row = row.row };
  shape = row.shape;
  mark = row.mark;
  cells = shown_cells (line_texts lines) (row_label label row) row;
  bare = map (shown_cell (line_texts lines)) (without_numbers row.cells);
  cue = cue;
}

-- The rows of an element with this label.
abbrev pub element_shown : List LineState → Option LabelOf → ElementOf → List Shown
element_shown lines label element = map (shown_of lines (element_cue (line_texts lines) (placed_rows element)) label) (placed_rows element)

-- The element is a heading.
abbrev pub is_heading_element : ElementOf → Bool
is_heading_element element = opens_heading (slice_index_or element.rows 0 no_row)

-- The labels of headings go to the elements that are headings, one to each in order, where scenes have labels.
abbrev pub heading_label : Option (List LabelOf) → ElementOf → Option LabelOf
heading_label None element = None
heading_label (Some labels) element = if is_heading_element element then slice_get labels 0 else None

abbrev pub labels_behind : Option (List LabelOf) → ElementOf → Option (List LabelOf)
labels_behind None element = None
labels_behind (Some labels) element = Some (if is_heading_element element then drop 1 labels else labels)

-- The rows of elements.
abbrev pub shown_rows : List LineState → Option (List LabelOf) → List ElementOf → List Shown
shown_rows lines labels [] = []
shown_rows lines labels (element ∷ elements) = element_shown lines (heading_label labels element) element ++ shown_rows lines (labels_behind labels element) elements

abbrev pub shape_of : Shown → Shape
shape_of it = it.shape

abbrev pub key_of : Shown → RowKey
key_of it = it.key

abbrev pub mark_of : Shown → ℕ
mark_of it = it.mark

-- The key of a row, by the id of its line.
abbrev pub row_key : List LineState → Row → RowKey
row_key lines row = record { line = (line_state lines row.line).id; row = row.row }

-- How many of the elements are headings, and the labels that are left behind so many headings.
abbrev pub heading_count : List ElementOf → ℕ
heading_count elements = length (filter is_heading_element elements)

abbrev pub labels_past : ℕ → Option (List LabelOf) → Option (List LabelOf)
labels_past count labels = option_map (drop count) labels
