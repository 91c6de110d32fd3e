-- What cells of rows show (docs/RULES.md, "Sheets").
use Rattle.std.specs.Prelude.{ℕ, ◌+◌, ◌<◌, ◌≤◌, Bool, not, if◌then◌else◌, List, [], ◌∷◌, ◌++◌, length, map, filter, codes, nat_eq, sum_by, slice_range, slice_index_or, All, Option, Some, None}
use Rattle.std.specs.List.{flat_map, ends_with}
use Rattle.spec_script.specs.declared.Run.{Run}
use Rattle.spec_script.specs.Runs.{RunParts}
use Rattle.spec_pages.specs.Clusters.{columns_of}
use Rattle.spec_pages.specs.Rows.{Cell, Row, number_before, number_behind}
use Rattle.spec_labels.specs.Labels.{LabelOf, label_text}

-- What is shown: a part of a line or a fixed text, or a label.
pub data ShownText : Type 0 where
  slice : List ℕ → ShownText
  label : LabelOf → ShownText

abbrev pub shown_bytes : ShownText → List ℕ
shown_bytes (slice text) = text
shown_bytes (label it) = label_text it

-- A part of a cell, in one style.
pub record ShownPart : Type 0 where
  pub style : ℕ
  pub text : ShownText

-- A cell: the column that it begins at, and its parts, one behind the other.
pub record ShownCell : Type 0 where
  pub column : ℕ
  pub parts : List ShownPart

-- The line at a place, or nothing.
abbrev pub text_at : List (List ℕ) → ℕ → List ℕ
text_at texts place = slice_index_or texts place []

-- The part of a text that a run shows.
abbrev pub slice_of : List ℕ → Run → List ℕ
slice_of text run = slice_range text run.from run.to

abbrev pub shown_part : List ℕ → Run → ShownPart
shown_part text run = record { style = run.style; text = slice (slice_of text run) }

-- A cell with a fixed text.
abbrev pub fixed_cell : ℕ → List ℕ → ShownCell
fixed_cell column text = record { column = column; parts = record { style = 0; text = slice text } ∷ [] }

-- What follows the name of a speaker who goes on.
abbrev pub continued : List ℕ
continued = codes "(CONT'D)"

-- A cell of these lines as it is shown.
abbrev pub shown_cell : List (List ℕ) → Cell → ShownCell
shown_cell texts cell =
    if cell.fixed then fixed_cell cell.column continued
    else record { column = cell.column; parts = map (shown_part (text_at texts cell.line)) cell.runs }

-- No cell of an element begins behind this column: a cue begins at column 47 at the latest, and 4,096 bytes are at most 16,384
-- columns wide.
abbrev pub last_column : ℕ
last_column = 32768

-- A cell shows parts of its line, and the line is there.
pub record ShowsParts (texts : List (List ℕ)) (cell : Cell) : Type 0 where
  pub near : cell.column ≤ last_column
  pub place : cell.line < length texts
  pub parts : RunParts (text_at texts cell.line) cell.runs

-- The line of a row is there, and its few cells show parts of their lines.
pub record RowShows (texts : List (List ℕ)) (row : Row) : Type 0 where
  pub place : row.line < length texts
  pub few : length row.cells ≤ 4
  pub cells : All (ShowsParts texts) row.cells

abbrev pub part_text : ShownPart → List ℕ
part_text part = shown_bytes part.text

-- The text of a cell.
abbrev pub cell_text : ShownCell → List ℕ
cell_text cell = flat_map part_text cell.parts

-- The columns of a cell's parts, each by itself.
abbrev pub cell_width : ShownCell → ℕ
cell_width cell = sum_by (λ part. columns_of (part_text part)) cell.parts

-- The column behind cells: that at which the last one ends.
abbrev pub cells_end : List ShownCell → ℕ
cells_end [] = 0
cells_end (cell ∷ []) = cell.column + cell_width cell
cells_end (cell ∷ cells) = cells_end cells

-- Cells with `(CONT'D)` behind them, one column past their end.
abbrev pub with_continued : List ShownCell → List ShownCell
with_continued cells = cells ++ fixed_cell (cells_end cells + 1) continued ∷ []

-- The label of a scene, at a column.
abbrev pub label_cell : ℕ → LabelOf → ShownCell
label_cell column it = record { column = column; parts = record { style = 0; text = label it } ∷ [] }

-- Cells without a written number.
abbrev pub without_numbers : List Cell → List Cell
without_numbers cells = filter (λ (cell : Cell). not cell.number) cells

-- The cells of a row, with a label in place of the written number where there is one.
abbrev pub shown_cells : List (List ℕ) → Option LabelOf → Row → List ShownCell
shown_cells texts None row = map (shown_cell texts) row.cells
shown_cells texts (Some it) row = label_cell number_before it ∷ map (shown_cell texts) (without_numbers row.cells) ++ label_cell number_behind it ∷ []

-- The text of cells in order.
abbrev pub cells_text : List (List ℕ) → List Cell → List ℕ
cells_text texts cells = flat_map (λ (cell : Cell). cell_text (shown_cell texts cell)) cells

-- Their text ends in `(CONT'D)`.
abbrev pub ends_continued : List (List ℕ) → List Cell → Bool
ends_continued texts cells = ends_with nat_eq (cells_text texts cells) continued
