-- Rows of elements as an edit sees them (docs/RULES.md, "Edits and records").
use Rattle.std.specs.Prelude.{◌≡◌, ◌+◌, ◌-◌, ◌≤◌, ℕ, Bool, if◌then◌else◌, Option, List, [], ◌∷◌, map, take, drop, slice_index_or, slice_range, All}
use Rattle.spec_text.specs.Lines.{LineState, line_texts}
use Rattle.spec_script.specs.declared.Run.{Run}
use Rattle.spec_pages.specs.Rows.{Cell, Row, ElementOf, shifted_cell}
use Rattle.spec_labels.specs.Labels.{LabelOf}
use Rattle.spec_sheets.specs.Cells.{RowShows, ShownCell, continued, shown_cell, text_at, without_numbers}
use Rattle.spec_sheets.specs.Layout.{placed_in}
use Rattle.spec_sheets.specs.Shown.{no_row, row_key, shown_rows}
use Rattle.spec_state.specs.SameRows.{BareRow, same_rows}
use Rattle.sp_layout.specs.Bodies.{KeyedElements, row_count}
use Rattle.sp_layout.specs.Exchanges.{moved_element}

-- Cells of an element that begins at a line, without a written number.
abbrev pub bare_cells : List (List ℕ) → ℕ → List Cell → List ShownCell
bare_cells texts first cells = map (shown_cell texts) (without_numbers (map (shifted_cell first) cells))

-- The same by lines; and one of these cells.
abbrev pub cell_in : List LineState → ℕ → Cell → ShownCell
cell_in lines first cell = shown_cell (line_texts lines) (shifted_cell first cell)

abbrev pub cells_in : List LineState → ℕ → List Cell → List ShownCell
cells_in lines first cells = bare_cells (line_texts lines) first cells

-- A row with places in the text.
abbrev pub bare_row : List LineState → Row → BareRow
bare_row lines row = record { key = row_key lines row; shape = row.shape; mark = row.mark; cells = map (shown_cell (line_texts lines)) (without_numbers row.cells) }

-- The text that a cell shows parts of, and these parts.
abbrev pub whole : Run
whole = record { from = 0; to = 8; style = 0 }

abbrev pub own_text : List (List ℕ) → ℕ → Cell → List ℕ
own_text texts first cell = if cell.fixed then continued else text_at texts (first + cell.line)

abbrev pub own_runs : Cell → List Run
own_runs cell = if cell.fixed then whole ∷ [] else cell.runs

-- Elements of lines: rows show parts of the lines, and have their keys.
pub record AreLaid (lines : List LineState) (body : KeyedElements) : Type 0 where
  pub keys : body.keys ≡ map (row_key lines) (placed_in body.elements)
  pub show : All (RowShows (line_texts lines)) (placed_in body.elements)

-- What stands at a place of a list, which has one.
abbrev pub StandsAt : {X : Type 0} → List X → ℕ → X → Type 0
StandsAt {X} xs place x = (d : X) → slice_index_or xs place d ≡ x

-- The row with so many rows before it, and the rows from one to before another.
abbrev pub bare_row_at : List LineState → List ElementOf → ℕ → BareRow
bare_row_at lines elements row = bare_row lines (slice_index_or (placed_in elements) row no_row)

abbrev pub bare_rows : List LineState → List ElementOf → ℕ → ℕ → List BareRow
bare_rows lines elements from to = map (bare_row lines) (slice_range (placed_in elements) from to)

-- So many rows of two texts, from some row of each on, are the same.
abbrev pub AreSameRun : List LineState → List ElementOf → List LineState → List ElementOf → ℕ → ℕ → ℕ → Type 0
AreSameRun old olds new news from start count = bare_rows old olds from (from + count) ≡ bare_rows new news start (start + count)

-- The first rows of two texts are the same, and those from some row of the one on are those from some row of the other on, but for those
-- of the other from one to before another.
pub record AreSameAround (old : List LineState) (olds : List ElementOf) (new : List LineState) (news : List ElementOf) (same_to old_from new_from others_from others_to : ℕ) : Type 0 where
  pub old_low : old_from ≤ row_count olds
  pub behind_run : new_from ≤ others_from
  pub order : others_from ≤ others_to
  pub within : others_to ≤ row_count news
  pub front : AreSameRun old olds new news 0 0 same_to
  pub until : AreSameRun old olds new news old_from new_from (others_from - new_from)
  pub behind : AreSameRun old olds new news (old_from + (others_to - new_from)) others_to (row_count news - others_to)

-- An edit left the rows of elements but for those from one place to before another, whose lines were less and more by so much
-- behind these.
pub record StayOutside (old new : List LineState) (elements : List ElementOf) (from to less more : ℕ) : Type 0 where
  pub front : map (bare_row old) (placed_in (take from elements)) ≡ map (bare_row new) (placed_in (take from elements))
  pub behind : map (bare_row old) (placed_in (map (moved_element less more) (drop to elements))) ≡ map (bare_row new) (placed_in (drop to elements))

-- A text and its elements before a change and after it.
pub record Both : Type 0 where
  pub old : List LineState
  pub olds : List ElementOf
  pub new : List LineState
  pub news : List ElementOf

abbrev pub both_of : List LineState → KeyedElements → List LineState → KeyedElements → Both
both_of old olds new news = record { old = old; olds = olds.elements; new = new; news = news.elements }

-- The rows from one to before another as they were, and as they are.
abbrev pub old_rows : Both → ℕ → ℕ → List BareRow
old_rows both from to = bare_rows both.old both.olds from to

abbrev pub new_rows : Both → ℕ → ℕ → List BareRow
new_rows both from to = bare_rows both.new both.news from to

-- The same of one row.
abbrev pub row_was : Both → ℕ → BareRow
row_was both row = bare_row_at both.old both.olds row

abbrev pub row_is : Both → ℕ → BareRow
row_is both row = bare_row_at both.new both.news row

-- The rows from one to before another, before the change, are the same as those after it.
abbrev pub AreSameRows : Both → ℕ → ℕ → ℕ → ℕ → Type 0
AreSameRows both from to start end = old_rows both from to ≡ new_rows both start end

-- It tells whether the rows from one to before another, before the change, are the same as those after it, with any labels of headings.
abbrev pub TellsSameRows : Both → ℕ → ℕ → ℕ → ℕ → Bool → Type 0
TellsSameRows both from to start end told = (olds news : Option (List LabelOf))
    → told ≡ same_rows (slice_range (shown_rows both.old olds both.olds) from to) (slice_range (shown_rows both.new news both.news) start end)
