-- Cells show parts of their lines (docs/RULES.md, "Elements").
use Rattle.std.specs.Prelude.{ℕ, ◌+◌, ◌<◌, ◌≤◌, List, length, All}
use Rattle.std.specs.Str.{IsUtf8}
use Rattle.spec_text.specs.Limits.{line_count_limit}
use Rattle.spec_text.specs.Lines.{LineState}
use Rattle.spec_script.specs.Runs.{RunParts}
use Rattle.spec_pages.specs.Rows.{Cell, Row, line_state, number_behind}

-- A cell of an element that begins at a line of the text, which keeps the limit of its lines: it doesn't begin behind a scene
-- number, its line is there, and it shows parts of that, which is UTF-8 as all lines of a text are.
pub record CellLies (lines : List LineState) (first : ℕ) (cell : Cell) : Type 0 where
  pub near : cell.column ≤ number_behind
  pub low : length lines ≤ line_count_limit
  pub place : first + cell.line < length lines
  pub parts : IsUtf8 (line_state lines (first + cell.line)).text → RunParts (line_state lines (first + cell.line)).text cell.runs

-- Each cell of a row does.
abbrev pub RowLies : List LineState → ℕ → Row → Type 0
RowLies lines first row = All (CellLies lines first) row.cells
