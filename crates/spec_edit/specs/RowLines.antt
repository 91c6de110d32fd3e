-- The lines that a row of an element shows.
use Rattle.std.specs.Prelude.{ℕ, All}
use Rattle.spec_pages.specs.Rows.{Cell, Row}

-- The line of a row, and the lines of its cells, stand at such places.
pub record RowAt (P : ℕ → Type 0) (it : Row) : Type 0 where
  pub row : P it.line
  pub cells : All (λ (cell : Cell). P cell.line) it.cells
