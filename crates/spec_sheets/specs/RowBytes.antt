-- The bytes of rows of a sheet (docs/RULES.md, "Sheets").
use Rattle.std.specs.Prelude.{Bool, ℕ, ◌-◌, ◌+◌, ◌==◌, nat_lt, if◌then◌else◌, List, [], ◌∷◌, ◌++◌, length, codes, replicate}
use Rattle.std.specs.List.{flat_map}
use Rattle.spec_sheets.specs.Cells.{ShownPart, ShownCell, part_text, cell_text, cell_width, fixed_cell}

-- A row of a sheet: its cells in order of their columns, and whether it has a star. An empty row has no cells.
pub record ShownRow : Type 0 where
  pub cells : List ShownCell
  pub star : Bool

-- So many spaces.
abbrev pub spaces : ℕ → List ℕ
spaces n = replicate n 32

-- A tab is written as four spaces.
abbrev pub untabbed : List ℕ → List ℕ
untabbed text = flat_map (λ b. if b == 9 then spaces 4 else b ∷ []) text

abbrev pub part_bytes : ShownPart → List ℕ
part_bytes part = untabbed (part_text part)

-- The cell has no text.
abbrev pub is_blank : ShownCell → Bool
is_blank cell = length (cell_text cell) == 0

-- Spaces fill up to the column of a cell where fewer columns were written; otherwise there is one.
abbrev pub gap : ℕ → ℕ → ℕ
gap column columns = if nat_lt columns column then column - columns else 1

-- What is written of a cell where so many columns were written: nothing of a cell with empty text.
abbrev pub cell_bytes : ℕ → ShownCell → List ℕ
cell_bytes columns cell = if is_blank cell then [] else spaces (gap cell.column columns) ++ flat_map part_bytes cell.parts

-- The columns that are written behind a cell.
abbrev pub columns_behind : ℕ → ShownCell → ℕ
columns_behind columns cell = if is_blank cell then columns else columns + gap cell.column columns + cell_width cell

-- The bytes of cells in order, where so many columns were written.
abbrev pub cells_bytes : ℕ → List ShownCell → List ℕ
cells_bytes columns [] = []
cells_bytes columns (cell ∷ cells) = cell_bytes columns cell ++ cells_bytes (columns_behind columns cell) cells

-- The star of a row that a round changed.
abbrev pub star_cells : Bool → List ShownCell
star_cells star = if star then fixed_cell 80 (codes "*") ∷ [] else []

-- The bytes of a row: its cells, and its star behind them.
abbrev pub row_bytes : ShownRow → List ℕ
row_bytes row = cells_bytes 0 (row.cells ++ star_cells row.star)

-- A row, ended.
abbrev pub row_line : ShownRow → List ℕ
row_line row = row_bytes row ++ 10 ∷ []
