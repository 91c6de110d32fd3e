-- A row of a sheet by the columns of its characters (docs/RULES.md, "Sheets").
use Rattle.std.specs.Prelude.{ℕ, zero, suc, ◌+◌, max, ◌==◌, ◌&&◌, nat_lt, nat_le, Bool, true, if◌then◌else◌, List, [], ◌∷◌, ◌++◌, filter}
use Rattle.std.specs.List.{flat_map, list_any}
use Rattle.unicode_segmentation.specs.Grapheme.{graphemes}
use Rattle.spec_pages.specs.Clusters.{width_of}
use Rattle.spec_sheets.specs.Cells.{ShownPart, ShownCell, part_text, cell_width}
use Rattle.spec_sheets.specs.RowBytes.{ShownRow, untabbed, is_blank, star_cells}
use Rattle.spec_sheets.specs.Sheets.{Sheet, header_row}

-- A cluster of a row: the column at which it stands, how many columns it takes, and what is written of it.
pub record Placed : Type 0 where
  pub column : ℕ
  pub width : ℕ
  pub bytes : List ℕ

-- Clusters, one behind the other; the first stands at this column.
abbrev pub placed_from : ℕ → List (List ℕ) → List Placed
placed_from column [] = []
placed_from column (piece ∷ pieces) =
    record { column = column; width = width_of piece; bytes = untabbed piece } ∷ placed_from (column + width_of piece) pieces

-- The clusters of a cell, those of each part by itself.
abbrev pub cell_clusters : ShownCell → List (List ℕ)
cell_clusters cell = flat_map (λ (part : ShownPart). graphemes true (part_text part)) cell.parts

-- Where a cell begins: at its column, or where others reach up to that, one column behind their end.
abbrev pub start_of : ℕ → ShownCell → ℕ
start_of end cell = max cell.column (end + 1)

-- The clusters of cells, where others end at this column; a cell with empty text has none.
abbrev pub placed_cells : ℕ → List ShownCell → List Placed
placed_cells end [] = []
placed_cells end (cell ∷ cells) =
    if is_blank cell then placed_cells end cells
    else placed_from (start_of end cell) (cell_clusters cell) ++ placed_cells (start_of end cell + cell_width cell) cells

-- The clusters of a row: those of its cells, and its star.
abbrev pub row_placed : ShownRow → List Placed
row_placed row = placed_cells 0 (row.cells ++ star_cells row.star)

-- The cluster stands at the column; it takes it.
abbrev pub stands_at : ℕ → Placed → Bool
stands_at column it = it.column == column

abbrev pub takes : ℕ → Placed → Bool
takes column it = nat_le it.column column && nat_lt column (it.column + it.width)

-- What is written of the clusters that stand at a column.
abbrev pub standing_at : List Placed → ℕ → List ℕ
standing_at clusters column = flat_map (λ (it : Placed). it.bytes) (filter (stands_at column) clusters)

-- What is written at a column: the clusters that stand there, and a space where none takes it.
abbrev pub written_at : List Placed → ℕ → List ℕ
written_at clusters column = standing_at clusters column ++ (if list_any (takes column) clusters then [] else 32 ∷ [])

-- What is written at so many columns from one on.
abbrev pub written_from : List Placed → ℕ → ℕ → List ℕ
written_from clusters column zero = []
written_from clusters column (suc count) = written_at clusters column ++ written_from clusters (column + 1) count

-- The column at which clusters behind this one end.
abbrev pub end_of : ℕ → List Placed → ℕ
end_of end [] = end
end_of end (it ∷ later) = end_of (it.column + it.width) later

-- A row by its columns: what is written at each column up to its end, and behind them the clusters there that take none.
abbrev pub row_written : List Placed → List ℕ
row_written clusters = written_from clusters 0 (end_of 0 clusters) ++ standing_at clusters (end_of 0 clusters)

-- A row by its columns, ended, and a sheet of such rows.
abbrev pub line_written : ShownRow → List ℕ
line_written row = row_written (row_placed row) ++ 10 ∷ []

abbrev pub sheet_written : Sheet → List ℕ
sheet_written sheet = line_written (header_row sheet) ++ (10 ∷ (flat_map line_written sheet.rows ++ 12 ∷ []))
