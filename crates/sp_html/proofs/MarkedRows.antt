-- Rows with marks are the HTML of the rows of a sheet.
use Rattle.std.proofs.Common.{◌≡◌, ℕ, cond, List, [], ◌∷◌, ◌++◌, refl, ap, ap₂}
use Rattle.std.specs.List.{flat_map}
use Rattle.spec_sheets.specs.Cells.{ShownPart, ShownCell}
use Rattle.spec_sheets.specs.RowBytes.{ShownRow, is_blank, spaces, gap, columns_behind, star_cells}
use Rattle.spec_html.specs.HtmlSheets.{part_html, cells_html, row_html_line}
use Rattle.sp_print.specs.Writing.{part_written, cells_written, line_written}
use Rattle.sp_html.specs.Written.{marked_part}

parts-marked : (parts : List ShownPart) → flat_map (part_written marked_part) parts ≡ flat_map part_html parts
parts-marked [] = refl
parts-marked (part ∷ parts) = ap (λ xs. part_html part ++ xs) (parts-marked parts)

cells-marked : (columns : ℕ) (cells : List ShownCell) → cells_written marked_part columns cells ≡ cells_html columns cells
cells-marked columns [] = refl
cells-marked columns (cell ∷ cells) =
    ap₂ (λ xs ys. cond (is_blank cell) [] (spaces (gap cell.column columns) ++ xs) ++ ys) (parts-marked cell.parts) (cells-marked (columns_behind columns cell) cells)

pub lines-marked : (rows : List ShownRow) → flat_map (line_written marked_part) rows ≡ flat_map row_html_line rows
lines-marked [] = refl
lines-marked (row ∷ rows) = ap₂ (λ xs ys. (xs ++ 10 ∷ []) ++ ys) (cells-marked 0 (row.cells ++ star_cells row.star)) (lines-marked rows)
