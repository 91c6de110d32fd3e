-- Rows without marks are the rows of a sheet.
use Rattle.std.proofs.Common.{◌≡◌, ℕ, ◌==◌, Bool, true, false, cond, List, [], ◌∷◌, ◌++◌, length, refl, ap, ap₂, sym}
use Rattle.std.specs.List.{flat_map}
use Rattle.std.proofs.lemmas.Bool.{eqb-true}
use Rattle.std.proofs.lemmas.List.{nil_from_length}
use Rattle.spec_sheets.specs.Cells.{ShownPart, ShownCell, part_text}
use Rattle.spec_sheets.specs.RowBytes.{ShownRow, part_bytes, is_blank, spaces, gap, columns_behind, star_cells, cells_bytes, row_line, untabbed}
use Rattle.sp_print.specs.Writing.{plain_part, part_written, cells_written, line_written}

part-if : (text : List ℕ) (t : Bool) → (length text == 0) ≡ t → cond t [] (untabbed text) ≡ untabbed text
part-if text true is = sym (ap untabbed (nil_from_length text (eqb-true (length text) 0 is)))
part-if text false is = refl

parts-plain : (parts : List ShownPart) → flat_map (part_written plain_part) parts ≡ flat_map part_bytes parts
parts-plain [] = refl
parts-plain (part ∷ parts) = ap₂ (λ xs ys. xs ++ ys) (part-if (part_text part) (length (part_text part) == 0) refl) (parts-plain parts)

cells-plain : (columns : ℕ) (cells : List ShownCell) → cells_written plain_part columns cells ≡ cells_bytes columns cells
cells-plain columns [] = refl
cells-plain columns (cell ∷ cells) =
    ap₂ (λ xs ys. cond (is_blank cell) [] (spaces (gap cell.column columns) ++ xs) ++ ys) (parts-plain cell.parts) (cells-plain (columns_behind columns cell) cells)

pub lines-plain : (rows : List ShownRow) → flat_map (line_written plain_part) rows ≡ flat_map row_line rows
lines-plain [] = refl
lines-plain (row ∷ rows) = ap₂ (λ xs ys. (xs ++ 10 ∷ []) ++ ys) (cells-plain 0 (row.cells ++ star_cells row.star)) (lines-plain rows)
