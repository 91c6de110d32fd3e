-- Sheets as HTML (docs/RULES.md, "HTML pages").
use Rattle.std.specs.Prelude.{ℕ, ◌==◌, if◌then◌else◌, List, [], ◌∷◌, ◌++◌, length, codes}
use Rattle.std.specs.List.{flat_map}
use Rattle.spec_sheets.specs.Cells.{ShownPart, ShownCell, part_text}
use Rattle.spec_sheets.specs.RowBytes.{ShownRow, part_bytes, is_blank, spaces, gap, columns_behind, star_cells}
use Rattle.spec_sheets.specs.Sheets.{Sheet, header_row}
use Rattle.spec_html.specs.Marks.{Marks, marks_of, opening, closing}

-- `&`, `<` and `>` are written as escapes.
abbrev pub escape : ℕ → List ℕ
escape byte =
    if byte == 38 then codes "&amp;"
    else (if byte == 60 then codes "&lt;"
    else (if byte == 62 then codes "&gt;" else byte ∷ []))

abbrev pub escaped : List ℕ → List ℕ
escaped text = flat_map escape text

-- Text between its marks.
abbrev pub marked : Marks → List ℕ → List ℕ
marked marks text = opening marks ++ (escaped text ++ closing marks)

-- A part of a cell stands between the marks of its style; nothing of a part without text is written.
abbrev pub part_html : ShownPart → List ℕ
part_html part = if length (part_text part) == 0 then [] else marked (marks_of part.style) (part_bytes part)

-- A cell: the spaces before it stand outside the marks.
abbrev pub cell_html : ℕ → ShownCell → List ℕ
cell_html columns cell = if is_blank cell then [] else spaces (gap cell.column columns) ++ flat_map part_html cell.parts

-- Cells in order, where so many columns were written.
abbrev pub cells_html : ℕ → List ShownCell → List ℕ
cells_html columns [] = []
cells_html columns (cell ∷ cells) = cell_html columns cell ++ cells_html (columns_behind columns cell) cells

-- A row: its cells, and its star behind them.
abbrev pub row_html : ShownRow → List ℕ
row_html row = cells_html 0 (row.cells ++ star_cells row.star)

-- A row, ended.
abbrev pub row_html_line : ShownRow → List ℕ
row_html_line row = row_html row ++ 10 ∷ []

-- A sheet: its header in bold, an empty row, and its rows.
abbrev pub sheet_html : Sheet → List ℕ
sheet_html sheet = codes "<pre><b>" ++ (row_html (header_row sheet) ++ (codes "</b>\n\n" ++ (flat_map row_html_line sheet.rows ++ codes "</pre>")))

-- What stands before and behind all sheets.
abbrev pub before_sheets : List ℕ
before_sheets = codes "<!DOCTYPE html><html><head><meta charset=\"utf-8\"></head><body>"

abbrev pub behind_sheets : List ℕ
behind_sheets = codes "</body></html>"

-- The HTML of all sheets: nothing stands between them.
abbrev pub pages_html : List Sheet → List ℕ
pages_html sheets = before_sheets ++ (flat_map sheet_html sheets ++ behind_sheets)
