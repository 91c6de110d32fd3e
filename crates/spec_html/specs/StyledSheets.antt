-- Sheets as text with styles (docs/RULES.md, "HTML pages").
use Rattle.std.specs.Prelude.{ℕ, if◌then◌else◌, List, [], ◌∷◌, ◌++◌, map}
use Rattle.std.specs.List.{flat_map}
use Rattle.spec_sheets.specs.Cells.{ShownPart, ShownCell}
use Rattle.spec_sheets.specs.RowBytes.{ShownRow, part_bytes, is_blank, spaces, gap, columns_behind, star_cells, row_bytes}
use Rattle.spec_sheets.specs.Sheets.{Sheet, header_row}
use Rattle.spec_html.specs.Marks.{Marks, marks_of, no_marks, bold_alone}
use Rattle.spec_html.specs.HtmlReading.{StyledByte}

-- Each byte of a text with these marks.
abbrev pub styled_byte : Marks → ℕ → StyledByte
styled_byte marks byte = record { byte = byte; marks = marks }

abbrev pub styled : Marks → List ℕ → List StyledByte
styled marks text = map (styled_byte marks) text

-- A part of a cell has its style.
abbrev pub part_styled : ShownPart → List StyledByte
part_styled part = styled (marks_of part.style) (part_bytes part)

-- Spaces that fill have none.
abbrev pub cell_styled : ℕ → ShownCell → List StyledByte
cell_styled columns cell = if is_blank cell then [] else styled no_marks (spaces (gap cell.column columns)) ++ flat_map part_styled cell.parts

abbrev pub cells_styled : ℕ → List ShownCell → List StyledByte
cells_styled columns [] = []
cells_styled columns (cell ∷ cells) = cell_styled columns cell ++ cells_styled (columns_behind columns cell) cells

abbrev pub row_styled : ShownRow → List StyledByte
row_styled row = cells_styled 0 (row.cells ++ star_cells row.star)

abbrev pub row_styled_line : ShownRow → List StyledByte
row_styled_line row = row_styled row ++ styled no_marks (10 ∷ [])

-- A sheet: its header is bold, and each part of a row has its own style.
abbrev pub sheet_styled : Sheet → List StyledByte
sheet_styled sheet = styled bold_alone (row_bytes (header_row sheet)) ++ (styled no_marks (10 ∷ 10 ∷ []) ++ flat_map row_styled_line sheet.rows)
