-- A sheet's HTML shows the sheet, each part of it with its style.
use Rattle.std.proofs.Common.{◌≡◌, ℕ, ◌==◌, Bool, true, false, cond, List, [], ◌∷◌, ◌++◌, length, map, append_assoc, append-nil, refl, ap, ap₂, sym, ◌∙◌, subst}
use Rattle.std.specs.Prelude.{codes}
use Rattle.std.specs.List.{flat_map}
use Rattle.std.proofs.lemmas.Bool.{eqb-true}
use Rattle.std.proofs.lemmas.List.{nil_from_length, map-append}
use Rattle.spec_sheets.specs.Cells.{ShownPart, ShownCell, part_text}
use Rattle.spec_sheets.specs.RowBytes.{ShownRow, part_bytes, cell_bytes, cells_bytes, columns_behind, gap, is_blank, row_bytes, row_line, spaces, star_cells, untabbed}
use Rattle.spec_sheets.specs.Sheets.{Sheet, header_row, sheet_bytes}
use Rattle.spec_html.specs.Marks.{Marks, marks_of, no_marks, bold_alone}
use Rattle.spec_html.specs.HtmlSheets.{marked, part_html, cell_html, cells_html, row_html, row_html_line, sheet_html}
use Rattle.spec_html.specs.HtmlReading.{StyledByte, byte_of, read_back, untagged, styled_text, plain_text}
use Rattle.spec_html.specs.StyledSheets.{styled, part_styled, cell_styled, cells_styled, row_styled, row_styled_line, sheet_styled}
use Rattle.spec_html.proofs.ReadingLaws.{Shows, nothing, joined}
use Rattle.spec_html.proofs.ReadingLaws as reading
use Rattle.spec_html.proofs.PlainLabels.{spaces-plain, escaped-plain}
use Rattle.spec_html.proofs.HeaderPlain.{header-html, header-escaped}

abbrev pub ShowsPlainly : List ℕ → List StyledByte → Type 0
ShowsPlainly html text = Shows no_marks html text no_marks

-- Spaces are no marks.
spaces-shown : (n : ℕ) → ShowsPlainly (spaces n) (styled no_marks (spaces n))
spaces-shown n = subst (λ xs. ShowsPlainly xs (styled no_marks (spaces n))) (escaped-plain (spaces n) (spaces-plain n)) (reading.text no_marks (spaces n))

-- A part, by whether it has text.
part-if : (part : ShownPart) (t : Bool) → (length (part_text part) == 0) ≡ t → ShowsPlainly (cond t [] (marked (marks_of part.style) (part_bytes part))) (part_styled part)
part-if part true is =
    subst (λ text. ShowsPlainly [] (styled (marks_of part.style) (untabbed text))) (sym (nil_from_length (part_text part) (eqb-true (length (part_text part)) 0 is))) (nothing no_marks)
part-if part false is = reading.marked_text (marks_of part.style) (part_bytes part)

parts-shown : (parts : List ShownPart) → ShowsPlainly (flat_map part_html parts) (flat_map part_styled parts)
parts-shown [] = nothing no_marks
parts-shown (part ∷ parts) =
    joined no_marks no_marks no_marks (part_html part) (flat_map part_html parts) (part_styled part) (flat_map part_styled parts)
    (part-if part (length (part_text part) == 0) refl) (parts-shown parts)

cell-shown : (columns : ℕ) (cell : ShownCell) → ShowsPlainly (cell_html columns cell) (cell_styled columns cell)
cell-shown columns cell = by (is_blank cell)
  where
    by : (t : Bool)
        → ShowsPlainly (cond t [] (spaces (gap cell.column columns) ++ flat_map part_html cell.parts)) (cond t [] (styled no_marks (spaces (gap cell.column columns)) ++ flat_map part_styled cell.parts))
    by true = nothing no_marks
    by false =
        joined no_marks no_marks no_marks (spaces (gap cell.column columns)) (flat_map part_html cell.parts) (styled no_marks (spaces (gap cell.column columns))) (flat_map part_styled cell.parts)
        (spaces-shown (gap cell.column columns)) (parts-shown cell.parts)

cells-shown : (columns : ℕ) (cells : List ShownCell) → ShowsPlainly (cells_html columns cells) (cells_styled columns cells)
cells-shown columns [] = nothing no_marks
cells-shown columns (cell ∷ cells) =
    joined no_marks no_marks no_marks (cell_html columns cell) (cells_html (columns_behind columns cell) cells) (cell_styled columns cell) (cells_styled (columns_behind columns cell) cells)
    (cell-shown columns cell) (cells-shown (columns_behind columns cell) cells)

row-shown : (row : ShownRow) → ShowsPlainly (row_html row) (row_styled row)
row-shown row = cells-shown 0 (row.cells ++ star_cells row.star)

rows-shown : (rows : List ShownRow) → ShowsPlainly (flat_map row_html_line rows) (flat_map row_styled_line rows)
rows-shown [] = nothing no_marks
rows-shown (row ∷ rows) =
    joined no_marks no_marks no_marks (row_html_line row) (flat_map row_html_line rows) (row_styled_line row) (flat_map row_styled_line rows)
    (joined no_marks no_marks no_marks (row_html row) (10 ∷ []) (row_styled row) (styled no_marks (10 ∷ [])) (row-shown row) (reading.text no_marks (10 ∷ []))) (rows-shown rows)

-- The header is bold.
header-shown : (sheet : Sheet) → Shows bold_alone (row_html (header_row sheet)) (styled bold_alone (row_bytes (header_row sheet))) bold_alone
header-shown sheet =
    let bytes = row_bytes (header_row sheet) in
    subst (λ xs. Shows bold_alone xs (styled bold_alone bytes) bold_alone) (header-escaped sheet ∙ sym (header-html sheet)) (reading.text bold_alone bytes)

-- What stands before the header, behind it, and behind the rows.
front-shown : Shows no_marks (codes "<pre><b>") [] bold_alone
front-shown = record { left = []; tags = λ rest. refl; escapes = λ rest. refl }

middle-shown : Shows bold_alone (codes "</b>\n\n") (styled no_marks (10 ∷ 10 ∷ [])) no_marks
middle-shown = record { left = styled no_marks (10 ∷ 10 ∷ []); tags = λ rest. refl; escapes = λ rest. refl }

end-shown : ShowsPlainly (codes "</pre>") []
end-shown = record { left = []; tags = λ rest. refl; escapes = λ rest. refl }

pub sheet-shown : (sheet : Sheet) → ShowsPlainly (sheet_html sheet) (sheet_styled sheet)
sheet-shown sheet =
    let rows = flat_map row_styled_line sheet.rows in
    let head = styled bold_alone (row_bytes (header_row sheet)) in
    let gap_row = styled no_marks (10 ∷ 10 ∷ []) in
    let end_html = flat_map row_html_line sheet.rows ++ codes "</pre>" in
    let end = joined no_marks no_marks no_marks (flat_map row_html_line sheet.rows) (codes "</pre>") rows [] (rows-shown sheet.rows) end-shown in
    let body = joined bold_alone no_marks no_marks (codes "</b>\n\n") end_html gap_row (rows ++ []) middle-shown end in
    let headed = joined bold_alone bold_alone no_marks (row_html (header_row sheet)) (codes "</b>\n\n" ++ end_html) head (gap_row ++ (rows ++ [])) (header-shown sheet) body in
    subst (λ text. ShowsPlainly (sheet_html sheet) (head ++ (gap_row ++ text))) (append-nil rows)
    (joined no_marks bold_alone no_marks (codes "<pre><b>") (row_html (header_row sheet) ++ (codes "</b>\n\n" ++ end_html)) [] (head ++ (gap_row ++ (rows ++ []))) front-shown headed)

-- What is read of HTML that shows a text.
pub shown-read : (html : List ℕ) (text : List StyledByte) → ShowsPlainly html text → styled_text html ≡ text
shown-read html text shows =
    ap (λ xs. read_back 0 (untagged false no_marks xs)) (sym (append-nil html)) ∙ ap (read_back 0) (shows.tags []) ∙ shows.escapes [] ∙ append-nil text

-- The HTML of a sheet shows each part of it with its style, and everything else without one, but for the bold header.
pub sheet-styles : (sheet : Sheet) → styled_text (sheet_html sheet) ≡ sheet_styled sheet
sheet-styles sheet = shown-read (sheet_html sheet) (sheet_styled sheet) (sheet-shown sheet)

-- Styles put aside.
plain-styled : (marks : Marks) (text : List ℕ) → map byte_of (styled marks text) ≡ text
plain-styled marks [] = refl
plain-styled marks (b ∷ text) = ap (λ xs. b ∷ xs) (plain-styled marks text)

plain-joined : (first next : List StyledByte) (xs ys : List ℕ) → map byte_of first ≡ xs → map byte_of next ≡ ys → map byte_of (first ++ next) ≡ xs ++ ys
plain-joined first next xs ys one other = map-append byte_of first next ∙ ap₂ (λ us vs. us ++ vs) one other

plain-parts : (parts : List ShownPart) → map byte_of (flat_map part_styled parts) ≡ flat_map part_bytes parts
plain-parts [] = refl
plain-parts (part ∷ parts) =
    plain-joined (part_styled part) (flat_map part_styled parts) (part_bytes part) (flat_map part_bytes parts) (plain-styled (marks_of part.style) (part_bytes part)) (plain-parts parts)

plain-cell : (columns : ℕ) (cell : ShownCell) → map byte_of (cell_styled columns cell) ≡ cell_bytes columns cell
plain-cell columns cell = by (is_blank cell)
  where
    by : (t : Bool) → map byte_of (cond t [] (styled no_marks (spaces (gap cell.column columns)) ++ flat_map part_styled cell.parts))
        ≡ cond t [] (spaces (gap cell.column columns) ++ flat_map part_bytes cell.parts)
    by true = refl
    by false =
        let filling = spaces (gap cell.column columns) in
        plain-joined (styled no_marks filling) (flat_map part_styled cell.parts) filling (flat_map part_bytes cell.parts) (plain-styled no_marks filling) (plain-parts cell.parts)

plain-cells : (columns : ℕ) (cells : List ShownCell) → map byte_of (cells_styled columns cells) ≡ cells_bytes columns cells
plain-cells columns [] = refl
plain-cells columns (cell ∷ cells) =
    plain-joined (cell_styled columns cell) (cells_styled (columns_behind columns cell) cells) (cell_bytes columns cell) (cells_bytes (columns_behind columns cell) cells)
    (plain-cell columns cell) (plain-cells (columns_behind columns cell) cells)

plain-rows : (rows : List ShownRow) → map byte_of (flat_map row_styled_line rows) ≡ flat_map row_line rows
plain-rows [] = refl
plain-rows (row ∷ rows) =
    plain-joined (row_styled_line row) (flat_map row_styled_line rows) (row_line row) (flat_map row_line rows)
    (plain-joined (row_styled row) (styled no_marks (10 ∷ [])) (row_bytes row) (10 ∷ []) (plain-cells 0 (row.cells ++ star_cells row.star)) refl) (plain-rows rows)

-- The plain text of a sheet's HTML is the sheet's bytes without the form feed.
pub sheet-text : (sheet : Sheet) → plain_text (sheet_html sheet) ++ 12 ∷ [] ≡ sheet_bytes sheet
sheet-text sheet =
    let header = row_bytes (header_row sheet) in
    let rows = flat_map row_line sheet.rows in
    let plain = plain-joined (styled bold_alone header) (styled no_marks (10 ∷ 10 ∷ []) ++ flat_map row_styled_line sheet.rows) header (10 ∷ 10 ∷ rows)
    (plain-styled bold_alone header) (plain-joined (styled no_marks (10 ∷ 10 ∷ [])) (flat_map row_styled_line sheet.rows) (10 ∷ 10 ∷ []) rows refl (plain-rows sheet.rows)) in
    ap (λ xs. map byte_of xs ++ 12 ∷ []) (sheet-styles sheet) ∙ ap (λ xs. xs ++ 12 ∷ []) plain
    ∙ append_assoc header (10 ∷ 10 ∷ rows) (12 ∷ []) ∙ sym (append_assoc header (10 ∷ []) (10 ∷ (rows ++ 12 ∷ [])))
