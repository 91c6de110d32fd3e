-- The bytes of a sheet are UTF-8 (docs/RULES.md, "Sheets").
use Rattle.std.proofs.Common.{◌≡◌, ℕ, ◌+◌, ◌<◌, ◌==◌, Bool, true, false, cond, Option, Some, None, List, [], ◌∷◌, ◌++◌, length, drop, map, get_or, inl, inr, refl, sym, ap, subst, ◌∙◌, lit<, append_assoc, length-append, eqb-true, arith}
use Rattle.std.specs.Prelude.{All, codes, nat_lt, slice_get, slice_index_or, slice_range, unwrap_or}
use Rattle.std.specs.List.{flat_map, list_all}
use Rattle.std.specs.Ordering.{is_eq}
use Rattle.std.specs.Str.{IsUtf8}
use Rattle.std.proofs.lemmas.Bool.{and_parts, cases_lt}
use Rattle.std.proofs.lemmas.List.{take_at, drop_at, get_or_at, length_push, get_or_past}
use Rattle.std.proofs.lemmas.List.Elements.{All-nil, All-cons, All-head, All-tail, All-append, All-map, All-weaker, All-replicate, All-contains}
use Rattle.std.proofs.lemmas.Option.{slice_get_within, get_or_from_slice_get}
use Rattle.std.proofs.lemmas.Str.{IsUtf8-append, IsUtf8-nil, IsUtf8-from_ascii, IsUtf8-between, IsUtf8-take, IsUtf8-drop, IsCharBoundary-before_ascii, IsCharBoundary-after_ascii}
use Rattle.std.proofs.lemmas.Str.Ascii.{IsAscii-from_all}
use Rattle.json.proofs.Printed.Utf8.{are_ascii, IsUtf8-are_ascii}
use Rattle.spec_text.specs.Lines.{LineState, line_texts}
use Rattle.spec_pages.specs.Rows.{ElementOf}
use Rattle.spec_labels.specs.Labels.{LabelOf, label_cmp, label_text}
use Rattle.spec_labels.specs.PageRecords.{SheetOf}
use Rattle.spec_labels.proofs.LabelBytes.{label-utf8}
use Rattle.spec_sheets.specs.Cells.{ShownText, slice, label, ShownPart, ShownCell, text_at, shown_bytes, part_text, fixed_cell, RowShows}
use Rattle.spec_sheets.specs.Layout.{placed_in, layout_of}
use Rattle.spec_sheets.specs.Shown.{shown_rows}
use Rattle.spec_sheets.proofs.RowLaws.{IsText-texts}
use Rattle.spec_sheets.proofs.LayoutLaws.{layout_of-show}
use Rattle.spec_sheets.specs.RowBytes.{ShownRow, spaces, untabbed, part_bytes, is_blank, gap, cell_bytes, columns_behind, cells_bytes, star_cells, row_bytes, row_line}
use Rattle.spec_sheets.specs.PageRows.{page_body, omitted_rows}
use Rattle.spec_sheets.specs.PageTexts.{fixed_texts, IsGiven, CellGiven, RowGiven}
use Rattle.spec_sheets.specs.Rounds.{round_name}
use Rattle.spec_sheets.specs.Sheets.{Sheet, SheetLabelOf, sheet_label_text, ending_cell, label_cells, round_cells, header_row, sheet_bytes}
use Rattle.spec_sheets.proofs.RoundBytes.{IsRoundByte, round-name}
use Rattle.spec_sheets.proofs.PageParts.{page_body-given, omitted-given}
use Rattle.spec_state.specs.State.{State, text_of}
use Rattle.spec_state.specs.Headings.{heading_labels}
use Rattle.spec_state.specs.Keeping.{IsWhole}
use Rattle.spec_state.specs.StateSheets.{title_sheet, title_sheets, titles_in, title_starts, rows_in, body_sheets, sheet_rows, shown_sheet, sheets_of_state}

-- ---- texts, joined

utf8-flat : {X : Type 0} (f : X → List ℕ) (xs : List X) → All (λ x. IsUtf8 (f x)) xs → IsUtf8 (flat_map f xs)
utf8-flat f [] all = IsUtf8-nil
utf8-flat {X} f (x ∷ xs) all =
    let Has : X → Type 0 = λ it. IsUtf8 (f it) in
    IsUtf8-append (f x) (flat_map f xs) (All-head Has x xs all) (utf8-flat f xs (All-tail Has x xs all))

utf8-at : (xs : List (List ℕ)) (k : ℕ) → All IsUtf8 xs → IsUtf8 (get_or xs k [])
utf8-at xs k all = elim (cases_lt k (length xs)) [ inl inside ↦ all k [] inside | inr past ↦ subst IsUtf8 (sym (get_or_past xs k [] past)) IsUtf8-nil ]

all-texts : (xs : List (List ℕ)) → list_all are_ascii xs ≡ true → All IsUtf8 xs
all-texts [] is = All-nil IsUtf8
all-texts (x ∷ xs) is = let p = and_parts (are_ascii x) (list_all are_ascii xs) is in All-cons IsUtf8 x xs (IsUtf8-are_ascii x p.0) (all-texts xs p.1)

utf8-spaces : (n : ℕ) → IsUtf8 (spaces n)
utf8-spaces n = IsUtf8-from_ascii (spaces n) (IsAscii-from_all (spaces n) (All-replicate (λ b. b < 128) n 32 (lit< tt)))

-- ---- tabs written as spaces

-- At a tab both parts are texts.
before-tab : (xs bs : List ℕ) → IsUtf8 (xs ++ 9 ∷ bs) → IsUtf8 xs
before-tab xs bs u =
    let whole = xs ++ 9 ∷ bs in
    let at : get_or whole (length xs) 0 ≡ 9 = get_or_at xs 9 bs 0 (length xs) refl in
    let inside : length xs < length whole = omega (arith, length-append xs (9 ∷ bs)) in
    subst IsUtf8 (take_at xs (9 ∷ bs) (length xs) refl) (IsUtf8-take whole (length xs) u (IsCharBoundary-before_ascii whole (length xs) inside (omega (arith, at))))

behind-tab : (xs bs : List ℕ) → IsUtf8 (xs ++ 9 ∷ bs) → IsUtf8 bs
behind-tab xs bs u =
    let whole = xs ++ 9 ∷ bs in
    let at : get_or whole (length xs) 0 ≡ 9 = get_or_at xs 9 bs 0 (length xs) refl in
    let inside : length xs < length whole = omega (arith, length-append xs (9 ∷ bs)) in
    let split = ap (drop (length xs + 1)) (sym (append_assoc xs (9 ∷ []) bs)) in
    let behind = drop_at (xs ++ 9 ∷ []) bs (length xs + 1) (length_push xs 9) in
    subst IsUtf8 (split ∙ behind) (IsUtf8-drop whole (length xs + 1) u (IsCharBoundary-after_ascii whole (length xs) u inside (omega (arith, at))))

untabbed-step : (xs bs : List ℕ) (b : ℕ) → IsUtf8 (xs ++ b ∷ bs) → (IsUtf8 bs → IsUtf8 (untabbed bs)) → (IsUtf8 ((xs ++ b ∷ []) ++ bs) → IsUtf8 ((xs ++ b ∷ []) ++ untabbed bs))
    → IsUtf8 (xs ++ untabbed (b ∷ bs))
untabbed-step xs bs b u tab other = by (b == 9) refl
  where
    by : (t : Bool) → (b == 9) ≡ t → IsUtf8 (xs ++ (cond t (spaces 4) (b ∷ []) ++ untabbed bs))
    by true is =
        let whole = subst (λ n. IsUtf8 (xs ++ n ∷ bs)) (eqb-true b 9 is) u in
        IsUtf8-append xs (spaces 4 ++ untabbed bs) (before-tab xs bs whole) (IsUtf8-append (spaces 4) (untabbed bs) (utf8-spaces 4) (tab (behind-tab xs bs whole)))
    by false is = subst IsUtf8 (append_assoc xs (b ∷ []) (untabbed bs)) (other (subst IsUtf8 (sym (append_assoc xs (b ∷ []) bs)) u))

untabbed-behind : (bs xs : List ℕ) → IsUtf8 (xs ++ bs) → IsUtf8 (xs ++ untabbed bs)
untabbed-behind [] xs u = u
untabbed-behind (b ∷ bs) xs u = untabbed-step xs bs b u (untabbed-behind bs []) (untabbed-behind bs (xs ++ b ∷ []))

utf8-untabbed : (bs : List ℕ) → IsUtf8 bs → IsUtf8 (untabbed bs)
utf8-untabbed bs u = untabbed-behind bs [] u

-- ---- labels, names of rounds

-- The label of a sheet, written.
pub sheet_label-utf8 : (it : SheetLabelOf) → IsUtf8 (sheet_label_text it)
sheet_label-utf8 it = by (is_eq (label_cmp it.first it.last))
  where
    by : (t : Bool) → IsUtf8 (cond t (label_text it.first) (label_text it.first ++ codes "-" ++ label_text it.last))
    by true = label-utf8 it.first
    by false =
        IsUtf8-append (label_text it.first ++ codes "-") (label_text it.last)
        (IsUtf8-append (label_text it.first) (codes "-") (label-utf8 it.first) (IsUtf8-are_ascii (codes "-") refl)) (label-utf8 it.last)

-- The name of a round.
pub round_name-utf8 : (round : ℕ) → IsUtf8 (round_name round)
round_name-utf8 round =
    IsUtf8-from_ascii (round_name round)
    (IsAscii-from_all (round_name round) (All-weaker IsRoundByte (λ b. b < 128) (λ b is. let high = is.high in omega (arith, high)) (round_name round) (round-name round).bytes))

-- ---- cells and rows

-- What the parts of a cell show is text, and so is that of the cells of a row.
pub record CellText (cell : ShownCell) : Type 0 where
  pub parts : All (λ (part : ShownPart). IsUtf8 (part_text part)) cell.parts

pub record RowText (row : ShownRow) : Type 0 where
  pub cells : All CellText row.cells

-- So is that of the rows of a sheet, and of its header.
pub record SheetText (sheet : Sheet) : Type 0 where
  pub header : RowText (header_row sheet)
  pub rows : All RowText sheet.rows

fixed-text : (column : ℕ) (text : List ℕ) → IsUtf8 text → CellText (fixed_cell column text)
fixed-text column text u =
    let Has : ShownPart → Type 0 = λ (part : ShownPart). IsUtf8 (part_text part) in
    record { parts = All-cons Has _ [] u (All-nil Has) }

utf8-cell : (columns : ℕ) (cell : ShownCell) → CellText cell → IsUtf8 (cell_bytes columns cell)
utf8-cell columns cell text = by (is_blank cell)
  where
    shown : IsUtf8 (flat_map part_bytes cell.parts)
    shown =
        let Has : ShownPart → Type 0 = λ (part : ShownPart). IsUtf8 (part_text part) in
        utf8-flat part_bytes cell.parts (All-weaker Has (λ (part : ShownPart). IsUtf8 (part_bytes part)) (λ part u. utf8-untabbed (part_text part) u) cell.parts text.parts)

    by : (t : Bool) → IsUtf8 (cond t [] (spaces (gap cell.column columns) ++ flat_map part_bytes cell.parts))
    by true = IsUtf8-nil
    by false = IsUtf8-append (spaces (gap cell.column columns)) (flat_map part_bytes cell.parts) (utf8-spaces (gap cell.column columns)) shown

utf8-cells : (cells : List ShownCell) (columns : ℕ) → All CellText cells → IsUtf8 (cells_bytes columns cells)
utf8-cells [] columns all = IsUtf8-nil
utf8-cells (cell ∷ cells) columns all =
    IsUtf8-append (cell_bytes columns cell) (cells_bytes (columns_behind columns cell) cells) (utf8-cell columns cell (All-head CellText cell cells all))
    (utf8-cells cells (columns_behind columns cell) (All-tail CellText cell cells all))

star-text : (star : Bool) → All CellText (star_cells star)
star-text true = All-cons CellText _ [] (fixed-text 80 (codes "*") (IsUtf8-are_ascii (codes "*") refl)) (All-nil CellText)
star-text false = All-nil CellText

utf8-row : (row : ShownRow) → RowText row → IsUtf8 (row_line row)
utf8-row row text =
    IsUtf8-append (row_bytes row) (10 ∷ []) (utf8-cells (row.cells ++ star_cells row.star) 0 (All-append CellText row.cells (star_cells row.star) text.cells (star-text row.star)))
    (IsUtf8-are_ascii (10 ∷ []) refl)

-- ---- the header

label-text : (label : Option SheetLabelOf) → All CellText (label_cells label)
label-text None = All-nil CellText
label-text (Some it) =
    let text = sheet_label_text it ++ codes "." in
    All-cons CellText (ending_cell text) [] (fixed-text _ text (IsUtf8-append (sheet_label_text it) (codes ".") (sheet_label-utf8 it) (IsUtf8-are_ascii (codes ".") refl))) (All-nil CellText)

round-text : (round : ℕ) → All CellText (round_cells round)
round-text round = by (nat_lt 0 round)
  where
    by : (t : Bool) → All CellText (cond t (fixed_cell 15 (round_name round) ∷ []) [])
    by true = All-cons CellText _ [] (fixed-text 15 (round_name round) (round_name-utf8 round)) (All-nil CellText)
    by false = All-nil CellText

sheet-text : (sheet : Sheet) → All RowText sheet.rows → SheetText sheet
sheet-text sheet all = record {
  header = record { cells = All-append CellText (round_cells sheet.round) (label_cells sheet.label) (round-text sheet.round) (label-text sheet.label) };
  rows = all;
}

sheet-utf8 : (sheet : Sheet) → SheetText sheet → IsUtf8 (sheet_bytes sheet)
sheet-utf8 sheet text =
    let rows = flat_map row_line sheet.rows in
    IsUtf8-append (row_line (header_row sheet)) (10 ∷ (rows ++ 12 ∷ [])) (utf8-row (header_row sheet) text.header)
    (IsUtf8-append (10 ∷ []) (rows ++ 12 ∷ []) (IsUtf8-are_ascii (10 ∷ []) refl)
    (IsUtf8-append rows (12 ∷ []) (utf8-flat row_line sheet.rows (All-weaker RowText (λ (row : ShownRow). IsUtf8 (row_line row)) utf8-row sheet.rows text.rows))
    (IsUtf8-are_ascii (12 ∷ []) refl)))

-- ---- rows whose parts are parts of lines, fixed texts or labels

module _ (texts : List (List ℕ)) (labels : List LabelOf) (all : All IsUtf8 texts) where
  given-text : (it : ShownText) → IsGiven texts labels it → IsUtf8 (shown_bytes it)
  given-text (slice bytes) given = elim given [
    | inl part ↦
        let line = text_at texts part.line in
        subst IsUtf8 (sym part.is) (IsUtf8-between line part.run.from part.run.to (utf8-at texts part.line all) part.lies.order part.lies.start part.lies.end)
    | inr fixed ↦ All-contains IsUtf8 fixed_texts bytes (all-texts fixed_texts refl) fixed
  ]
  given-text (label it) given = label-utf8 it

  given-cell : (cell : ShownCell) → CellGiven texts labels cell → CellText cell
  given-cell cell given = record {
    parts = All-weaker (λ (part : ShownPart). IsGiven texts labels part.text) (λ (part : ShownPart). IsUtf8 (part_text part)) (λ part. given-text part.text) cell.parts given.parts;
  }

  given-rows : (rows : List ShownRow) → All (RowGiven texts labels) rows → All RowText rows
  given-rows rows given =
      All-weaker (RowGiven texts labels) RowText (λ row own. record { cells = All-weaker (CellGiven texts labels) CellText given-cell row.cells own.cells }) rows given

-- ---- the sheets of a state

body-rows : (lines : List LineState) (labels : Option (List LabelOf)) (elements : List ElementOf) (round from to : ℕ) → All IsUtf8 (line_texts lines)
    → All (RowShows (line_texts lines)) (placed_in elements) → All RowText (page_body round (slice_range (shown_rows lines labels elements) from to))
body-rows lines labels elements round from to all show =
    given-rows (line_texts lines) (unwrap_or labels []) all (page_body round (slice_range (shown_rows lines labels elements) from to)) (page_body-given lines labels elements round from to show)

titles-text : (lines : List LineState) (elements : List ElementOf) → All IsUtf8 (line_texts lines) → All (RowShows (line_texts lines)) (placed_in elements)
    → (starts : List ℕ) → All SheetText (title_sheets (shown_rows lines None elements) starts)
titles-text lines elements all show [] = All-nil SheetText
titles-text lines elements all show (page ∷ later) =
    let titles = shown_rows lines None elements in
    let end = slice_index_or later 0 (length titles) in
    let own = title_sheet (slice_range titles page end) in
    All-cons SheetText own (title_sheets titles later) (sheet-text own (body-rows lines None elements own.round page end all show)) (titles-text lines elements all show later)

sheet-rows : (lines : List LineState) (labels : Option (List LabelOf)) (elements : List ElementOf) → All IsUtf8 (line_texts lines) → All (RowShows (line_texts lines)) (placed_in elements)
    → (sheet : SheetOf) → All RowText (sheet_rows (shown_rows lines labels elements) sheet)
sheet-rows lines labels elements all show sheet = by sheet.omitted
  where
    by : (t : Bool) → All RowText (cond t omitted_rows (page_body sheet.round (slice_range (shown_rows lines labels elements) sheet.start sheet.end)))
    by true = given-rows (line_texts lines) [] all omitted_rows (omitted-given (line_texts lines) [])
    by false = body-rows lines labels elements sheet.round sheet.start sheet.end all show

-- What each sheet of a whole state shows is text.
pub sheets-text : (state : State) → IsWhole state → All SheetText (sheets_of_state state)
sheets-text state whole =
    let are = IsText-texts (text_of state) whole.text in
    let show = layout_of-show state.speakers (text_of state) whole.text in
    let layout = layout_of state.speakers state.lines in
    let labels = heading_labels state.lines state.scenes in
    let rows = rows_in state in
    All-append SheetText (title_sheets (titles_in state) (title_starts state)) (map (shown_sheet rows) (body_sheets state))
    (titles-text state.lines layout.titles are.utf8 show.0 (title_starts state))
    (All-map SheetText (shown_sheet rows) (body_sheets state) (λ k d inside. (
    let sheet = get_or (body_sheets state) k d in
    sheet-text (shown_sheet rows sheet) (sheet-rows state.lines labels layout.body are.utf8 show.1 sheet))))

-- So its bytes are UTF-8.
pub sheets-utf8 : (state : State) → IsWhole state → All (λ (sheet : Sheet). IsUtf8 (sheet_bytes sheet)) (sheets_of_state state)
sheets-utf8 state whole = All-weaker SheetText (λ (sheet : Sheet). IsUtf8 (sheet_bytes sheet)) sheet-utf8 (sheets_of_state state) (sheets-text state whole)

-- So are those of the sheet at a place.
pub sheet-at-utf8 : (state : State) (place : ℕ) (sheet : Sheet) → IsWhole state → slice_get (sheets_of_state state) place ≡ Some sheet → IsUtf8 (sheet_bytes sheet)
sheet-at-utf8 state place sheet whole at =
    let sheets = sheets_of_state state in
    subst (λ (it : Sheet). IsUtf8 (sheet_bytes it)) (get_or_from_slice_get sheets place sheet sheet at) (sheets-utf8 state whole place sheet (slice_get_within sheets place sheet at))
