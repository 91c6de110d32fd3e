-- The bytes of a sheet are those of its rows by their columns.
use Rattle.std.proofs.Common.{◌≡◌, ℕ, List, [], ◌∷◌, ◌++◌, refl, ap, ap₂}
use Rattle.std.specs.Prelude.{All}
use Rattle.std.specs.List.{flat_map}
use Rattle.std.proofs.lemmas.List.Elements.{All-head, All-tail, All-weaker}
use Rattle.spec_sheets.specs.RowBytes.{ShownRow, row_line}
use Rattle.spec_sheets.specs.RowColumns.{line_written, sheet_written}
use Rattle.spec_sheets.specs.Sheets.{Sheet, header_row, sheet_bytes}
use Rattle.spec_sheets.proofs.RowColumns.{HasText, row-columns}
use Rattle.spec_state.specs.State.{State}
use Rattle.spec_state.specs.Keeping.{IsWhole}
use Rattle.spec_state.specs.StateSheets.{sheets_of_state}
use Rattle.spec_state.proofs.SheetTexts.{CellText, RowText, SheetText, sheets-text}

row-written : (row : ShownRow) → RowText row → row_line row ≡ line_written row
row-written row text = ap (λ (l : List ℕ). l ++ 10 ∷ []) (row-columns row (All-weaker CellText HasText (λ cell own. own.parts) row.cells text.cells))

rows-written : (rows : List ShownRow) → All RowText rows → flat_map row_line rows ≡ flat_map line_written rows
rows-written [] all = refl
rows-written (row ∷ rows) all =
    ap₂ (λ (a b : List ℕ). a ++ b) (row-written row (All-head RowText row rows all)) (rows-written rows (All-tail RowText row rows all))

sheet-written : (sheet : Sheet) → SheetText sheet → sheet_bytes sheet ≡ sheet_written sheet
sheet-written sheet text =
    ap₂ (λ (a b : List ℕ). a ++ (10 ∷ (b ++ 12 ∷ []))) (row-written (header_row sheet) text.header) (rows-written sheet.rows text.rows)

all-written : (sheets : List Sheet) → All SheetText sheets → flat_map sheet_bytes sheets ≡ flat_map sheet_written sheets
all-written [] all = refl
all-written (sheet ∷ sheets) all =
    ap₂ (λ (a b : List ℕ). a ++ b) (sheet-written sheet (All-head SheetText sheet sheets all)) (all-written sheets (All-tail SheetText sheet sheets all))

-- The bytes of all sheets of a whole state are those of its rows by their columns.
pub sheets-written : (state : State) → IsWhole state → flat_map sheet_bytes (sheets_of_state state) ≡ flat_map sheet_written (sheets_of_state state)
sheets-written state whole = all-written (sheets_of_state state) (sheets-text state whole)
