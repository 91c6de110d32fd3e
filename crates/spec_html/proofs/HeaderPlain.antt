-- The header of a sheet is the same in HTML.
use Rattle.std.proofs.Common.{◌≡◌, ℕ, ◌-◌, ◌==◌, Bool, true, false, cond, None, Some, List, [], ◌∷◌, ◌++◌, length, max, append-nil, refl, ap, ap₂, sym, ◌∙◌}
use Rattle.std.specs.Prelude.{Option, codes, nat_lt}
use Rattle.std.specs.Ordering.{is_eq}
use Rattle.std.proofs.lemmas.Bool.{eqb-true}
use Rattle.std.proofs.lemmas.List.{nil_from_length}
use Rattle.spec_labels.specs.Labels.{label_cmp, label_text}
use Rattle.spec_sheets.specs.Cells.{ShownCell, fixed_cell}
use Rattle.spec_sheets.specs.RowBytes.{cell_bytes, cells_bytes, columns_behind, gap, is_blank, spaces, untabbed, row_bytes}
use Rattle.spec_sheets.specs.Rounds.{round_name}
use Rattle.spec_sheets.specs.Sheets.{SheetLabelOf, Sheet, sheet_label_text, label_cells, round_cells, header_row}
use Rattle.spec_html.specs.HtmlSheets.{escaped, cell_html, cells_html, row_html}
use Rattle.spec_html.proofs.PlainLabels.{IsPlain, untabbed-plain, escaped-plain, spaces-plain}
use Rattle.spec_html.proofs.PlainLabels as labels

-- The cells of a text without the three bytes, wherever they stand.
pub record AreSame (cells : List ShownCell) : Type 0 where
  pub html : (columns : ℕ) → cells_html columns cells ≡ cells_bytes columns cells
  pub plain : (columns : ℕ) → IsPlain (cells_bytes columns cells)

-- A part without a style.
part-same : (text : List ℕ) (t : Bool) → (length text == 0) ≡ t → IsPlain text → cond t [] (escaped (untabbed text) ++ []) ++ [] ≡ untabbed text ++ []
part-same text true is plain = ap (λ xs. untabbed xs ++ []) (sym (nil_from_length text (eqb-true (length text) 0 is)))
part-same text false is plain = ap (λ xs. xs ++ []) (append-nil (escaped (untabbed text)) ∙ escaped-plain (untabbed text) (untabbed-plain text plain))

cell-same : (column columns : ℕ) (text : List ℕ) → IsPlain text → cell_html columns (fixed_cell column text) ≡ cell_bytes columns (fixed_cell column text)
cell-same column columns text plain =
    ap (λ xs. cond (is_blank (fixed_cell column text)) [] (spaces (gap column columns) ++ xs)) (part-same text (length text == 0) refl plain)

cell-plain : (column columns : ℕ) (text : List ℕ) → IsPlain text → IsPlain (cell_bytes columns (fixed_cell column text))
cell-plain column columns text plain = by (is_blank (fixed_cell column text))
  where
    by : (t : Bool) → IsPlain (cond t [] (spaces (gap column columns) ++ (untabbed text ++ [])))
    by true = record { each = refl }
    by false =
        labels.append (spaces (gap column columns)) (untabbed text ++ []) (spaces-plain (gap column columns))
        (labels.append (untabbed text) [] (untabbed-plain text plain) (record { each = refl }))

none-same : AreSame []
none-same = record { html = λ columns. refl; plain = λ columns. record { each = refl } }

more-same : (column : ℕ) (text : List ℕ) (cells : List ShownCell) → IsPlain text → AreSame cells → AreSame (fixed_cell column text ∷ cells)
more-same column text cells plain same = record {
  html = λ columns. ap₂ (λ xs ys. xs ++ ys) (cell-same column columns text plain) (same.html (columns_behind columns (fixed_cell column text)));
  plain = λ columns.
      labels.append (cell_bytes columns (fixed_cell column text)) (cells_bytes (columns_behind columns (fixed_cell column text)) cells) (cell-plain column columns text plain)
      (same.plain (columns_behind columns (fixed_cell column text)));
}

-- The label of a sheet.
label-plain : (it : SheetLabelOf) → IsPlain (sheet_label_text it)
label-plain it = by (is_eq (label_cmp it.first it.last))
  where
    by : (b : Bool) → IsPlain (cond b (label_text it.first) (label_text it.first ++ codes "-" ++ label_text it.last))
    by true = labels.label it.first
    by false =
        labels.append (label_text it.first ++ codes "-") (label_text it.last) (labels.append (label_text it.first) (codes "-") (labels.label it.first) (record { each = refl }))
        (labels.label it.last)

label-same : (label : Option SheetLabelOf) → AreSame (label_cells label ++ [])
label-same None = none-same
label-same (Some it) =
    let text = sheet_label_text it ++ codes "." in
    more-same (max 15 (75 - length text)) text [] (labels.append (sheet_label_text it) (codes ".") (label-plain it) (record { each = refl })) none-same

header-same : (sheet : Sheet) → AreSame ((round_cells sheet.round ++ label_cells sheet.label) ++ [])
header-same sheet = by (nat_lt 0 sheet.round)
  where
    by : (b : Bool) → AreSame ((cond b (fixed_cell 15 (round_name sheet.round) ∷ []) [] ++ label_cells sheet.label) ++ [])
    by true = more-same 15 (round_name sheet.round) (label_cells sheet.label ++ []) (labels.round sheet.round) (label-same sheet.label)
    by false = label-same sheet.label

-- The header is written as it stands.
pub header-html : (sheet : Sheet) → row_html (header_row sheet) ≡ row_bytes (header_row sheet)
header-html sheet = (header-same sheet).html 0

pub header-escaped : (sheet : Sheet) → escaped (row_bytes (header_row sheet)) ≡ row_bytes (header_row sheet)
header-escaped sheet = escaped-plain (row_bytes (header_row sheet)) ((header-same sheet).plain 0)
