-- Sheets and their bytes (docs/RULES.md, "Sheets").
use Rattle.std.specs.Prelude.{Option, Some, None, false, ℕ, ◌-◌, max, nat_lt, if◌then◌else◌, List, [], ◌∷◌, ◌++◌, length, codes}
use Rattle.std.specs.List.{flat_map}
use Rattle.std.specs.Ordering.{is_eq}
use Rattle.spec_labels.specs.Labels.{LabelOf, label_cmp, label_text}
use Rattle.spec_sheets.specs.Cells.{ShownCell, fixed_cell}
use Rattle.spec_sheets.specs.RowBytes.{ShownRow, row_line}
use Rattle.spec_sheets.specs.Rounds.{round_name}

-- A sheet's label, or the first and the last of those it stands for.
pub record SheetLabelOf : Type 0 where
  pub first : LabelOf
  pub last : LabelOf

-- A sheet: its label, where it has one, its round, and its rows below the header.
pub record Sheet : Type 0 where
  pub label : Option SheetLabelOf
  pub round : ℕ
  pub rows : List ShownRow

-- The label as it is written: `first-last`, or the one label.
abbrev pub sheet_label_text : SheetLabelOf → List ℕ
sheet_label_text it =
    if is_eq (label_cmp it.first it.last) then label_text it.first else label_text it.first ++ codes "-" ++ label_text it.last

-- The label and a full stop, so that they end at column 75, or begin at column 15 where they are wider than 60. A label is
-- ASCII, so its columns are its bytes.
abbrev pub ending_cell : List ℕ → ShownCell
ending_cell text = fixed_cell (max 15 (75 - length text)) text

abbrev pub label_cells : Option SheetLabelOf → List ShownCell
label_cells None = []
label_cells (Some it) = ending_cell (sheet_label_text it ++ codes ".") ∷ []

-- The name of a round above 0 stands at column 15.
abbrev pub round_cells : ℕ → List ShownCell
round_cells round = if nat_lt 0 round then fixed_cell 15 (round_name round) ∷ [] else []

-- The header of a sheet.
abbrev pub header_row : Sheet → ShownRow
header_row sheet = record { cells = round_cells sheet.round ++ label_cells sheet.label; star = false }

-- The bytes of a sheet: its header, an empty row, its body rows, each ended, and a form feed.
abbrev pub sheet_bytes : Sheet → List ℕ
sheet_bytes sheet = row_line (header_row sheet) ++ (10 ∷ (flat_map row_line sheet.rows ++ 12 ∷ []))
