-- Sheets in bytes (docs/RULES.md, "Collation").
use Rattle.std.specs.Prelude.{◌≡◌, false, ℕ, List, [], ◌∷◌, ◌++◌, All}
use Rattle.std.specs.List.{flat_map}
use Rattle.spec_sheets.specs.RowBytes.{ShownRow, row_line}
use Rattle.spec_labels.specs.Labels.{LabelOf, label_text}
use Rattle.spec_labels.specs.LabelReading.{Spells}
use Rattle.spec_packet.specs.SheetLists.{PrintedOf, SheetListOf, IsIn, InOrder, Before}
use Rattle.spec_packet.specs.SheetReadings.{is_sheet_end, PieceKind, title, labelled, kind_of}

-- The label is read back from its written form.
abbrev pub IsReadable : LabelOf → Type 0
IsReadable it = Spells (label_text it) it

-- The bytes are one piece with its form feed, and read as a sheet of this kind.
pub record IsPiece (kind : PieceKind) (bytes : List ℕ) : Type 0 where
  pub piece : List ℕ
  pub is : bytes ≡ piece ++ (12 ∷ [])
  pub whole : All (λ b. is_sheet_end b ≡ false) piece
  pub reads : kind_of piece ≡ kind

-- The rows have no form feed: control characters are dropped from a text.
pub record IsPlain (rows : List ShownRow) : Type 0 where
  pub whole : All (λ b. is_sheet_end b ≡ false) (flat_map row_line rows)

-- The bytes are a printed list of sheets: each is one piece, and those with labels rise.
pub record ArePieces (list : SheetListOf) : Type 0 where
  pub titles : (bytes : List ℕ) → IsIn bytes list.titles → IsPiece title bytes
  pub sheets : (sheet : PrintedOf) → IsIn sheet list.labelled → IsPiece (labelled sheet.label) sheet.bytes
  pub order : InOrder Before list.labelled
