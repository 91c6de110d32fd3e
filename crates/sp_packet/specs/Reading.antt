-- Reading sheets one after another (docs/RULES.md, "Collation").
use Rattle.std.specs.Prelude.{◌≡◌, ℕ, ◌-◌, List, ◌++◌, length, slice_get, Option, Some, None}
use Rattle.spec_labels.specs.Labels.{LabelOf}
use Rattle.spec_packet.specs.SheetLists.{PrintedOf, SheetListOf}
use Rattle.spec_packet.specs.SheetReadings.{SheetsReading, sheets, broken, kind_of, read_piece}

-- The last label of sheets, where one has labels.
abbrev pub last_of_sheet : Option PrintedOf → Option LabelOf
last_of_sheet None = None
last_of_sheet (Some sheet) = Some sheet.label.last

abbrev pub last_label : SheetListOf → Option LabelOf
last_label list = last_of_sheet (slice_get list.labelled (length list.labelled - 1))

-- What is read behind sheets, with these in front.
abbrev pub onto : SheetListOf → SheetsReading → SheetsReading
onto list (sheets later) = sheets (record { titles = list.titles ++ later.titles; labelled = list.labelled ++ later.labelled })
onto list (broken place) = broken place

-- A piece was added to a list as its next sheet.
pub record Adds (old : SheetListOf) (piece : List ℕ) (new : SheetListOf) : Type 0 where
  pub reads : (k : ℕ) (later : Option LabelOf → SheetsReading) → onto old (read_piece k (last_label old) piece (kind_of piece) later) ≡ onto new (later (last_label new))

-- A piece is no next sheet.
pub record Breaks (old : SheetListOf) (piece : List ℕ) : Type 0 where
  pub reads : (k : ℕ) (later : Option LabelOf → SheetsReading) → read_piece k (last_label old) piece (kind_of piece) later ≡ broken k
