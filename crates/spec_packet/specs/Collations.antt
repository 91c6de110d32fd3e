-- The collation of two lists of sheets (docs/RULES.md, "Collation").
use Rattle.std.specs.Prelude.{◌≡◌, Bool, false, not, ◌&&◌, if◌then◌else◌, List, [], ◌∷◌, map, fold, filter}
use Rattle.std.specs.List.{list_any}
use Rattle.spec_sheets.specs.Sheets.{SheetLabelOf}
use Rattle.spec_labels.specs.Labels.{LabelOf}
use Rattle.spec_packet.specs.SheetLists.{PrintedOf, SheetListOf, IsIn, UpTo, AreRising}
use Rattle.spec_packet.specs.SheetReadings.{is_below}

-- Two spans of labels meet, where neither ends before the other begins.
abbrev pub meets : SheetLabelOf → SheetLabelOf → Bool
meets one other = not (is_below one.last other.first) && not (is_below other.last one.first)

-- A sheet whose span meets no span of these.
abbrev pub is_apart : List PrintedOf → PrintedOf → Bool
is_apart sheets it = not (list_any (λ (sheet : PrintedOf). meets it.label sheet.label) sheets)

-- A sheet goes into a list by its first label.
abbrev pub put_sheet : List PrintedOf → PrintedOf → List PrintedOf
put_sheet [] new = new ∷ []
put_sheet (it ∷ sheets) new = if is_below it.label.first new.label.first then it ∷ put_sheet sheets new else new ∷ it ∷ sheets

-- The sheets with labels of the new list, and those of the old one whose span meets none of them, in order of labels.
abbrev pub collated : List PrintedOf → List PrintedOf → List PrintedOf
collated old new = fold put_sheet new (filter (is_apart new) old)

-- The title sheets of the new list, and then the others.
abbrev pub collation : SheetListOf → SheetListOf → SheetListOf
collation old new = record { titles = new.titles; labelled = collated old.labelled new.labelled }

-- A sheet of the present list, and whether the packet has it.
pub record Choice : Type 0 where
  pub sheet : PrintedOf
  pub handed : Bool

abbrev pub sheet_of : Choice → PrintedOf
sheet_of choice = choice.sheet

abbrev pub is_handed : Choice → Bool
is_handed choice = choice.handed

-- The present sheets, and those among them that the packet has.
abbrev pub present_of : List Choice → List PrintedOf
present_of choices = map sheet_of choices

abbrev pub packet_of : List Choice → List PrintedOf
packet_of choices = map sheet_of (filter is_handed choices)

-- One of these sheets stands for a label.
pub record Covers (label : LabelOf) (choices : List Choice) : Type 0 where
  pub by : Choice
  pub there : IsIn by choices
  pub low : UpTo by.sheet.label.first label
  pub high : UpTo label by.sheet.label.last

-- What the packet keeps: both lists rise, a sheet that it leaves out is one of the old sheets, and each old sheet's first label is
-- that of a present sheet.
pub record Suffices (old : List PrintedOf) (now : List Choice) : Type 0 where
  pub was : AreRising old
  pub are : AreRising (present_of now)
  pub stays : (choice : Choice) → IsIn choice now → choice.handed ≡ false → IsIn choice.sheet old
  pub covered : (sheet : PrintedOf) → IsIn sheet old → Covers sheet.label.first now
