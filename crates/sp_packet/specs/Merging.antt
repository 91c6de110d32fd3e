-- Two lists of sheets merged in one walk over both (docs/RULES.md, "Collation").
use Rattle.std.specs.Prelude.{ℕ, Bool, false, not, if◌then◌else◌, List, [], ◌∷◌, ◌++◌, take, drop}
use Rattle.std.specs.List.{prefix_len, flat_map}
use Rattle.spec_labels.specs.Labels.{LabelOf}
use Rattle.spec_sheets.specs.Sheets.{SheetLabelOf}
use Rattle.spec_packet.specs.SheetLists.{PrintedOf, SheetListOf, bytes_of}
use Rattle.spec_packet.specs.SheetReadings.{is_below}

-- A sheet ends before a label.
abbrev pub ends_before : LabelOf → PrintedOf → Bool
ends_before label sheet = is_below sheet.label.last label

-- How many of the sheets do, and those behind them.
abbrev pub count_before : LabelOf → List PrintedOf → ℕ
count_before label sheets = prefix_len (ends_before label) sheets

-- The first of the sheets, which doesn't end before the labels of another, begins no later than it ends.
abbrev pub first_meets : SheetLabelOf → List PrintedOf → Bool
first_meets label [] = false
first_meets label (sheet ∷ sheets) = not (is_below label.last sheet.label.first)

-- The new sheets with the old ones that meet none of them, in one walk.
abbrev pub merged : List PrintedOf → List PrintedOf → List PrintedOf
merged new [] = new
merged new (sheet ∷ old) =
    take (count_before sheet.label.first new) new
    ++ (if first_meets sheet.label (drop (count_before sheet.label.first new) new) then merged (drop (count_before sheet.label.first new) new) old
    else sheet ∷ merged (drop (count_before sheet.label.first new) new) old)

-- The bytes that the walk writes.
abbrev pub walk_bytes : SheetListOf → SheetListOf → List ℕ
walk_bytes old new = flat_map (λ (title : List ℕ). title) new.titles ++ flat_map bytes_of (merged new.labelled old.labelled)
