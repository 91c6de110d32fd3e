-- Bytes as a list of sheets (docs/RULES.md, "Collation").
use Rattle.std.specs.Prelude.{ℕ, ◌+◌, ◌-◌, ◌==◌, Bool, true, false, not, if◌then◌else◌, List, [], ◌∷◌, ◌++◌, length, take, Option, Some, None, option_map}
use Rattle.std.specs.List.{list_any, before_first, after_first, slice_split}
use Rattle.std.specs.Option.{option_and_then}
use Rattle.std.specs.Ordering.{is_lt}
use Rattle.spec_script.specs.Letters.{ends}
use Rattle.spec_labels.specs.Labels.{LabelOf, label_cmp}
use Rattle.spec_labels.specs.LabelReading.{label_read}
use Rattle.spec_sheets.specs.Sheets.{SheetLabelOf}
use Rattle.spec_packet.specs.SheetLists.{SheetListOf}

-- The first label of two is below the second.
abbrev pub is_below : LabelOf → LabelOf → Bool
is_below one other = is_lt (label_cmp one other)

abbrev pub is_line_end : ℕ → Bool
is_line_end byte = byte == 10

abbrev pub is_dash : ℕ → Bool
is_dash byte = byte == 45

abbrev pub is_sheet_end : ℕ → Bool
is_sheet_end byte = byte == 12

-- What stands before the first LF of a sheet.
abbrev pub header_in : List ℕ → List ℕ
header_in piece = before_first is_line_end piece

-- The word behind the last space, where there is a space.
abbrev pub later_word : ℕ → List ℕ → Option (List ℕ) → Option (List ℕ)
later_word byte text (Some word) = Some word
later_word byte text None = if byte == 32 then Some text else None

abbrev pub last_word : List ℕ → Option (List ℕ)
last_word [] = None
last_word (byte ∷ text) = later_word byte text (last_word text)

-- One label alone is both first and last.
abbrev pub one_label : LabelOf → SheetLabelOf
one_label label = record { first = label; last = label }

-- Two labels, the first below the second.
abbrev pub two_labels : Option LabelOf → Option LabelOf → Option SheetLabelOf
two_labels None last = None
two_labels (Some first) None = None
two_labels (Some first) (Some last) = if is_below first last then Some (record { first = first; last = last }) else None

-- The labels that a word spells: one, or two joined by `-`.
abbrev pub labels_in : List ℕ → Option SheetLabelOf
labels_in word =
    if list_any is_dash word then two_labels (label_read (before_first is_dash word)) (label_read (after_first is_dash word))
    else option_map one_label (label_read word)

-- The labels of a header that ends in `.`: its last word, without that stop, spells them.
abbrev pub header_labels : List ℕ → Option SheetLabelOf
header_labels header = option_and_then (λ (word : List ℕ). labels_in (take (length word - 1) word)) (last_word header)

-- What a piece of the bytes is, without its form feed: a title sheet, a sheet with labels, or no sheet.
pub data PieceKind : Type 0 where
  title : PieceKind
  labelled : SheetLabelOf → PieceKind
  no_sheet : PieceKind

abbrev pub kind_by_labels : Option SheetLabelOf → PieceKind
kind_by_labels None = no_sheet
kind_by_labels (Some label) = labelled label

abbrev pub kind_of : List ℕ → PieceKind
kind_of piece =
    if not (list_any is_line_end piece) then no_sheet
    else (if ends 46 (header_in piece) then kind_by_labels (header_labels (header_in piece)) else title)

-- What bytes are read as: a list of sheets, or the number of the first that breaks it.
pub data SheetsReading : Type 0 where
  sheets : SheetListOf → SheetsReading
  broken : ℕ → SheetsReading

-- A title sheet, or another one, in front of sheets.
abbrev pub with_title : List ℕ → SheetsReading → SheetsReading
with_title piece (sheets later) = sheets (record { titles = (piece ++ 12 ∷ []) ∷ later.titles; labelled = later.labelled })
with_title piece (broken place) = broken place

abbrev pub with_labelled : SheetLabelOf → List ℕ → SheetsReading → SheetsReading
with_labelled label piece (sheets later) = sheets (record { titles = later.titles; labelled = record { label = label; bytes = piece ++ 12 ∷ [] } ∷ later.labelled })
with_labelled label piece (broken place) = broken place

-- A label may follow the last one before it, where there is one.
abbrev pub follows : Option LabelOf → LabelOf → Bool
follows None label = true
follows (Some last) label = is_below last label

-- Title sheets come before all others.
abbrev pub is_first : Option LabelOf → Bool
is_first None = true
is_first (Some last) = false

-- The k-th sheet, and those behind it, read by the last label before them.
abbrev pub read_piece : ℕ → Option LabelOf → List ℕ → PieceKind → (Option LabelOf → SheetsReading) → SheetsReading
read_piece k before piece no_sheet later = broken k
read_piece k before piece title later = if is_first before then with_title piece (later None) else broken k
read_piece k before piece (labelled label) later = if follows before label.first then with_labelled label piece (later (Some label.last)) else broken k

-- The pieces of bytes from the k-th sheet on, where the sheets before them end with this label, or are title sheets. Behind the
-- last form feed stands nothing.
abbrev pub read_pieces : ℕ → Option LabelOf → List (List ℕ) → SheetsReading
read_pieces k before [] = sheets (record { titles = []; labelled = [] })
read_pieces k before (rest ∷ []) = if length rest == 0 then sheets (record { titles = []; labelled = [] }) else broken k
read_pieces k before (piece ∷ next ∷ pieces) = read_piece k before piece (kind_of piece) (λ last. read_pieces (k + 1) last (next ∷ pieces))

-- The sheets of bytes.
abbrev pub sheets_in : List ℕ → SheetsReading
sheets_in bytes = read_pieces 0 None (slice_split is_sheet_end bytes)
