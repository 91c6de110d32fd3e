-- When bytes are a list of sheets, and which sheet is the first that breaks it (docs/RULES.md, "Collation").
use Rattle.std.specs.Prelude.{◌≡◌, ◌⊎◌, ℕ, ◌+◌, ◌<◌, Bool, true, not, if◌then◌else◌, List, [], ◌∷◌, ◌++◌, length, map, filter, take, All, AllPairs, Option, Some, None, option_map}
use Rattle.std.specs.List.{list_any, filter_map, slice_split}
use Rattle.spec_script.specs.Letters.{ends}
use Rattle.spec_labels.specs.Labels.{Below}
use Rattle.spec_sheets.specs.Sheets.{SheetLabelOf}
use Rattle.spec_packet.specs.SheetLists.{PrintedOf, SheetListOf}
use Rattle.spec_packet.specs.SheetReadings.{is_line_end, is_sheet_end, header_in, header_labels}

-- Cut behind each form feed, the bytes are these pieces, each without its form feed, and the rest behind the last one.
abbrev pub AreCut : List ℕ → List (List ℕ) → List ℕ → Type 0
AreCut bytes pieces rest = slice_split is_sheet_end bytes ≡ pieces ++ rest ∷ []

-- A piece has an LF.
abbrev pub HasLine : List ℕ → Type 0
HasLine piece = list_any is_line_end piece ≡ true

-- A title sheet is one whose header doesn't end in `.`.
abbrev pub has_stop : List ℕ → Bool
has_stop piece = ends 46 (header_in piece)

abbrev pub is_title : List ℕ → Bool
is_title piece = not (has_stop piece)

-- The header of a sheet spells these labels.
pub record HasLabels (piece : List ℕ) (label : SheetLabelOf) : Type 0 where
  pub stop : has_stop piece ≡ true
  pub spells : header_labels (header_in piece) ≡ Some label

-- Pieces are sheets where each has an LF, title sheets come first, the header of every other one spells labels, and the first of
-- these is above the last one of the sheet before.
pub record AreSheets (pieces : List (List ℕ)) : Type 0 where
  pub lines : All HasLine pieces
  pub titles : AllPairs (λ (one other : List ℕ). has_stop one ≡ true → has_stop other ≡ true) pieces
  pub labels : All (λ (piece : List ℕ). has_stop piece ≡ true → (label : SheetLabelOf) × HasLabels piece label) pieces
  pub order : (front : List (List ℕ)) (one next : List ℕ) (back : List (List ℕ)) → pieces ≡ front ++ one ∷ next ∷ back
      → (label other : SheetLabelOf) → HasLabels one label → HasLabels next other → Below label.last other.first

-- The bytes of a sheet, with its form feed.
abbrev pub whole_sheet : List ℕ → List ℕ
whole_sheet piece = piece ++ 12 ∷ []

-- A sheet with labels.
abbrev pub printed_by : List ℕ → SheetLabelOf → PrintedOf
printed_by piece label = record { label = label; bytes = whole_sheet piece }

abbrev pub printed_of : List ℕ → Option PrintedOf
printed_of piece = if has_stop piece then option_map (printed_by piece) (header_labels (header_in piece)) else None

-- The list of sheets.
abbrev pub list_of : List (List ℕ) → SheetListOf
list_of pieces = record { titles = map whole_sheet (filter is_title pieces); labelled = filter_map printed_of pieces }

-- The bytes are this list of sheets.
pub record AreListed (bytes : List ℕ) (list : SheetListOf) : Type 0 where
  pub pieces : List (List ℕ)
  pub cut : AreCut bytes pieces []
  pub are : AreSheets pieces
  pub all : list ≡ list_of pieces

-- The k-th sheet of the bytes, counted from 0, is the first that breaks it: those before it are sheets and together with it they
-- aren't, or it is a rest without form feed.
pub record BreaksFirst (bytes : List ℕ) (k : ℕ) : Type 0 where
  pub pieces : List (List ℕ)
  pub rest : List ℕ
  pub cut : AreCut bytes pieces rest
  pub before : AreSheets (take k pieces)
  pub breaks : ((k < length pieces) × (AreSheets (take (k + 1) pieces) → ⊥)) ⊎ ((k ≡ length pieces) × (rest ≡ [] → ⊥))
