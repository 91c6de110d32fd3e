-- Telling texts: what their records' sheets are, and what edits touch.
use Rattle.std.proofs.Common.{◌≡◌, ℕ, Some, false, true, List, [], ◌∷◌, ◌++◌, length, map, refl, Bool}
use Rattle.std.specs.Prelude.{codes}
use Rattle.std.specs.Fmt.{digits}
use Rattle.std.specs.Str.{chars}
use Rattle.ucd_derived.specs.Binary.{is_lowercase, is_alphabetic}
use Rattle.ucd_derived.specs.AlphabeticRanges.{alphabetic_ranges}
use Rattle.ucd_derived.specs.LowercaseRanges.{lowercase_ranges}
use Rattle.ucd_table.specs.Rows.{in_ranges, value_in}
use Rattle.ucd_category.specs.GeneralCategory.{general_category}
use Rattle.ucd_category.specs.GeneralCategoryRows.{general_category_rows}
use Rattle.unicode_segmentation.proofs.Computing.{unicode_segmentation}
use Rattle.unicode_width.proofs.Computing.{unicode_width}
use Rattle.spec_text.specs.Lines.{read_lines}
use Rattle.spec_text.specs.Edits.{Replacement}
use Rattle.spec_text.specs.Ranges.{range_of}
use Rattle.spec_pages.specs.Wrapping.{rows_of}
use Rattle.spec_pages.specs.declared.Paper.TheVariants.{Letter}
use Rattle.spec_labels.specs.Labels.{plain_label}
use Rattle.spec_sheets.specs.RowBytes.{spaces}
use Rattle.spec_state.specs.State.{State}
use Rattle.spec_state.specs.Changes.{edited_state}
use Rattle.spec_edit.specs.Touched.{is_touched_old, is_touched_new, touches_element, changes_partner}
use Rattle.spec_locked_pages.specs.Segments.{bytes_at}
use Rattle.spec_locked_pages.specs.LockedPages.{elements_in, edit_blocks}

-- A state with one record, which has the whole text.
abbrev whole : List (List ℕ) → State
whole texts = record {
  lines = read_lines texts;
  next = length texts;
  round = 0;
  speakers = true;
  paper = Letter;
  scenes = Some [];
  pages = Some (record { label = plain_label 1; line = 0; row = 0; changed = 0 } ∷ []);
}

-- Which elements of the text before an edit are touched, and which of the text after it, where its window is from one line to another.
abbrev flags_old : Replacement → State → ℕ → ℕ → List Bool
flags_old it old a b = map (touches_element (is_touched_old (edit_blocks (range_of it) old (edited_state old it) a b))) (elements_in old)

abbrev flags_new : Replacement → State → ℕ → ℕ → List Bool
flags_new it old a b = map (touches_element (is_touched_new (edit_blocks (range_of it) old (edited_state old it) a b))) (elements_in (edited_state old it))

-- A speech far behind the window is touched by another name in the first cue: it isn't continued any more.
abbrev two_cues : State
two_cues = whole (codes "ANNA" ∷ codes "One." ∷ [] ∷ codes "She waits." ∷ [] ∷ codes "ANNA (V.O.)" ∷ codes "Two." ∷ [])

abbrev other_name : Replacement
other_name = record { first = 0; old = 1; texts = codes "BERT" ∷ [] }

pub speaker_touched : (flags_old other_name two_cues 0 3 ≡ true ∷ false ∷ true ∷ []) × (flags_new other_name two_cues 0 3 ≡ true ∷ false ∷ true ∷ [])
unfolding chars is_lowercase is_alphabetic in_ranges lowercase_ranges alphabetic_ranges rows_of unicode_segmentation unicode_width lib.Utf8.encode digits
speaker_touched = (refl, refl)

-- So that speech, as a page record of its own, has another sheet.
abbrev last_alone : State
last_alone = record two_cues { pages = Some (record { label = plain_label 1; line = 0; row = 0; changed = 0 } ∷ record { label = plain_label 2; line = 5; row = 0; changed = 0 } ∷ []) }

pub speaker_sheets :
    (bytes_at last_alone 1 ≡ (spaces 73 ++ codes "2.\n\n" ++ spaces 37 ++ codes "ANNA (V.O.) (CONT'D)\n" ++ spaces 25 ++ codes "Two.\n" ++ 12 ∷ []) ∷ [])
    × (bytes_at (edited_state last_alone other_name) 1 ≡ (spaces 73 ++ codes "2.\n\n" ++ spaces 37 ++ codes "ANNA (V.O.)\n" ++ spaces 25 ++ codes "Two.\n" ++ 12 ∷ []) ∷ [])
unfolding chars is_lowercase is_alphabetic in_ranges lowercase_ranges alphabetic_ranges rows_of unicode_segmentation unicode_width lib.Utf8.encode digits
speaker_sheets = (refl, refl)

-- A locked heading, a pair with a continued right half, and a second record behind a page break.
abbrev pair_state : State
pair_state = record {
  lines = read_lines (codes ".HALL #7#" ∷ [] ∷ codes "ANNA" ∷ codes "One." ∷ [] ∷ codes "ANNA ^" ∷ codes "Two." ∷ [] ∷ codes "===" ∷ [] ∷ codes "ANNA" ∷ codes "Three." ∷ []);
  next = 12;
  round = 1;
  speakers = true;
  paper = Letter;
  scenes = Some (record { label = plain_label 7; line = 0 } ∷ []);
  pages = Some (record { label = plain_label 1; line = 0; row = 0; changed = 0 } ∷ record { label = plain_label 2; line = 10; row = 0; changed = 0 } ∷ []);
}

-- Another last line touches the last speech alone, so the first record keeps its sheet; the second one's has a round and a star.
abbrev other_line : Replacement
other_line = record { first = 11; old = 1; texts = codes "So Three." ∷ [] }

pub last_touched : flags_old other_line pair_state 10 12 ≡ false ∷ false ∷ false ∷ true ∷ []
unfolding chars is_lowercase is_alphabetic in_ranges lowercase_ranges alphabetic_ranges general_category value_in general_category_rows rows_of unicode_segmentation unicode_width lib.Utf8.encode digits
last_touched = refl

abbrev pair_sheet : List ℕ
pair_sheet =
    spaces 73 ++ codes "1.\n\n" ++ spaces 7 ++ codes "7" ++ spaces 7 ++ codes "HALL" ++ spaces 57 ++ codes "7\n\n"
    ++ spaces 15 ++ codes "ANNA" ++ spaces 28 ++ codes "ANNA (CONT'D)\n" ++ spaces 15 ++ codes "One." ++ spaces 28 ++ codes "Two.\n" ++ 12 ∷ []

pub kept_sheet : (bytes_at pair_state 0 ≡ pair_sheet ∷ []) × (bytes_at (edited_state pair_state other_line) 0 ≡ pair_sheet ∷ [])
unfolding chars is_lowercase is_alphabetic in_ranges lowercase_ranges alphabetic_ranges general_category value_in general_category_rows rows_of unicode_segmentation unicode_width lib.Utf8.encode digits
kept_sheet = (refl, refl)

pub starred_sheet : bytes_at (edited_state pair_state other_line) 1
    ≡ (spaces 15 ++ codes "Blue" ++ spaces 54 ++ codes "2.\n\n" ++ spaces 37 ++ codes "ANNA (CONT'D)\n" ++ spaces 25 ++ codes "So Three." ++ spaces 46 ++ codes "*\n" ++ 12 ∷ []) ∷ []
unfolding chars is_lowercase is_alphabetic in_ranges lowercase_ranges alphabetic_ranges general_category value_in general_category_rows rows_of unicode_segmentation unicode_width lib.Utf8.encode digits
starred_sheet = refl

-- A pair round a window without blocks stays one element, and isn't touched; where a block comes between its halves, both are.
abbrev pair_alone : List (List ℕ) → State
pair_alone middle = whole (codes "ANNA" ∷ codes "One." ∷ [] ∷ middle ++ codes "BERT ^" ∷ codes "Two." ∷ [])

abbrev put_empty : Replacement
put_empty = record { first = 3; old = 0; texts = [] ∷ [] }

pub round_empty : (flags_old put_empty (pair_alone []) 3 4 ≡ false ∷ []) × (flags_new put_empty (pair_alone []) 3 4 ≡ false ∷ [])
unfolding chars is_lowercase is_alphabetic in_ranges lowercase_ranges alphabetic_ranges rows_of unicode_segmentation unicode_width lib.Utf8.encode digits
round_empty = (refl, refl)

abbrev put_action : Replacement
put_action = record { first = 3; old = 0; texts = codes "!x" ∷ [] ∷ [] }

pub round_action : (flags_old put_action (pair_alone []) 3 5 ≡ true ∷ []) × (flags_new put_action (pair_alone []) 3 5 ≡ true ∷ true ∷ true ∷ [])
unfolding chars is_lowercase is_alphabetic in_ranges lowercase_ranges alphabetic_ranges rows_of unicode_segmentation unicode_width lib.Utf8.encode digits
round_action = (refl, refl)

-- A partner that stood in the window is another block than one before it: lines 3 to 14 go, with the speech of line 7, and its
-- partner of line 15 gets that of line 0.
abbrev far_pair : State
far_pair = pair_alone (codes "!x" ∷ [] ∷ [] ∷ [] ∷ codes "ZOE" ∷ codes "Hi." ∷ [] ∷ [] ∷ [] ∷ [] ∷ [] ∷ [] ∷ [])

abbrev cut_far : Replacement
cut_far = record { first = 3; old = 12; texts = [] }

pub other_partner : changes_partner (edit_blocks (range_of cut_far) far_pair (edited_state far_pair cut_far) 3 3) 15 ≡ true
unfolding chars is_lowercase is_alphabetic in_ranges lowercase_ranges alphabetic_ranges rows_of unicode_segmentation unicode_width lib.Utf8.encode digits
other_partner = refl
