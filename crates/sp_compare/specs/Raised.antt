-- The rounds that a change gives page records (docs/RULES.md, "Edits and records").
use Rattle.std.specs.Prelude.{◌≡◌, ℕ, ◌+◌, ◌≤◌, false, if◌then◌else◌, Bool, Option, List, [], ◌∷◌, length, slice_index, slice_index_or, All, AllPairs}
use Rattle.spec_labels.specs.declared.Moved.{Moved}
use Rattle.spec_labels.specs.PageRecords.{PageRecordOf, moved_of}
use Rattle.spec_labels.specs.Labels.{LabelOf}
use Rattle.spec_sheets.specs.Shown.{Shown, shown_rows}
use Rattle.spec_state.specs.SameRows.{same_rows}
use Rattle.spec_state.specs.Changes.{raised, segment_rows}
use Rattle.sp_layout.specs.Bodies.{row_count}
use Rattle.sp_compare.specs.BareRows.{Both, TellsSameRows}

-- Starts of so many segments in so many rows.
pub record AreSegments (rows count : ℕ) (starts : List ℕ) : Type 0 where
  pub many : length starts ≡ count
  pub order : AllPairs (λ (one other : ℕ). one ≤ other) starts
  pub within : All (λ (start : ℕ). start ≤ rows) starts

-- It tells whether the rows of the segment at a place are the same before a change and after it.
abbrev pub TellsSameSegment : Both → List ℕ → List ℕ → ℕ → Bool → Type 0
TellsSameSegment both before after place =
    TellsSameRows both (slice_index before place) (slice_index_or before (place + 1) (row_count both.olds)) (slice_index after place) (slice_index_or after (place + 1) (row_count both.news))

-- The rounds that records get whose rows differ, where so many records stand before these.
abbrev pub raises : ℕ → ℕ → List (List Shown) → List (List Shown) → List PageRecordOf → List Moved
raises round index [] news records = []
raises round index (old ∷ olds) [] records = []
raises round index (old ∷ olds) (new ∷ news) [] = []
raises round index (old ∷ olds) (new ∷ news) (it ∷ records) =
    if same_rows old new then raises round (index + 1) olds news records else moved_of index (raised round false it) ∷ raises round (index + 1) olds news records

-- These are they for the records of segments of a text before a change and after it, with any labels of headings.
abbrev pub AreRaises : Both → ℕ → List ℕ → List ℕ → List PageRecordOf → List Moved → Type 0
AreRaises both round before after records moved = (olds news : Option (List LabelOf))
    → moved ≡ raises round 0 (segment_rows (shown_rows both.old olds both.olds) before) (segment_rows (shown_rows both.new news both.news) after) records
