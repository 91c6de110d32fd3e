-- What an edit makes of a state (docs/RULES.md, "Edits and records").
use Rattle.std.specs.Prelude.{ℕ, ◌+◌, ◌≤◌, Bool, if◌then◌else◌, List, [], ◌∷◌, length, slice_range, slice_index_or, Option, Some, None, option_map}
use Rattle.spec_text.specs.Lines.{TextState, IsText}
use Rattle.spec_text.specs.Edits.{Replacement, changed}
use Rattle.spec_labels.specs.PageRecords.{PageRecordOf, record_starts, carried_records}
use Rattle.spec_sheets.specs.Shown.{Shown}
use Rattle.spec_state.specs.State.{State, text_of}
use Rattle.spec_state.specs.StateSheets.{rows_in, keys_in}
use Rattle.spec_state.specs.SameRows.{same_rows}

-- The text of a state after an edit.
abbrev pub text_after : State → Replacement → TextState
text_after state it = changed (text_of state) it state.round

-- The page records after it, anchored where the text after it has their lines.
abbrev pub carried_after : State → Replacement → Option (List PageRecordOf)
carried_after state it = option_map (carried_records (text_after state it).lines (it.first + length it.texts)) state.pages

-- The state after it, with the rounds of page records as they were.
abbrev pub carried_state : State → Replacement → State
carried_state state it = record state { lines = (text_after state it).lines; next = (text_after state it).next; pages = carried_after state it }

-- The rows of segments with these first rows.
abbrev pub segment_rows : List Shown → List ℕ → List (List Shown)
segment_rows rows [] = []
segment_rows rows (start ∷ starts) = slice_range rows start (slice_index_or starts 0 (length rows)) ∷ segment_rows rows starts

-- The rows of each record.
abbrev pub rows_by_record : State → List PageRecordOf → List (List Shown)
rows_by_record state records = segment_rows (rows_in state) (record_starts state.lines (keys_in state) records)

-- A record in this round, unless its rows are the same as before.
abbrev pub raised : ℕ → Bool → PageRecordOf → PageRecordOf
raised round same it = if same then it else record { label = it.label; line = it.line; row = it.row; changed = round }

-- Records, each with its rows before and after the edit.
abbrev pub raised_records : ℕ → List (List Shown) → List (List Shown) → List PageRecordOf → List PageRecordOf
raised_records round [] news records = records
raised_records round (old ∷ olds) [] records = records
raised_records round (old ∷ olds) (new ∷ news) [] = []
raised_records round (old ∷ olds) (new ∷ news) (it ∷ records) = raised round (same_rows old new) it ∷ raised_records round olds news records

-- The page records of two states, raised where rows differ.
abbrev pub pages_raised : State → State → Option (List PageRecordOf) → Option (List PageRecordOf) → Option (List PageRecordOf)
pages_raised old new (Some before) (Some records) = Some (raised_records old.round (rows_by_record old before) (rows_by_record new records) records)
pages_raised old new _ _ = None

-- The state after an edit: its lines change, its page records are carried, and those whose rows differ get the round.
abbrev pub edited_state : State → Replacement → State
edited_state state it = record (carried_state state it) { pages = pages_raised state (carried_state state it) state.pages (carried_after state it) }

-- The edit lies within the lines of the state, and what it makes of them is a text.
pub record CanEdit (state : State) (it : Replacement) : Type 0 where
  pub inside : it.first + it.old ≤ length state.lines
  pub text : IsText (text_after state it)
