-- A text laid out, and the first rows of its page records (docs/RULES.md, "Page records").
use Rattle.std.specs.Prelude.{◌≡◌, ℕ, List, [], Option, Some, None}
use Rattle.spec_text.specs.Lines.{LineState}
use Rattle.spec_labels.specs.declared.RowKey.{RowKey}
use Rattle.spec_labels.specs.PageRecords.{PageRecordOf, record_starts}
use Rattle.spec_sheets.specs.Speakers.{text_elements}
use Rattle.spec_state.specs.State.{State}
use Rattle.spec_state.specs.Keeping.{IsWhole}
use Rattle.spec_state.specs.StateSheets.{keys_in}
use Rattle.sp_layout.specs.LaidOut.{LayoutOf, keyed}

-- The layout of the state's text, with the keys of its rows. It asks nothing of its records.
abbrev pub laid_in : State → LayoutOf
laid_in state = keyed state.lines (text_elements state.speakers state.lines)

abbrev pub IsLaidOf : State → LayoutOf → Type 0
IsLaidOf state it = it ≡ laid_in state

-- The first rows of page records by the keys of all rows; none where pages aren't locked.
abbrev pub key_starts : List LineState → List RowKey → Option (List PageRecordOf) → List ℕ
key_starts lines keys None = []
key_starts lines keys (Some records) = record_starts lines keys records

-- The first rows of the page records of a state; none where pages aren't locked.
abbrev pub first_rows : State → List ℕ
first_rows state = key_starts state.lines (keys_in state) state.pages

-- A state keeps the rules of a state, and these are the layout of its text and the first rows of its page records.
pub record IsLaidWith (state : State) (layout : LayoutOf) (starts : List ℕ) : Type 0 where
  pub whole : IsWhole state
  pub laid : IsLaidOf state layout
  pub firsts : starts ≡ first_rows state
