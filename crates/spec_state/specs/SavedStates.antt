-- States that are saved, and opened again (docs/RULES.md, "Record file").
use Rattle.std.specs.Prelude.{◌≡◌, List}
use Rattle.spec_text.specs.Lines.{LineState}
use Rattle.spec_text.specs.Edits.{relabelled}
use Rattle.spec_records.specs.Kept.{KeptOf}
use Rattle.spec_records.specs.RecordFile.{IsRecordFile, written}
use Rattle.spec_state.specs.State.{State}
use Rattle.spec_state.specs.Keeping.{state_kept, state_of}

-- The state that a record file makes of a text.
abbrev pub state_of_file : List LineState → KeptOf → State
state_of_file text it = state_of (record { lines = relabelled text it.ids it.marks; next = it.next }) it.records

-- The file that is written of a state is one of the text, and makes the state of it again.
pub record IsSaved (state : State) (text : List LineState) : Type 0 where
  pub file : IsRecordFile (written state.lines (state_kept state)) text (state_kept state)
  pub back : state_of_file text (state_kept state) ≡ state
