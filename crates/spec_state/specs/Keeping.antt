-- What every state of a desk keeps (docs/RULES.md, "The desk" and "Record file").
use Rattle.spec_text.specs.Lines.{TextState, IsText}
use Rattle.spec_records.specs.Kept.{RecordsOf, KeptOf, kept_of, KeepsRules}
use Rattle.spec_state.specs.State.{State, text_of}

-- The round, the settings and the records of a state.
abbrev pub records_of : State → RecordsOf
records_of state = record { round = state.round; speakers = state.speakers; paper = state.paper; scenes = state.scenes; pages = state.pages }

-- A state without its texts, as its record file keeps it.
abbrev pub state_kept : State → KeptOf
state_kept state = kept_of (text_of state) (records_of state)

-- The state of a text and its records.
abbrev pub state_of : TextState → RecordsOf → State
state_of text records = record {
  lines = text.lines;
  next = text.next;
  round = records.round;
  speakers = records.speakers;
  paper = records.paper;
  scenes = records.scenes;
  pages = records.pages;
}

-- Its text is one, and it keeps rules 4 to 6 of a record file.
pub record IsWhole (state : State) : Type 0 where
  pub text : IsText (text_of state)
  pub rules : KeepsRules state.lines (state_kept state)
