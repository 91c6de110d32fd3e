-- The state of lines and records.
use Rattle.spec_records.specs.Kept.{RecordsOf}
use Rattle.spec_state.specs.State.{State}
use Rattle.spec_state.specs.Keeping.{state_of}
use Rattle.sp_text.specs.Gap.{LinesState, text_of}
use Rattle.sp_exchange.specs.Restoring.{TextOf}

-- The state of these lines, with this round, these settings and records.
abbrev pub state_in : LinesState → RecordsOf → State
state_in lines records = state_of (text_of lines) records

-- The state of a text with these records.
abbrev pub state_with : TextOf → RecordsOf → State
state_with text records = state_in text.lines records
