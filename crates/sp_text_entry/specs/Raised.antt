-- Page records in an edit, by the text after it and what it displaced (docs/RULES.md, "Edits and records").
use Rattle.std.specs.Prelude.{◌≡◌, ◌+◌, List, [], All, Option, Some, None, option_map, IfSome}
use Rattle.spec_text.specs.Lines.{LineState, TextState}
use Rattle.spec_text.specs.Edits.{Displacement, restored}
use Rattle.spec_labels.specs.declared.Moved.{Moved}
use Rattle.spec_labels.specs.PageRecords.{PageRecordOf, carried_records, put_back_records}
use Rattle.spec_sheets.specs.Shown.{Shown}
use Rattle.spec_records.specs.Kept.{RecordsOf}
use Rattle.spec_state.specs.State.{State}
use Rattle.spec_state.specs.Keeping.{state_of}
use Rattle.spec_state.specs.Changes.{pages_raised, rows_by_record}
use Rattle.sp_text.specs.DisplacedLines.{DisplacedState, displaced_of}
use Rattle.sp_text.specs.Gap.{LinesState, text_of}
use Rattle.sp_exchange.specs.Restoring.{text_before}
use Rattle.sp_compare.specs.Raised.{raises}
use Rattle.sp_locks.specs.Carrying.{CanCarry}
use Rattle.sp_sheets.specs.States.{state_in}
use Rattle.sp_text_entry.specs.TextEntries.{FitRecords}

-- Records with other page records, and with what was kept for these put back.
abbrev pub with_pages : RecordsOf → Option (List PageRecordOf) → RecordsOf
with_pages records pages = record records { pages = pages }

abbrev pub put_back_in : List Moved → RecordsOf → RecordsOf
put_back_in moved records = with_pages records (option_map (put_back_records moved) records.pages)

abbrev pub FitPages : RecordsOf → List Moved → Type 0
FitPages records moved = IfSome records.pages (FitRecords moved)

-- The state before the edit.
abbrev pub state_before : TextState → Displacement → RecordsOf → State
state_before text back records = state_of (restored text back) records

-- The records carried, and those whose rows differ raised.
abbrev pub records_carried : TextState → Displacement → RecordsOf → RecordsOf
records_carried text back records = with_pages records (option_map (carried_records text.lines (back.first + back.stands)) records.pages)

abbrev pub records_raised : TextState → Displacement → RecordsOf → RecordsOf
records_raised text back records =
    with_pages records (pages_raised (state_before text back records) (state_of text (records_carried text back records)) records.pages (records_carried text back records).pages)

-- The same by lines and what was displaced of them: the text before the edit, the state, the records carried, the state with these, and
-- the records raised.
abbrev pub old_text : LinesState → DisplacedState → TextState
old_text lines back = text_before (text_of lines) back

abbrev pub old_state : LinesState → DisplacedState → RecordsOf → State
old_state lines back records = state_before (text_of lines) (displaced_of back) records

abbrev pub carried_by : LinesState → DisplacedState → RecordsOf → RecordsOf
carried_by lines back records = records_carried (text_of lines) (displaced_of back) records

abbrev pub carried_state : LinesState → DisplacedState → RecordsOf → State
carried_state lines back records = state_in lines (carried_by lines back records)

abbrev pub raised_by : LinesState → DisplacedState → RecordsOf → RecordsOf
raised_by lines back records = records_raised (text_of lines) (displaced_of back) records

-- The rounds that were raised lead back, and then the anchors that were carried.
abbrev pub LeadRecordsBack : RecordsOf → List Moved → List Moved → RecordsOf → Type 0
LeadRecordsBack records raised moved before = put_back_in moved (put_back_in raised records) ≡ before

-- Each record's line is in the text, is the end, or is displaced.
abbrev pub AreCarried : List LineState → List LineState → RecordsOf → Type 0
AreCarried lines displaced records = IfSome records.pages (All (CanCarry lines displaced))

-- Those that the page records of a state get, whose rows were these before.
abbrev pub raises_in : List (List Shown) → State → Option (List PageRecordOf) → List Moved
raises_in olds state None = []
raises_in olds state (Some records) = raises state.round 0 olds (rows_by_record state records) records
