-- Telling page records and their sheets (docs/RULES.md, "Page records").
use Rattle.std.proofs.Common.{◌≡◌, ℕ, true, false, List, [], ◌∷◌, map, refl}
use Rattle.std.specs.Prelude.{codes}
use Rattle.std.specs.Fmt.{digits}
use Rattle.spec_text.specs.Lines.{LineState}
use Rattle.spec_labels.specs.declared.RowKey.{RowKey}
use Rattle.spec_labels.specs.Labels.{LabelOf, plain_label, label_text}
use Rattle.spec_labels.specs.PageRecords.{PageRecordOf, SheetOf, end_line, record_starts, sheets_of_records, carried_records, moved_from, put_back_records, extended_page_records}

abbrev label : ℕ → List ℕ → LabelOf
label number path = record { number = number; path = path }

-- A line of this id, a key, and a record of this number without steps.
abbrev line : ℕ → LineState
line id = record { id = id; mark = 0; text = [] }

abbrev key : ℕ → ℕ → RowKey
key id row = record { line = id; row = row }

abbrev recorded : LabelOf → ℕ → ℕ → ℕ → PageRecordOf
recorded it id row round = record { label = it; line = id; row = row; changed = round }

-- A page and an omitted sheet.
abbrev page : LabelOf → ℕ → ℕ → ℕ → SheetOf
page it start end round = record { first = it; last = it; start = start; end = end; round = round; omitted = false }

abbrev omitted : LabelOf → LabelOf → ℕ → ℕ → SheetOf
omitted first last at round = record { first = first; last = last; start = at; end = at; round = round; omitted = true }

abbrev lines : List LineState
lines = line 0 ∷ line 1 ∷ line 2 ∷ []

abbrev records : List PageRecordOf
records = recorded (plain_label 1) 0 0 0 ∷ recorded (plain_label 2) 2 0 0 ∷ recorded (plain_label 3) end_line 0 1 ∷ []

-- Three records, the last of them at the end: its sheet is omitted.
pub starts_row : record_starts lines (key 0 0 ∷ key 2 0 ∷ []) records ≡ 0 ∷ 1 ∷ 2 ∷ []
starts_row = refl

pub sheets_row : sheets_of_records 2 records (0 ∷ 1 ∷ 2 ∷ []) (0 ∷ 1 ∷ [])
    ≡ page (plain_label 1) 0 1 0 ∷ page (plain_label 2) 1 2 0 ∷ omitted (plain_label 3) (plain_label 3) 2 1 ∷ []
sheets_row = refl

pub extended_row : extended_page_records records (page (plain_label 1) 0 1 0 ∷ page (plain_label 2) 1 2 0 ∷ omitted (plain_label 3) (plain_label 3) 2 1 ∷ []) (key 0 0 ∷ key 2 0 ∷ []) ≡ records
extended_row = refl

-- The second record's line is removed, and no line follows.
pub carried_row : carried_records (line 0 ∷ line 1 ∷ []) 2 records
    ≡ recorded (plain_label 1) 0 0 0 ∷ recorded (plain_label 2) end_line 0 0 ∷ recorded (plain_label 3) end_line 0 1 ∷ []
carried_row = refl

pub moved_row : moved_from (line 0 ∷ line 1 ∷ []) 0 records ≡ record { index = 1; line = 2; row = 0; changed = 0 } ∷ []
moved_row = refl

pub put_back_row : put_back_records (record { index = 1; line = 2; row = 0; changed = 0 } ∷ []) (carried_records (line 0 ∷ line 1 ∷ []) 2 records) ≡ records
put_back_row = refl

-- The first two lines are removed: both records go to the line that follows, and the first one still starts at row 0.
pub carried_first_row : carried_records (line 2 ∷ line 3 ∷ []) 0 (recorded (plain_label 1) 0 0 0 ∷ recorded (plain_label 2) 1 5 0 ∷ recorded (plain_label 3) 3 2 0 ∷ [])
    ≡ recorded (plain_label 1) 2 0 0 ∷ recorded (plain_label 2) 2 0 0 ∷ recorded (plain_label 3) 3 2 0 ∷ []
carried_first_row = refl

pub starts_carried_row : record_starts (line 2 ∷ line 3 ∷ []) (key 2 0 ∷ key 2 1 ∷ key 3 0 ∷ key 3 1 ∷ key 3 2 ∷ [])
    (recorded (plain_label 1) 2 0 0 ∷ recorded (plain_label 2) 2 0 0 ∷ recorded (plain_label 3) 3 2 0 ∷ []) ≡ 0 ∷ 0 ∷ 4 ∷ []
starts_carried_row = refl

-- An anchor that no row has: the segment begins at the first row behind it.
pub starts_behind_row : record_starts lines (key 0 0 ∷ key 2 0 ∷ key 2 1 ∷ []) (recorded (plain_label 1) 1 0 0 ∷ recorded (plain_label 2) 1 7 0 ∷ recorded (plain_label 3) 2 1 0 ∷ []) ≡ 0 ∷ 1 ∷ 2 ∷ []
starts_behind_row = refl

-- A second page before the next record is 1A, a third one 1B; behind the last record the number rises.
pub overflow_row : sheets_of_records 9 (recorded (plain_label 1) 0 0 0 ∷ recorded (plain_label 2) 2 0 3 ∷ []) (0 ∷ 6 ∷ []) (0 ∷ 2 ∷ 4 ∷ 6 ∷ 8 ∷ [])
    ≡ page (plain_label 1) 0 2 0 ∷ page (label 1 (1 ∷ [])) 2 4 0 ∷ page (label 1 (2 ∷ [])) 4 6 0 ∷ page (plain_label 2) 6 8 3 ∷ page (plain_label 3) 8 9 3 ∷ []
overflow_row = refl

-- Between 12 and 12A stands 12.A.
pub between_row : map (λ (it : SheetOf). label_text it.first) (sheets_of_records 4 (recorded (plain_label 12) 0 0 0 ∷ recorded (label 12 (1 ∷ [])) 2 0 0 ∷ []) (0 ∷ 3 ∷ []) (0 ∷ 1 ∷ 3 ∷ []))
    ≡ codes "12" ∷ codes "12.A" ∷ codes "12A" ∷ []
unfolding digits
between_row = refl

-- Three records without rows are one sheet of the greatest round; the fourth one stands at the same start and has the rows.
pub omitted_row : sheets_of_records 6
    (recorded (plain_label 1) 0 0 0 ∷ recorded (plain_label 2) 2 0 1 ∷ recorded (plain_label 3) 2 0 4 ∷ recorded (plain_label 4) 2 0 2 ∷ recorded (plain_label 5) 2 0 0 ∷ [])
    (0 ∷ 3 ∷ 3 ∷ 3 ∷ 3 ∷ []) (0 ∷ 3 ∷ [])
    ≡ page (plain_label 1) 0 3 0 ∷ omitted (plain_label 2) (plain_label 4) 3 4 ∷ page (plain_label 5) 3 6 0 ∷ []
omitted_row = refl

-- No rows at all: one omitted sheet for all records.
pub no_rows_row : sheets_of_records 0 records (0 ∷ 0 ∷ 0 ∷ []) [] ≡ omitted (plain_label 1) (plain_label 3) 0 1 ∷ []
no_rows_row = refl

-- The second page of record 1 becomes record 1A, behind record 1 and before record 2, which has no rows.
pub extended_overflow_row : extended_page_records (recorded (plain_label 1) 0 0 3 ∷ recorded (plain_label 2) end_line 0 1 ∷ [])
    (page (plain_label 1) 0 2 3 ∷ page (label 1 (1 ∷ [])) 2 3 3 ∷ omitted (plain_label 2) (plain_label 2) 3 1 ∷ []) (key 0 0 ∷ key 0 1 ∷ key 2 4 ∷ [])
    ≡ recorded (plain_label 1) 0 0 3 ∷ recorded (label 1 (1 ∷ [])) 2 4 3 ∷ recorded (plain_label 2) end_line 0 1 ∷ []
extended_overflow_row = refl

-- Locking: each page becomes a record.
pub locked_row : extended_page_records [] (page (plain_label 1) 0 2 0 ∷ page (plain_label 2) 2 3 0 ∷ []) (key 0 0 ∷ key 0 1 ∷ key 2 4 ∷ [])
    ≡ recorded (plain_label 1) 0 0 0 ∷ recorded (plain_label 2) 2 4 0 ∷ []
locked_row = refl
