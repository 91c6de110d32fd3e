-- The law of locked pages along the entries of a memory, and from a lock or a round on (docs/RULES.md, "The desk").
use Rattle.std.specs.Prelude.{◌≡◌, ℕ, ◌<◌, List, [], ◌∷◌, length, All}
use Rattle.spec_text.specs.Edits.{Replacement}
use Rattle.spec_text.specs.Ranges.{RangeOf, range_of}
use Rattle.spec_state.specs.State.{State}
use Rattle.spec_state.specs.Changes.{edited_state, CanEdit}
use Rattle.spec_wire.specs.Commands.{CommandOf, lock_scenes, lock_pages, next_round, speakers, paper}
use Rattle.spec_machine.specs.Machine.{EntryOf, Memory}
use Rattle.spec_machine.specs.Sessions.{AcceptsSessions, session_entries, sessions_behind}
use Rattle.spec_labels.specs.PageRecords.{SheetOf}
use Rattle.spec_locked_pages.specs.Segments.{records_in, record_at, segment_at, sheets_at, IsLockedPage}
use Rattle.spec_locked_pages.specs.LockedPages.{LeavesAlone, StaysLocked}

-- An edit of this range makes one state into the other.
pub record IsEditOf (range : RangeOf) (old new : State) : Type 0 where
  pub edit : Replacement
  pub is : range_of edit ≡ range
  pub can : CanEdit old edit
  pub made : new ≡ edited_state old edit

-- The state of each entry leads to that of the next, and that of the last to the present one, by the edit of its range.
abbrev pub LeadTo : List EntryOf → State → Type 0
LeadTo [] now = Unit {0}
LeadTo (entry ∷ []) now = IsEditOf entry.range entry.state now
LeadTo (entry ∷ next ∷ later) now = IsEditOf entry.range entry.state next.state × LeadTo (next ∷ later) now

-- The present state leads to that of the last entry, and that of each entry to that of the one before it.
abbrev pub LeadFrom : State → List EntryOf → Type 0
LeadFrom now [] = Unit {0}
LeadFrom now (entry ∷ []) = IsEditOf entry.range now entry.state
LeadFrom now (entry ∷ next ∷ later) = IsEditOf entry.range next.state entry.state × LeadFrom now (next ∷ later)

-- What every memory of a desk keeps of its entries.
pub record AreLinked (memory : Memory) : Type 0 where
  pub done : LeadTo memory.done memory.state
  pub undone : LeadFrom memory.state memory.undone

-- The first of the states that entries lead from.
abbrev pub first_state : List EntryOf → State → State
first_state [] now = now
first_state (entry ∷ entries) now = entry.state

-- The first of the states that a memory leads back to, by what can be undone.
abbrev pub eldest : Memory → State
eldest memory = first_state memory.done memory.state

-- No step of the entries touches an element that stands in the record's segment.
abbrev pub AllLeaveAlone : ℕ → List EntryOf → State → Type 0
AllLeaveAlone i [] now = Unit {0}
AllLeaveAlone i (entry ∷ entries) now = LeavesAlone entry.range entry.state (first_state entries now) i × AllLeaveAlone i entries now

-- A locked page of the first state that all steps leave alone stays locked, with its bytes, to the present state.
pub record KeepsAlong (i : ℕ) (entries : List EntryOf) (now : State) : Type 0 where
  pub keeps : IsLockedPage (first_state entries now) i → AllLeaveAlone i entries now → StaysLocked (first_state entries now) now i

-- The segment of a record is one sheet, and that has the record's label.
pub record IsOneSheet (state : State) (i : ℕ) : Type 0 where
  pub one : length (sheets_at state i) ≡ 1
  pub label : All (λ (sheet : SheetOf). sheet.first ≡ (record_at state i).label) (sheets_at state i)

-- Each record with a row is a locked page and one sheet.
pub record IsOpened (state : State) : Type 0 where
  pub locked : (i : ℕ) → i < length (records_in state) → (segment_at state i).start < (segment_at state i).end → IsLockedPage state i
  pub single : (i : ℕ) → i < length (records_in state) → (segment_at state i).start < (segment_at state i).end → IsOneSheet state i

-- The command makes an entry, goes along the entries or changes nothing: none of the states before it is dropped.
abbrev pub IsStep : CommandOf → Type 0
IsStep lock_scenes = ⊥
IsStep lock_pages = ⊥
IsStep next_round = ⊥
IsStep (speakers on) = ⊥
IsStep (paper size) = ⊥
IsStep _ = Unit {0}

abbrev pub AreSteps : List CommandOf → Type 0
AreSteps commands = All IsStep commands

-- From a memory on, sessions take their commands, and none of these drops a state.
pub record GoOn (memory : Memory) (sessions : List (List CommandOf)) : Type 0 where
  pub steps : All AreSteps sessions
  pub accepted : AcceptsSessions memory sessions

-- From a memory that a lock or a round left on, over sessions: a record with a row in it that all steps since then leave alone has the
-- one sheet that it had, with its label and its bytes.
pub record KeepsOpened (opened : Memory) (sessions : List (List CommandOf)) (i : ℕ) : Type 0 where
  pub first : first_state (session_entries opened sessions) (sessions_behind opened sessions).state ≡ opened.state
  pub keeps : i < length (records_in opened.state) → (segment_at opened.state i).start < (segment_at opened.state i).end
      → AllLeaveAlone i (session_entries opened sessions) (sessions_behind opened sessions).state
      → StaysLocked opened.state (sessions_behind opened sessions).state i × IsOneSheet (sessions_behind opened sessions).state i
