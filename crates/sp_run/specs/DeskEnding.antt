-- How a session of a desk ends (docs/RULES.md, "Sessions").
use Rattle.std.specs.Prelude.{◌≡◌, ℕ, ◌+◌, ◌-◌, ◌^◌, ◌<◌, ◌≤◌, ◌⊎◌, Bool, IsTrue, List, slice_get, string_bytes, Option, Some, None}
use Rattle.std.specs.Io.KnownBytes.{Appends, Consumes, IsAtEnd}
use Rattle.spec_state.specs.State.{State}
use Rattle.spec_machine.specs.Machine.{Memory, opened_memory}
use Rattle.spec_session.specs.CommandLines.{KeepsLimits, IsFirstLong, IsFull, command_lines}
use Rattle.spec_session.specs.Runs.{Answered, AtShelf, Counts, Runs, at_shelf, left_by, output_of}
use Rattle.spec_session.specs.Sessions.{SessionEnds, streams}
use Rattle.spec_session.specs.declared.SessionEnd.{SessionEnd}
use Rattle.spec_session.specs.declared.SessionEnd.TheVariants as endings
use Rattle.spec_state.specs.Printing.{no_utf8, long_line, printing_of}
use Rattle.sp_kit.specs.Files.{CallOf, Files, ShelfState}
use Rattle.sp_text.specs.declared.fault.TextFault.TheVariants as faults
use Rattle.sp_run.specs.declared.status.Status.{Status}
use Rattle.sp_run.specs.declared.status.Status.TheVariants as statuses
use Rattle.sp_run.specs.Forms.{from_file}
use Rattle.sp_run.specs.Asking.{AsksTwo, telling}
use Rattle.spec_machine.specs.KeptMemories.{IsWholeMemory}
use Rattle.spec_locked_pages.specs.Chains.{AreLinked}
use Rattle.sp_run.specs.CountedLines.{LackingCounts}
use Rattle.sp_run.specs.Counted.{OpeningCounts}
use Rattle.sp_run.specs.DeskLines.{AnswersLine, NamedDesk, StopsAtLine, answered_lines, desk_itself, memories_of, saves, shelf_behind, unsaved_count}
use Rattle.sp_run.specs.Promises.{ArePromised}
use Rattle.sp_run.specs.Opening.{SameShelf, HasState}
use Rattle.sp_run.specs.Records.{OpensAs, RefusesRecords, records_name}
use Rattle.sp_run.specs.Saving.{Changes, files_of}
use Rattle.sp_run.specs.Unopened.{Outside, FetchFailed, FoundNone, NotOpened, RecordsRefused, Refused, Refuses, SaysNoFile, TooLong}

-- Each save, by this test, that failed raised the shelf's count of faults, where the count can tell.
abbrev pub CountsUnsaved : {R : Type 0} → (List ℕ → Bool) → ShelfState → ShelfState → List (List ℕ) → List (Answered R) → Type 0
CountsUnsaved test old new asked steps = new.faults < 2 ^ 64 - 1 → old.faults + unsaved_count test asked steps ≤ new.faults

-- One of these memories.
abbrev pub IsAmong : List Memory → Memory → Type 0
IsAmong memories memory = (j : ℕ) × (slice_get memories j ≡ Some memory)

-- Under a name stands what stood there, or these bytes of the state of one of these memories.
abbrev pub HasOldOrOne : (State → List ℕ) → List Memory → Files → Files → List ℕ → Type 0
HasOldOrOne bytes memories old new name = (new.held name ≡ old.held name) ⊎ ((memory : Memory) × IsAmong memories memory × (new.held name ≡ Some (bytes memory.state)))

-- A script and its records are as they were, or each as a save of one of these memories stores it.
pub record KeepsOrSaves (name : List ℕ) (memories : List Memory) (old new : Files) : Type 0 where
  pub text : HasOldOrOne (λ state. (files_of name state).bytes) memories old new name
  pub records : HasOldOrOne (λ state. (files_of name state).records) memories old new (records_name name)

-- So saves of these memories leave a shelf whose files are atomic, those that failed too.
abbrev pub KeepsSaved : List ℕ → List Memory → ShelfState → ShelfState → Type 0
KeepsSaved name memories old new = Changes old.files new.files (λ before now. IsTrue before.atomic → KeepsOrSaves name memories before now)

-- What answers the lines of a session, which is a desk or has one: what it is where the desk was just opened, the desk, which lines it
-- takes as saves, how it answers a line, how want of memory leaves it, and what is said of the lines that its seats saw.
pub record Answerer : Type 1 where
  pub It : Type 0
  pub begins : List ℕ → Memory → It
  pub desk : It → NamedDesk
  pub saves : List ℕ → Bool
  pub answers : AtShelf It → List ℕ → AtShelf It → List ℕ → Type 0
  pub stops : AtShelf It → List ℕ → AtShelf It → Type 0
  pub seen : It → List (List ℕ) → List (Answered (AtShelf It)) → Type 0

-- It begins with the script of this name in this state.
abbrev pub begun_at : (how : Answerer) → List ℕ → State → ShelfState → Counts → AtShelf how.It
begun_at how name state shelf counts = at_shelf (how.begins name (opened_memory state)) shelf counts

-- The shelf has a script under the name; it was opened as a desk with what stands beside it, for which the shelf was asked both files
-- and nothing else, and so its session ended, which left the shelf and the counts as they are now. All memories that the desk had keep
-- what is promised.
pub record Held (how : Answerer) (name : List ℕ) (old new : Outside) (from to : Counts) (end : SessionEnd) : Type 0 where
  pub state : State
  pub has : HasState old.shelf name state
  pub calls : Option (List CallOf)
  pub asks : AsksTwo name (records_name name) old.shelf (telling old.shelf calls)
  pub opened : Counts
  pub opening : OpeningCounts state from opened
  pub after : AtShelf how.It
  pub ends : SessionEnds how.answers how.stops (streams old.source old.sink) (streams new.source new.sink) (begun_at how name state (telling old.shelf calls) opened) after end
  pub left : new.shelf ≡ after.shelf
  pub counts : to ≡ after.counts
  pub promised : ArePromised (memories_of how.desk (opened_memory state) ends.course.steps)
  pub seen : how.seen (how.begins name (opened_memory state)) ends.course.lines ends.course.steps
  pub counted : CountsUnsaved how.saves old.shelf new.shelf ends.course.lines ends.course.steps
  pub kept : KeepsSaved name (memories_of how.desk (opened_memory state) ends.course.steps) old.shelf new.shelf

-- Such a session answered all command lines of the input, in order, and what was written are the replies.
pub record AnsweredBy (how : Answerer) (name : List ℕ) (old new : Outside) (from to : Counts) : Type 0 where
  pub state : State
  pub has : HasState old.shelf name state
  pub calls : Option (List CallOf)
  pub asks : AsksTwo name (records_name name) old.shelf (telling old.shelf calls)
  pub opened : Counts
  pub opening : OpeningCounts state from opened
  pub input : List ℕ
  pub gave : Consumes old.source.unread new.source.unread input
  pub at_end : IsAtEnd new.source.unread
  pub steps : List (Answered (AtShelf how.It))
  pub runs : Runs how.answers (begun_at how name state (telling old.shelf calls) opened) (command_lines input) steps
  pub counts : to ≡ (left_by (begun_at how name state (telling old.shelf calls) opened) steps).counts
  pub wrote : Appends old.sink.taken new.sink.taken (output_of steps)
  pub left : new.shelf ≡ shelf_behind how.saves (telling old.shelf calls) (command_lines input) steps
  pub promised : ArePromised (memories_of how.desk (opened_memory state) steps)
  pub seen : how.seen (how.begins name (opened_memory state)) (command_lines input) steps
  pub counted : CountsUnsaved how.saves old.shelf new.shelf (command_lines input) steps
  pub kept : KeepsSaved name (memories_of how.desk (opened_memory state) steps) old.shelf new.shelf

-- All command lines of the input were answered, these are the replies to them, and each save was done.
pub record AnsweredCalmlyBy (replies : State → List (List ℕ) → List ℕ) (name : List ℕ) (old new : Outside) : Type 0 where
  pub state : State
  pub has : HasState old.shelf name state
  pub input : List ℕ
  pub gave : Consumes old.source.unread new.source.unread input
  pub at_end : IsAtEnd new.source.unread
  pub wrote : Appends old.sink.taken new.sink.taken (replies state (command_lines input))

-- ---- a desk

abbrev pub the_desk : Answerer
the_desk = record {
  It = NamedDesk;
  begins = λ name memory. record { name = name; memory = memory };
  desk = desk_itself;
  saves = saves;
  answers = AnswersLine;
  stops = StopsAtLine;
  seen = λ it lines steps. Unit {0};
}

-- A session of a desk ended so.
abbrev pub HeldSession : List ℕ → Outside → Outside → Counts → Counts → SessionEnd → Type 0
HeldSession name old new from to end = Held the_desk name old new from to end

-- The shelf has a script under the name and was left as it was, and this is the memory of its desk.
pub record OpensDesk (shelf after : ShelfState) (name : List ℕ) (memory : Memory) : Type 0 where
  pub state : State
  pub has : HasState shelf name state
  pub same : SameShelf shelf after
  pub asks : AsksTwo name (records_name name) shelf after
  pub is : memory ≡ opened_memory state
  pub whole : IsWholeMemory memory
  pub linked : AreLinked memory

-- How a run ends that answers commands, where a session is held so: a session that doesn't begin reads and fills nothing, or where
-- there is no memory, no more than its opening asks.
abbrev pub CommandsEnd : (SessionEnd → Type 0) → List ℕ → Outside → Outside → Counts → Counts → Status → Type 0
CommandsEnd held name old new from to statuses.Done = held endings.Done
CommandsEnd held name old new from to statuses.Usage = ⊥
CommandsEnd held name old new from to (statuses.NoFile given) = FoundNone (from_file name) old new (string_bytes given) × (to ≡ from)
CommandsEnd held name old new from to (statuses.BadText (faults.NotUtf8 place)) = Refused (from_file name) old new (no_utf8 place) × (to ≡ from)
CommandsEnd held name old new from to (statuses.BadText (faults.LineFull place)) = Refused (from_file name) old new (long_line place) × (to ≡ from)
CommandsEnd held name old new from to (statuses.BadText faults.TextFull) = TooLong (from_file name) old new × (to ≡ from)
CommandsEnd held name old new from to (statuses.BadText faults.NoMemory) = ⊥
CommandsEnd held name old new from to statuses.ReadFault = held endings.ReadFault
CommandsEnd held name old new from to statuses.WriteFault = held endings.WriteFault
CommandsEnd held name old new from to statuses.ShelfFault = FetchFailed (from_file name) old new × (to ≡ from)
CommandsEnd held name old new from to (statuses.BadRecords fault) = RecordsRefused (from_file name) old new fault × (to ≡ from)
CommandsEnd held name old new from to statuses.NoMemory = (NotOpened (from_file name) old new × LackingCounts old.shelf name from to) ⊎ held endings.NoMemory
CommandsEnd held name old new from to (statuses.CommandLong number) = held (endings.CommandLong number)
CommandsEnd held name old new from to statuses.InputFull = held endings.InputFull
CommandsEnd held name old new from to (statuses.BadSheets file sheet) = ⊥
CommandsEnd held name old new from to statuses.NotLocked = ⊥

-- How a run ends that answers commands by a desk, and by a room.
abbrev pub DeskEnds : List ℕ → Outside → Outside → Counts → Counts → Status → Type 0
DeskEnds name old new from to status = CommandsEnd (HeldSession name old new from to) name old new from to status

-- All command lines of the input were answered by a desk of the script, in order, what was written are the replies, and all
-- memories that the desk had keep what is promised.
abbrev pub AnsweredAll : List ℕ → Outside → Outside → Counts → Counts → Type 0
AnsweredAll name old new from to = AnsweredBy the_desk name old new from to

-- All command lines of the input were answered by a desk of the script, and each save was done.
abbrev pub AnsweredCalmly : List ℕ → Outside → Outside → Type 0
AnsweredCalmly name old new = AnsweredCalmlyBy (λ state lines. output_of (answered_lines (opened_memory state) lines)) name old new

-- A script opens with what stands beside it.
abbrev pub Opens : List ℕ → Option (List ℕ) → Type 0
Opens script records = (state : State) × OpensAs script records state

-- The status is the one that the command lines of an input ask for, or there is no memory.
abbrev pub AnswersInput : List ℕ → Status → Type 0
AnswersInput input statuses.Done = KeepsLimits input
AnswersInput input (statuses.CommandLong number) = IsFirstLong input number
AnswersInput input statuses.InputFull = IsFull input
AnswersInput input statuses.NoMemory = Unit {0}
AnswersInput input _ = ⊥

-- The status answers a script, what stands beside it, and the commands of an input: the first two are refused, or they open
-- and the commands are answered.
abbrev pub AnswersSession : List ℕ → Option (List ℕ) → List ℕ → Status → Type 0
AnswersSession script records input (statuses.BadText fault) = Refuses (printing_of script) (statuses.BadText fault)
AnswersSession script records input (statuses.BadRecords fault) = RefusesRecords script records fault
AnswersSession script records input statuses.NoMemory = Unit {0}
AnswersSession script records input status = Opens script records × AnswersInput input status

-- The status answers what stands under a name and under that of its records, and the commands of an input.
abbrev pub AnswersDesk : List ℕ → Option (List ℕ) → Option (List ℕ) → List ℕ → Status → Type 0
AnswersDesk name None records input status = SaysNoFile name status
AnswersDesk name (Some script) records input status = AnswersSession script records input status
