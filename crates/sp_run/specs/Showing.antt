-- How a run ends that writes a view of a script (docs/RULES.md, "The program").
use Rattle.std.specs.Prelude.{◌≡◌, ℕ, ◌⊎◌, List, string_bytes, Option, Some, None, Ok, Err}
use Rattle.std.specs.declared.result.Result.{Result}
use Rattle.std.specs.Io.KnownBytes.{Appends, Keeps}
use Rattle.spec_state.specs.State.{State}
use Rattle.spec_state.specs.Keeping.{IsWhole}
use Rattle.spec_state.specs.Printing.{Printing, no_utf8, long_line, printed, printing_of}
use Rattle.sp_kit.specs.Causes.{Rose}
use Rattle.sp_kit.specs.Outside.{AppendsPrefix, AppendsPart}
use Rattle.sp_text.specs.declared.fault.TextFault.TheVariants as faults
use Rattle.sp_run.specs.declared.status.Status.{Status}
use Rattle.sp_run.specs.declared.status.Status.TheVariants as statuses
use Rattle.sp_run.specs.declared.form.View.{View}
use Rattle.sp_run.specs.Forms.{OriginOf}
use Rattle.sp_run.specs.Views.{view_bytes, HasView, LacksView}
use Rattle.sp_run.specs.Opening.{HadState, FailedNothing}
use Rattle.sp_run.specs.Records.{OpensAs, RefusesRecords}
use Rattle.sp_run.specs.Unopened.{Outside, FetchFailed, FoundNone, ReadFailed, RecordsRefused, Refused, Refuses, SaysNoFile, TooLong, WroteNothing}

-- A script was had whole, with what stands beside it, and all of this view of the state that they open as was written. That state keeps
-- the rules of one.
pub record Shown (view : View) (origin : OriginOf) (old new : Outside) : Type 0 where
  pub state : State
  pub had : HadState origin old.source new.source old.shelf new.shelf state
  pub whole : IsWhole state
  pub has : HasView view state
  pub wrote : Appends old.sink.taken new.sink.taken (view_bytes view state)
  pub kept : new.sink.faults ≡ old.sink.faults

-- A script was had whole, with what stands beside it, and a prefix of this view of it was written.
pub record PartWritten (view : View) (origin : OriginOf) (old new : Outside) : Type 0 where
  pub state : State
  pub had : HadState origin old.source new.source old.shelf new.shelf state
  pub has : HasView view state
  pub wrote : AppendsPrefix old.sink.taken new.sink.taken (view_bytes view state)

-- The sink failed, and what was written is a part of this view of a script that was had whole, and not all of it.
pub record PartShown (view : View) (origin : OriginOf) (old new : Outside) : Type 0 where
  pub state : State
  pub had : HadState origin old.source new.source old.shelf new.shelf state
  pub has : HasView view state
  pub wrote : AppendsPart old.sink.taken new.sink.taken (view_bytes view state)
  pub rose : Rose old.sink.faults new.sink.faults

-- A script was had whole, with what stands beside it, and the state that they open as hasn't this view. Nothing was written.
pub record LacksShown (view : View) (origin : OriginOf) (old new : Outside) : Type 0 where
  pub state : State
  pub had : HadState origin old.source new.source old.shelf new.shelf state
  pub lacks : LacksView view state
  pub nothing : WroteNothing old new

-- There was no memory: no count of faults rose, and nothing was written, or a prefix of this view of a script
-- that was had whole.
pub record OutOfMemory (view : View) (origin : OriginOf) (old new : Outside) : Type 0 where
  pub kept : FailedNothing origin old.source new.source old.shelf new.shelf
  pub writes : new.sink.faults ≡ old.sink.faults
  pub wrote : Keeps old.sink.taken new.sink.taken ⊎ PartWritten view origin old new

-- How a run ends that writes this view of a script.
abbrev pub ShowEnds : View → OriginOf → Outside → Outside → Status → Type 0
ShowEnds view origin old new statuses.Done = Shown view origin old new
ShowEnds view origin old new statuses.Usage = ⊥
ShowEnds view origin old new (statuses.NoFile name) = FoundNone origin old new (string_bytes name)
ShowEnds view origin old new (statuses.BadText (faults.NotUtf8 place)) = Refused origin old new (no_utf8 place)
ShowEnds view origin old new (statuses.BadText (faults.LineFull place)) = Refused origin old new (long_line place)
ShowEnds view origin old new (statuses.BadText faults.TextFull) = TooLong origin old new
ShowEnds view origin old new (statuses.BadText faults.NoMemory) = ⊥
ShowEnds view origin old new statuses.ReadFault = ReadFailed origin old new
ShowEnds view origin old new statuses.WriteFault = PartShown view origin old new
ShowEnds view origin old new statuses.ShelfFault = FetchFailed origin old new
ShowEnds view origin old new (statuses.BadRecords fault) = RecordsRefused origin old new fault
ShowEnds view origin old new statuses.NoMemory = OutOfMemory view origin old new
ShowEnds view origin old new (statuses.CommandLong number) = ⊥
ShowEnds view origin old new statuses.InputFull = ⊥
ShowEnds view origin old new (statuses.BadSheets file sheet) = ⊥
ShowEnds view origin old new statuses.NotLocked = LacksShown view origin old new

-- The status is that of a run that didn't do all it was asked for.
abbrev pub NotDone : Status → Type 0
NotDone statuses.Done = ⊥
NotDone statuses.Usage = ⊥
NotDone status = Unit {0}

-- How the printing of a script ends: Ok is the status Done.
abbrev pub EndsAs : View → OriginOf → Outside → Outside → Result (Unit {0}) Status → Type 0
EndsAs view origin old new (Ok done) = ShowEnds view origin old new statuses.Done
EndsAs view origin old new (Err status) = ShowEnds view origin old new status × NotDone status

-- The status answers a script with this fate: it is printed, or refused, or there is no memory.
abbrev pub Answers : Printing → Status → Type 0
Answers fate statuses.Done = (output : List ℕ) × (fate ≡ printed output)
Answers fate status = Refuses fate status

-- It opens as a state that has this view, or as one that hasn't.
abbrev pub OpensWith : View → List ℕ → Option (List ℕ) → Type 0
OpensWith view script records = (state : State) × OpensAs script records state × HasView view state

abbrev pub OpensWithout : View → List ℕ → Option (List ℕ) → Type 0
OpensWithout view script records = (state : State) × OpensAs script records state × LacksView view state

-- The status answers a script and what stands beside it: this view of them is written, they are refused, they haven't the view,
-- or there is no memory.
abbrev pub AnswersBoth : View → List ℕ → Option (List ℕ) → Status → Type 0
AnswersBoth view script records statuses.Done = OpensWith view script records
AnswersBoth view script records (statuses.BadRecords fault) = RefusesRecords script records fault
AnswersBoth view script records statuses.NotLocked = OpensWithout view script records
AnswersBoth view script records status = Refuses (printing_of script) status

-- The status answers what stands under a name, and what stands under that of its records.
abbrev pub AnswersFile : View → List ℕ → Option (List ℕ) → Option (List ℕ) → Status → Type 0
AnswersFile view name None records status = SaysNoFile name status
AnswersFile view name (Some script) records status = AnswersBoth view script records status
