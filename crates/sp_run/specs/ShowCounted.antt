-- How many stanzas are read and how many pages are filled where a view of a script is written (docs/RULES.md, "Windows").
use Rattle.std.specs.Prelude.{◌≡◌, ◌⊎◌, Ok, Err, IsErrAnd}
use Rattle.std.specs.declared.result.Result.{Result}
use Rattle.spec_session.specs.Runs.{Counts}
use Rattle.spec_state.specs.State.{State}
use Rattle.spec_state.specs.Keeping.{IsWhole}
use Rattle.sp_kit.specs.Outside.{SinkState}
use Rattle.sp_run.specs.declared.status.Status.{Status}
use Rattle.sp_run.specs.declared.status.Status.TheVariants as statuses
use Rattle.sp_run.specs.declared.form.View.{View}
use Rattle.sp_run.specs.Forms.{OriginOf}
use Rattle.sp_run.specs.Written.{IsWritten}
use Rattle.sp_run.specs.Counted.{OpeningCounts, OpeningCountsAtMost, UnopenedCounts}
use Rattle.sp_run.specs.Unopened.{Outside, WroteNothing}
use Rattle.sp_run.specs.Showing.{LacksShown, PartShown, PartWritten, Shown}
use Rattle.sp_run.specs.Views.{HasView, LacksView, view_bytes}

-- The state whose view was written was opened, and nothing else was counted.
pub record ShownCounts (view : View) (origin : OriginOf) (old new : Outside) (from to : Counts) : Type 0 where
  pub shown : Shown view origin old new
  pub counts : OpeningCounts shown.state from to

-- The same where the sink failed, where there was no memory behind the opening, and where the state hasn't the view.
pub record PartShownCounts (view : View) (origin : OriginOf) (old new : Outside) (from to : Counts) : Type 0 where
  pub shown : PartShown view origin old new
  pub counts : OpeningCounts shown.state from to

pub record PartWrittenCounts (view : View) (origin : OriginOf) (old new : Outside) (from to : Counts) : Type 0 where
  pub part : PartWritten view origin old new
  pub counts : OpeningCounts part.state from to

pub record LacksShownCounts (view : View) (origin : OriginOf) (old new : Outside) (from to : Counts) : Type 0 where
  pub lacks : LacksShown view origin old new
  pub counts : OpeningCounts lacks.state from to

-- There was no memory before the end of the opening, and nothing was written.
pub record UnshownCounts (origin : OriginOf) (old new : Outside) (from to : Counts) : Type 0 where
  pub nothing : WroteNothing old new
  pub counts : UnopenedCounts origin old new from to statuses.NoMemory

-- What a run counts that writes this view of a script, by how it ends: its opening where it comes to that, and nothing else.
abbrev pub ShowCounts : View → OriginOf → Outside → Outside → Counts → Counts → Status → Type 0
ShowCounts view origin old new from to statuses.Done = ShownCounts view origin old new from to
ShowCounts view origin old new from to statuses.WriteFault = PartShownCounts view origin old new from to
ShowCounts view origin old new from to statuses.NotLocked = LacksShownCounts view origin old new from to
ShowCounts view origin old new from to statuses.NoMemory = UnshownCounts origin old new from to ⊎ PartWrittenCounts view origin old new from to
ShowCounts view origin old new from to status = UnopenedCounts origin old new from to status

-- The same by the answer: Ok is the status Done.
abbrev pub ShowCountsAs : View → OriginOf → Outside → Outside → Counts → Counts → Result (Unit {0}) Status → Type 0
ShowCountsAs view origin old new from to (Ok done) = ShowCounts view origin old new from to statuses.Done
ShowCountsAs view origin old new from to (Err status) = ShowCounts view origin old new from to status

-- ---- a state that was had

-- It keeps the rules, was opened and has the view, which was written as the answer says.
pub record WritesView (view : View) (state : State) (old new : SinkState) (from to : Counts) (result : Result (Unit {0}) Status) : Type 0 where
  pub whole : IsWhole state
  pub has : HasView view state
  pub wrote : IsWritten old new (view_bytes view state) result
  pub counts : OpeningCounts state from to

-- It was opened and hasn't the view.
pub record WithoutView (view : View) (state : State) (old new : SinkState) (from to : Counts) (result : Result (Unit {0}) Status) : Type 0 where
  pub is : IsErrAnd result (λ (s : Status). s ≡ statuses.NotLocked)
  pub lacks : LacksView view state
  pub same : new ≡ old
  pub counts : OpeningCounts state from to

-- There was no memory for it.
pub record WithoutMemory (state : State) (old new : SinkState) (from to : Counts) (result : Result (Unit {0}) Status) : Type 0 where
  pub is : IsErrAnd result (λ (s : Status). s ≡ statuses.NoMemory)
  pub same : new ≡ old
  pub counts : OpeningCountsAtMost state from to

-- How it is opened and this view of it written.
abbrev pub ShowsState : View → State → SinkState → SinkState → Counts → Counts → Result (Unit {0}) Status → Type 0
ShowsState view state old new from to result = WritesView view state old new from to result ⊎ WithoutView view state old new from to result ⊎ WithoutMemory state old new from to result
