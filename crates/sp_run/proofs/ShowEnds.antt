-- How the writing of a script ends that was had whole.
use Rattle.std.proofs.Common.{◌≡◌, inl, inr, sym, subst}
use Rattle.std.specs.Prelude.{IsErrAnd, Ok, Err}
use Rattle.std.specs.declared.result.Result.{Result}
use Rattle.spec_state.specs.State.{State}
use Rattle.spec_state.specs.Keeping.{IsWhole}
use Rattle.sp_text.specs.declared.fault.TextFault.TheVariants as faults
use Rattle.sp_run.specs.Unopened.{Outside, Unopened}
use Rattle.sp_run.specs.Showing.{PartWritten, ShowEnds, NotDone, EndsAs}
use Rattle.sp_run.specs.declared.form.View.{View}
use Rattle.sp_run.specs.Forms.{OriginOf}
use Rattle.sp_run.specs.Views.{view_bytes, HasView}
use Rattle.sp_run.specs.Opening.{HadState}
use Rattle.sp_run.specs.Written.{IsWritten}
use Rattle.sp_run.specs.declared.status.Status.{Status}
use Rattle.sp_run.specs.declared.status.Status.TheVariants as statuses
use Rattle.sp_run.proofs.Openings.{had-whole}

-- A script that didn't open isn't written.
pub unopened-shows : (view : View) (origin : OriginOf) (old new : Outside) (status : Status) → Unopened origin old new status → ShowEnds view origin old new status × NotDone status
unopened-shows view origin old new statuses.Done it = absurd it
unopened-shows view origin old new statuses.Usage it = absurd it
unopened-shows view origin old new (statuses.NoFile name) it = (it, tt)
unopened-shows view origin old new (statuses.BadText (faults.NotUtf8 place)) it = (it, tt)
unopened-shows view origin old new (statuses.BadText (faults.LineFull place)) it = (it, tt)
unopened-shows view origin old new (statuses.BadText faults.TextFull) it = (it, tt)
unopened-shows view origin old new (statuses.BadText faults.NoMemory) it = absurd it
unopened-shows view origin old new statuses.ReadFault it = (it, tt)
unopened-shows view origin old new statuses.WriteFault it = absurd it
unopened-shows view origin old new statuses.ShelfFault it = (it, tt)
unopened-shows view origin old new (statuses.BadRecords fault) it = (it, tt)
unopened-shows view origin old new statuses.NoMemory it = (record { kept = it.kept; writes = it.nothing.kept; wrote = inl it.nothing.taken }, tt)
unopened-shows view origin old new (statuses.CommandLong number) it = absurd it
unopened-shows view origin old new statuses.InputFull it = absurd it
unopened-shows view origin old new (statuses.BadSheets file sheet) it = absurd it
unopened-shows view origin old new statuses.NotLocked it = absurd it

-- The answer is this status.
pub err-ends : (view : View) (origin : OriginOf) (old new : Outside) (status : Status) (result : Result (Unit {0}) Status) → IsErrAnd result (λ s. s ≡ status) → Unopened origin old new status → EndsAs view origin old new result
err-ends view origin old new status (Ok done) is it = absurd is
err-ends view origin old new status (Err other) is it = subst (λ (s : Status). ShowEnds view origin old new s × NotDone s) (sym is) (unopened-shows view origin old new status it)

pub show-ends : (view : View) (origin : OriginOf) (old new : Outside) (state : State) (result : Result (Unit {0}) Status) → HadState origin old.source new.source old.shelf new.shelf state → IsWhole state → HasView view state
    → IsWritten old.sink new.sink (view_bytes view state) result → EndsAs view origin old new result
show-ends view origin old new state (Ok done) had whole has written = record { state = state; had = had; whole = whole; has = has; wrote = written.wrote; kept = written.kept }
show-ends view origin old new state (Err statuses.WriteFault) had whole has written =
    (record { state = state; had = had; has = has; wrote = written.wrote; rose = written.rose }, tt)
show-ends view origin old new state (Err statuses.NoMemory) had whole has written =
    let part : PartWritten view origin old new = record { state = state; had = had; has = has; wrote = written.wrote } in
    (record { kept = had-whole origin old.source new.source old.shelf new.shelf had.script had.had; writes = written.kept; wrote = inr part }, tt)
show-ends view origin old new state (Err statuses.Done) had whole has written = absurd written
show-ends view origin old new state (Err statuses.Usage) had whole has written = absurd written
show-ends view origin old new state (Err (statuses.NoFile name)) had whole has written = absurd written
show-ends view origin old new state (Err (statuses.BadText fault)) had whole has written = absurd written
show-ends view origin old new state (Err statuses.ReadFault) had whole has written = absurd written
show-ends view origin old new state (Err statuses.ShelfFault) had whole has written = absurd written
show-ends view origin old new state (Err (statuses.BadRecords fault)) had whole has written = absurd written
show-ends view origin old new state (Err (statuses.CommandLong number)) had whole has written = absurd written
show-ends view origin old new state (Err statuses.InputFull) had whole has written = absurd written
show-ends view origin old new state (Err (statuses.BadSheets file sheet)) had whole has written = absurd written
show-ends view origin old new state (Err statuses.NotLocked) had whole has written = absurd written
