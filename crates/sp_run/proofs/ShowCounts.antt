-- How the showing of a state ends that was had whole, and what it counts.
use Rattle.std.proofs.Common.{◌≡◌, inl, inr, refl, ap, sym, subst}
use Rattle.std.specs.Prelude.{Ok, Err, IsErrAnd}
use Rattle.std.specs.declared.result.Result.{Result}
use Rattle.std.specs.Io.KnownBytes.{Keeps}
use Rattle.std.proofs.KnownBytes.{Keeps-refl}
use Rattle.spec_session.specs.Runs.{Counts}
use Rattle.spec_state.specs.State.{State}
use Rattle.spec_state.specs.Keeping.{IsWhole}
use Rattle.sp_kit.specs.Outside.{SinkState}
use Rattle.sp_run.specs.declared.status.Status.{Status}
use Rattle.sp_run.specs.declared.status.Status.TheVariants as statuses
use Rattle.sp_run.specs.declared.form.View.{View}
use Rattle.sp_run.specs.Forms.{OriginOf}
use Rattle.sp_run.specs.Written.{IsWritten}
use Rattle.sp_run.specs.Counted.{OpeningCounts, OpeningCountsAtMost, UnopenedCounts}
use Rattle.sp_run.specs.Opening.{HadState}
use Rattle.sp_run.specs.Unopened.{Outside, Unopened, WroteNothing}
use Rattle.sp_run.proofs.Openings.{had-whole}
use Rattle.sp_run.specs.ShowCounted.{ShowCounts, ShowCountsAs, ShowsState, UnshownCounts}
use Rattle.sp_run.specs.Showing.{EndsAs, LacksShown, PartShown, PartWritten, Shown}
use Rattle.sp_run.specs.Views.{HasView, LacksView, view_bytes}
use Rattle.sp_run.proofs.ShowEnds.{show-ends}

-- ---- the ways of showing a state, by the script that was opened

pub writes-view : (view : View) (state it : State) (old new : SinkState) (from to : Counts) (result : Result (Unit {0}) Status) → IsWhole state → it ≡ state → HasView view it → IsWritten old new (view_bytes view it) result
    → OpeningCounts state from to → ShowsState view state old new from to result
writes-view view state it old new from to result whole is has wrote counts = inl (record {
  whole = whole;
  has = subst (HasView view) is has;
  wrote = subst (λ (s : State). IsWritten old new (view_bytes view s) result) is wrote;
  counts = counts;
})

pub without-view : (view : View) (state it : State) (sink : SinkState) (from to : Counts) → it ≡ state → LacksView view it → OpeningCounts state from to → ShowsState view state sink sink from to (Err statuses.NotLocked)
without-view view state it sink from to is lacks counts = inr (inl (record { is = refl; lacks = subst (LacksView view) is lacks; same = refl; counts = counts }))

pub without-memory : (view : View) (state : State) (sink : SinkState) (from to : Counts) (result : Result (Unit {0}) Status) → IsErrAnd result (λ (s : Status). s ≡ statuses.NoMemory) → OpeningCountsAtMost state from to
    → ShowsState view state sink sink from to result
without-memory view state sink from to result is counts = inr (inr (record { is = is; same = refl; counts = counts }))

-- ---- how it ends

-- A sink that is the same took nothing.
same-nothing : (old new : Outside) → new.sink ≡ old.sink → WroteNothing old new
same-nothing old new same =
    record { taken = subst (λ (s : SinkState). Keeps old.sink.taken s.taken) (sym same) (Keeps-refl old.sink.taken); kept = ap (λ (s : SinkState). s.faults) same }

-- An answer that is this status.
err-as : (P : Result (Unit {0}) Status → Type 0) (status : Status) (result : Result (Unit {0}) Status) → IsErrAnd result (λ (s : Status). s ≡ status) → P (Err status) → P result
err-as P status (Ok done) is holds = absurd is
err-as P status (Err other) is holds = subst (λ (s : Status). P (Err s)) (sym is) holds

abbrev lacks-shown : (view : View) (origin : OriginOf) (old new : Outside) (state : State) → HadState origin old.source new.source old.shelf new.shelf state → LacksView view state → new.sink ≡ old.sink → LacksShown view origin old new
lacks-shown view origin old new state had lacks same = record { state = state; had = had; lacks = lacks; nothing = same-nothing old new same }

pub shown-ends : (view : View) (origin : OriginOf) (old new : Outside) (state : State) (from to : Counts) (result : Result (Unit {0}) Status) → HadState origin old.source new.source old.shelf new.shelf state
    → ShowsState view state old.sink new.sink from to result → EndsAs view origin old new result
shown-ends view origin old new state from to result had (inl it) = show-ends view origin old new state result had it.whole it.has it.wrote
shown-ends view origin old new state from to result had (inr (inl it)) =
    err-as (EndsAs view origin old new) statuses.NotLocked result it.is (lacks-shown view origin old new state had it.lacks it.same, tt)
shown-ends view origin old new state from to result had (inr (inr it)) =
    let nothing = same-nothing old new it.same in
    err-as (EndsAs view origin old new) statuses.NoMemory result it.is
    (record { kept = had-whole origin old.source new.source old.shelf new.shelf had.script had.had; writes = nothing.kept; wrote = inl nothing.taken }, tt)

-- ---- what it counts

writes-counts : (view : View) (origin : OriginOf) (old new : Outside) (state : State) (from to : Counts) (result : Result (Unit {0}) Status) → HadState origin old.source new.source old.shelf new.shelf state
    → IsWhole state → HasView view state → IsWritten old.sink new.sink (view_bytes view state) result → OpeningCounts state from to → ShowCountsAs view origin old new from to result
writes-counts view origin old new state from to (Ok done) had whole has written counts =
    let shown : Shown view origin old new = record { state = state; had = had; whole = whole; has = has; wrote = written.wrote; kept = written.kept } in
    record { shown = shown; counts = counts }
writes-counts view origin old new state from to (Err statuses.WriteFault) had whole has written counts =
    let shown : PartShown view origin old new = record { state = state; had = had; has = has; wrote = written.wrote; rose = written.rose } in
    record { shown = shown; counts = counts }
writes-counts view origin old new state from to (Err statuses.NoMemory) had whole has written counts =
    let part : PartWritten view origin old new = record { state = state; had = had; has = has; wrote = written.wrote } in
    inr (record { part = part; counts = counts })
writes-counts view origin old new state from to (Err statuses.Done) had whole has written counts = absurd written
writes-counts view origin old new state from to (Err statuses.Usage) had whole has written counts = absurd written
writes-counts view origin old new state from to (Err (statuses.NoFile name)) had whole has written counts = absurd written
writes-counts view origin old new state from to (Err (statuses.BadText fault)) had whole has written counts = absurd written
writes-counts view origin old new state from to (Err statuses.ReadFault) had whole has written counts = absurd written
writes-counts view origin old new state from to (Err statuses.ShelfFault) had whole has written counts = absurd written
writes-counts view origin old new state from to (Err (statuses.BadRecords fault)) had whole has written counts = absurd written
writes-counts view origin old new state from to (Err (statuses.CommandLong number)) had whole has written counts = absurd written
writes-counts view origin old new state from to (Err statuses.InputFull) had whole has written counts = absurd written
writes-counts view origin old new state from to (Err (statuses.BadSheets file sheet)) had whole has written counts = absurd written
writes-counts view origin old new state from to (Err statuses.NotLocked) had whole has written counts = absurd written

-- Nothing was written.
unshown : (origin : OriginOf) (old new : Outside) (from to : Counts) → WroteNothing old new → UnopenedCounts origin old new from to statuses.NoMemory → UnshownCounts origin old new from to
unshown origin old new from to nothing counts = record { nothing = nothing; counts = counts }

pub shown-counts : (view : View) (origin : OriginOf) (old new : Outside) (state : State) (from to : Counts) (result : Result (Unit {0}) Status) → HadState origin old.source new.source old.shelf new.shelf state
    → ShowsState view state old.sink new.sink from to result → ShowCountsAs view origin old new from to result
shown-counts view origin old new state from to result had (inl it) = writes-counts view origin old new state from to result had it.whole it.has it.wrote it.counts
shown-counts view origin old new state from to result had (inr (inl it)) =
    err-as (ShowCountsAs view origin old new from to) statuses.NotLocked result it.is (record { lacks = lacks-shown view origin old new state had it.lacks it.same; counts = it.counts })
shown-counts view origin old new state from to result had (inr (inr it)) =
    err-as (ShowCountsAs view origin old new from to) statuses.NoMemory result it.is (inl (unshown origin old new from to (same-nothing old new it.same) (inr (record { state = state; had = had; counts = it.counts }))))

-- Of a script that isn't opened nothing is counted.
pub unopened-counts : (view : View) (origin : OriginOf) (old new : Outside) (counts : Counts) (status : Status) → Unopened origin old new status → ShowCounts view origin old new counts counts status
unopened-counts view origin old new counts statuses.Done it = absurd it
unopened-counts view origin old new counts statuses.Usage it = absurd it
unopened-counts view origin old new counts (statuses.NoFile name) it = refl
unopened-counts view origin old new counts (statuses.BadText fault) it = refl
unopened-counts view origin old new counts statuses.ReadFault it = refl
unopened-counts view origin old new counts statuses.WriteFault it = absurd it
unopened-counts view origin old new counts statuses.ShelfFault it = refl
unopened-counts view origin old new counts (statuses.BadRecords fault) it = refl
unopened-counts view origin old new counts statuses.NoMemory it = inl (unshown origin old new counts counts it.nothing (inl refl))
unopened-counts view origin old new counts (statuses.CommandLong number) it = absurd it
unopened-counts view origin old new counts statuses.InputFull it = absurd it
unopened-counts view origin old new counts (statuses.BadSheets file sheet) it = absurd it
unopened-counts view origin old new counts statuses.NotLocked it = absurd it

pub err-counts : (view : View) (origin : OriginOf) (old new : Outside) (counts : Counts) (status : Status) (result : Result (Unit {0}) Status) → IsErrAnd result (λ (s : Status). s ≡ status) → Unopened origin old new status
    → ShowCountsAs view origin old new counts counts result
err-counts view origin old new counts status result is it =
    err-as (ShowCountsAs view origin old new counts counts) status result is (unopened-counts view origin old new counts status it)
