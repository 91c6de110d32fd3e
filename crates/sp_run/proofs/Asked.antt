-- What a run asks a shelf: calls one behind the other, and the calls of an opening and of a collation.
use Rattle.std.proofs.Common.{◌≡◌, ℕ, List, [], ◌∷◌, ◌++◌, Option, Some, None, inl, inr, sym, ap, ◌∙◌, subst, append_assoc, append-nil}
use Rattle.std.specs.Prelude.{IfErr, IfSome, IsErrAnd, Ok, Err}
use Rattle.std.specs.declared.result.Result.{Result}
use Rattle.spec_session.specs.Runs.{Counts}
use Rattle.spec_state.specs.Printing.{Printing}
use Rattle.spec_state.specs.State.{State}
use Rattle.sp_kit.specs.Files.{Asks, CallOf, Files, ShelfState, fetch}
use Rattle.sp_kit.specs.Outside.{SourceState, SinkState}
use Rattle.sp_run.specs.declared.form.View.{View}
use Rattle.sp_run.specs.declared.status.Status.{Status}
use Rattle.sp_run.specs.declared.status.Status.TheVariants as statuses
use Rattle.sp_run.specs.Asking.{AsksOne, AsksSheets, AsksTwo, BesideAsks, BesideStatusAsks, CollatedAsks, CollationAsks, OpeningAsks, OriginAsks, ScriptAsks, StatusAsks, WholeAsks}
use Rattle.sp_run.specs.Collating.{sheets_limit}
use Rattle.sp_run.specs.Fetching.{FetchedFile, NotFetched}
use Rattle.sp_run.specs.Forms.{OriginOf, from_source, from_file}
use Rattle.sp_run.specs.Opening.{HadNone, HasScript, NotBeside}
use Rattle.sp_run.specs.Records.{records_name}
use Rattle.sp_run.specs.ShowCounted.{ShowsState, WritesView}
use Rattle.sp_run.specs.Unopened.{Refuses}

-- Calls behind calls.
pub asks-on : (old mid new : Option (List CallOf)) (one other : List CallOf) → Asks old mid one → Asks mid new other → Asks old new (one ++ other)
asks-on old mid None one other first second = tt
asks-on old None (Some now) one other first second = absurd second
asks-on None (Some between) (Some now) one other first second = absurd first
asks-on (Some before) (Some between) (Some now) one other first second =
    second ∙ ap (λ (calls : List CallOf). calls ++ other) first ∙ append_assoc before one other

-- Where nothing was asked, the calls are those before.
pub asks-none : (calls : Option (List CallOf)) → Asks calls calls []
asks-none None = tt
asks-none (Some calls) = sym (append-nil calls)

-- ---- a script and what stands beside it

-- An answer that carries this status.
pub err-asks : {T : Type 0} (origin : OriginOf) (old new : ShelfState) (status : Status) (result : Result T Status) → IsErrAnd result (λ s. s ≡ status) → StatusAsks origin old new status
    → OriginAsks origin old new result
err-asks origin old new status (Ok value) is it = absurd is
err-asks origin old new status (Err other) is it = subst (StatusAsks origin old new) (sym is) it

-- No script was had.
pub none-asks : (origin : OriginOf) (old new : SourceState) (shelf after : ShelfState) (status : Status) → HadNone origin old new shelf after status → ScriptAsks origin shelf after
    → StatusAsks origin shelf after status
none-asks from_source old new shelf after status none asks = tt
none-asks (from_file name) old new shelf after statuses.Done none asks = absurd none
none-asks (from_file name) old new shelf after statuses.Usage none asks = absurd none
none-asks (from_file name) old new shelf after (statuses.NoFile given) none asks = asks
none-asks (from_file name) old new shelf after (statuses.BadText fault) none asks = asks
none-asks (from_file name) old new shelf after statuses.ReadFault none asks = absurd none
none-asks (from_file name) old new shelf after statuses.WriteFault none asks = absurd none
none-asks (from_file name) old new shelf after statuses.ShelfFault none asks = inl asks
none-asks (from_file name) old new shelf after (statuses.BadRecords fault) none asks = absurd none
none-asks (from_file name) old new shelf after statuses.NoMemory none asks = inl asks
none-asks (from_file name) old new shelf after (statuses.CommandLong number) none asks = absurd none
none-asks (from_file name) old new shelf after statuses.InputFull none asks = absurd none
none-asks (from_file name) old new shelf after (statuses.BadSheets file sheet) none asks = absurd none
none-asks (from_file name) old new shelf after statuses.NotLocked none asks = absurd none

-- Its lines are refused.
pub lines-asks : (origin : OriginOf) (shelf after : ShelfState) (fate : Printing) (status : Status) → Refuses fate status → ScriptAsks origin shelf after → StatusAsks origin shelf after status
lines-asks from_source shelf after fate status refuses asks = tt
lines-asks (from_file name) shelf after fate statuses.Done refuses asks = absurd refuses
lines-asks (from_file name) shelf after fate statuses.Usage refuses asks = absurd refuses
lines-asks (from_file name) shelf after fate (statuses.NoFile given) refuses asks = absurd refuses
lines-asks (from_file name) shelf after fate (statuses.BadText fault) refuses asks = asks
lines-asks (from_file name) shelf after fate statuses.ReadFault refuses asks = absurd refuses
lines-asks (from_file name) shelf after fate statuses.WriteFault refuses asks = absurd refuses
lines-asks (from_file name) shelf after fate statuses.ShelfFault refuses asks = absurd refuses
lines-asks (from_file name) shelf after fate (statuses.BadRecords fault) refuses asks = absurd refuses
lines-asks (from_file name) shelf after fate statuses.NoMemory refuses asks = inl asks
lines-asks (from_file name) shelf after fate (statuses.CommandLong number) refuses asks = absurd refuses
lines-asks (from_file name) shelf after fate statuses.InputFull refuses asks = absurd refuses
lines-asks (from_file name) shelf after fate (statuses.BadSheets file sheet) refuses asks = absurd refuses
lines-asks (from_file name) shelf after fate statuses.NotLocked refuses asks = absurd refuses

-- Both were asked for, one behind the other.
pub two-asks : (first second bytes : List ℕ) (old mid new : ShelfState) → HasScript old first bytes → AsksOne first old mid → AsksOne second mid new → AsksTwo first second old new
two-asks first second bytes old mid new found one other =
    record { bytes = bytes; found = found; asks = asks-on old.calls mid.calls new.calls (fetch first ∷ []) (fetch second ∷ []) one other }

-- What stands beside a script, by an answer that carries this status, and behind the fetch by any answer.
pub beside-err : {T : Type 0} (name : List ℕ) (old new : ShelfState) (status : Status) (result : Result T Status) → IsErrAnd result (λ s. s ≡ status) → BesideStatusAsks name old new status
    → BesideAsks name old new result
beside-err name old new status (Ok value) is it = absurd is
beside-err name old new status (Err other) is it = subst (BesideStatusAsks name old new) (sym is) it

status-fetched : (name : List ℕ) (old new : ShelfState) (status : Status) → AsksOne (records_name name) old new → BesideStatusAsks name old new status
status-fetched name old new statuses.Done asks = asks
status-fetched name old new statuses.Usage asks = asks
status-fetched name old new (statuses.NoFile given) asks = asks
status-fetched name old new (statuses.BadText fault) asks = asks
status-fetched name old new statuses.ReadFault asks = asks
status-fetched name old new statuses.WriteFault asks = asks
status-fetched name old new statuses.ShelfFault asks = asks
status-fetched name old new (statuses.BadRecords fault) asks = asks
status-fetched name old new statuses.NoMemory asks = inr asks
status-fetched name old new (statuses.CommandLong number) asks = asks
status-fetched name old new statuses.InputFull asks = asks
status-fetched name old new (statuses.BadSheets file sheet) asks = asks
status-fetched name old new statuses.NotLocked asks = asks

pub beside-fetched : {T : Type 0} (name : List ℕ) (old new : ShelfState) (result : Result T Status) → AsksOne (records_name name) old new → BesideAsks name old new result
beside-fetched name old new (Ok it) asks = asks
beside-fetched name old new (Err status) asks = status-fetched name old new status asks

-- The name that was fetched is that of the records.
pub beside-named : (given name : List ℕ) (old new : ShelfState) → given ≡ records_name name → AsksOne given old new → AsksOne (records_name name) old new
beside-named given name old new is asks = subst (λ (n : List ℕ). AsksOne n old new) is asks

-- What stands beside a script was asked for.
pub beside-asks : {T : Type 0} (name : List ℕ) (shelf mid after : ShelfState) (script : List ℕ) (texts : List (List ℕ)) (result : Result T Status) → HasScript shelf name script → AsksOne name shelf mid
    → IfErr result (NotBeside name mid after texts) → BesideAsks name mid after result → OriginAsks (from_file name) shelf after result
beside-asks name shelf mid after script texts (Ok it) had one none other = two-asks name (records_name name) script shelf mid after had one other
beside-asks name shelf mid after script texts (Err statuses.Done) had one none other = absurd none
beside-asks name shelf mid after script texts (Err statuses.Usage) had one none other = absurd none
beside-asks name shelf mid after script texts (Err (statuses.NoFile given)) had one none other = absurd none
beside-asks name shelf mid after script texts (Err (statuses.BadText fault)) had one none other = absurd none
beside-asks name shelf mid after script texts (Err statuses.ReadFault) had one none other = absurd none
beside-asks name shelf mid after script texts (Err statuses.WriteFault) had one none other = absurd none
beside-asks name shelf mid after script texts (Err statuses.ShelfFault) had one none other = inr (two-asks name (records_name name) script shelf mid after had one other)
beside-asks name shelf mid after script texts (Err (statuses.BadRecords fault)) had one none other = two-asks name (records_name name) script shelf mid after had one other
beside-asks name shelf mid after script texts (Err statuses.NoMemory) had one none (inl other) = inl (asks-on shelf.calls mid.calls after.calls (fetch name ∷ []) [] one other)
beside-asks name shelf mid after script texts (Err statuses.NoMemory) had one none (inr other) = inr (two-asks name (records_name name) script shelf mid after had one other)
beside-asks name shelf mid after script texts (Err (statuses.CommandLong number)) had one none other = absurd none
beside-asks name shelf mid after script texts (Err statuses.InputFull) had one none other = absurd none
beside-asks name shelf mid after script texts (Err (statuses.BadSheets file sheet)) had one none other = absurd none
beside-asks name shelf mid after script texts (Err statuses.NotLocked) had one none other = absurd none

-- ---- a view of a script that was had

-- Only these statuses come behind the opening.
abbrev Later : Status → Type 0
Later statuses.Done = ⊥
Later statuses.Usage = ⊥
Later (statuses.NoFile given) = ⊥
Later (statuses.BadText fault) = ⊥
Later statuses.ReadFault = ⊥
Later statuses.WriteFault = Unit {0}
Later statuses.ShelfFault = ⊥
Later (statuses.BadRecords fault) = ⊥
Later statuses.NoMemory = Unit {0}
Later (statuses.CommandLong number) = ⊥
Later statuses.InputFull = ⊥
Later (statuses.BadSheets file sheet) = ⊥
Later statuses.NotLocked = Unit {0}

later-asks : (name : List ℕ) (old new : ShelfState) (status : Status) → Later status → AsksTwo name (records_name name) old new → OpeningAsks name old new status
later-asks name old new statuses.Done later both = absurd later
later-asks name old new statuses.Usage later both = absurd later
later-asks name old new (statuses.NoFile given) later both = absurd later
later-asks name old new (statuses.BadText fault) later both = absurd later
later-asks name old new statuses.ReadFault later both = absurd later
later-asks name old new statuses.WriteFault later both = both
later-asks name old new statuses.ShelfFault later both = absurd later
later-asks name old new (statuses.BadRecords fault) later both = absurd later
later-asks name old new statuses.NoMemory later both = inr both
later-asks name old new (statuses.CommandLong number) later both = absurd later
later-asks name old new statuses.InputFull later both = absurd later
later-asks name old new (statuses.BadSheets file sheet) later both = absurd later
later-asks name old new statuses.NotLocked later both = both

written-later : (view : View) (state : State) (old new : SinkState) (from to : Counts) (status : Status) → WritesView view state old new from to (Err status) → Later status
written-later view state old new from to statuses.Done it = absurd it.wrote
written-later view state old new from to statuses.Usage it = absurd it.wrote
written-later view state old new from to (statuses.NoFile given) it = absurd it.wrote
written-later view state old new from to (statuses.BadText fault) it = absurd it.wrote
written-later view state old new from to statuses.ReadFault it = absurd it.wrote
written-later view state old new from to statuses.WriteFault it = tt
written-later view state old new from to statuses.ShelfFault it = absurd it.wrote
written-later view state old new from to (statuses.BadRecords fault) it = absurd it.wrote
written-later view state old new from to statuses.NoMemory it = tt
written-later view state old new from to (statuses.CommandLong number) it = absurd it.wrote
written-later view state old new from to statuses.InputFull it = absurd it.wrote
written-later view state old new from to (statuses.BadSheets file sheet) it = absurd it.wrote
written-later view state old new from to statuses.NotLocked it = tt

is-later : (one other : Status) → one ≡ other → Later other → Later one
is-later one other is later = subst Later (sym is) later

shows-later : (view : View) (state : State) (old new : SinkState) (from to : Counts) (status : Status) → ShowsState view state old new from to (Err status) → Later status
shows-later view state old new from to status (inl it) = written-later view state old new from to status it
shows-later view state old new from to status (inr (inl it)) = is-later status statuses.NotLocked it.is tt
shows-later view state old new from to status (inr (inr it)) = is-later status statuses.NoMemory it.is tt

whole-asks : (origin : OriginOf) (old new : ShelfState) (status : Status) → Later status → WholeAsks origin old new → StatusAsks origin old new status
whole-asks from_source old new status later whole = tt
whole-asks (from_file name) old new status later whole = later-asks name old new status later whole

pub shown-asks : (view : View) (origin : OriginOf) (shelf after : ShelfState) (state : State) (old new : SinkState) (from to : Counts) (result : Result (Unit {0}) Status) → WholeAsks origin shelf after
    → ShowsState view state old new from to result → OriginAsks origin shelf after result
shown-asks view origin shelf after state old new from to (Ok done) whole shows = whole
shown-asks view origin shelf after state old new from to (Err status) whole shows = whole-asks origin shelf after status (shows-later view state old new from to status shows) whole

-- There was no memory behind the opening.
pub lacking-asks : (name : List ℕ) (old new : ShelfState) → WholeAsks (from_file name) old new → StatusAsks (from_file name) old new statuses.NoMemory
lacking-asks name old new whole = inr whole

-- A run that is done asked for both.
pub done-asks : (origin : OriginOf) (old new : ShelfState) → WholeAsks origin old new → StatusAsks origin old new statuses.Done
done-asks from_source old new whole = tt
done-asks (from_file name) old new whole = whole

-- ---- a script that is missing

pub no-script : (found : Option Files) (files : Files) (name bytes : List ℕ) → found ≡ Some files → files.held name ≡ None → IfSome found (λ those. those.held name ≡ Some bytes) → ⊥
no-script None files name bytes told none has = let bad : ⊥ = cc in bad
no-script (Some those) files name bytes told none has =
    let same : those ≡ files = cc in
    let stands : files.held name ≡ Some bytes = subst (λ (it : Files). it.held name ≡ Some bytes) same has in
    let bad : ⊥ = cc in bad

-- Where the shelf has nothing under the name, nothing else was asked for.
pub missing-alone : (name : List ℕ) (files : Files) (old new : ShelfState) (status : Status) → old.files ≡ Some files → files.held name ≡ None → OpeningAsks name old new status → AsksOne name old new
missing-alone name files old new statuses.Done told none two = absurd (no-script old.files files name two.bytes told none two.found)
missing-alone name files old new statuses.Usage told none two = absurd (no-script old.files files name two.bytes told none two.found)
missing-alone name files old new (statuses.NoFile given) told none asks = asks
missing-alone name files old new (statuses.BadText fault) told none asks = asks
missing-alone name files old new statuses.ReadFault told none two = absurd (no-script old.files files name two.bytes told none two.found)
missing-alone name files old new statuses.WriteFault told none two = absurd (no-script old.files files name two.bytes told none two.found)
missing-alone name files old new statuses.ShelfFault told none (inl asks) = asks
missing-alone name files old new statuses.ShelfFault told none (inr two) = absurd (no-script old.files files name two.bytes told none two.found)
missing-alone name files old new (statuses.BadRecords fault) told none two = absurd (no-script old.files files name two.bytes told none two.found)
missing-alone name files old new statuses.NoMemory told none (inl asks) = asks
missing-alone name files old new statuses.NoMemory told none (inr two) = absurd (no-script old.files files name two.bytes told none two.found)
missing-alone name files old new (statuses.CommandLong number) told none two = absurd (no-script old.files files name two.bytes told none two.found)
missing-alone name files old new statuses.InputFull told none two = absurd (no-script old.files files name two.bytes told none two.found)
missing-alone name files old new (statuses.BadSheets file sheet) told none two = absurd (no-script old.files files name two.bytes told none two.found)
missing-alone name files old new statuses.NotLocked told none two = absurd (no-script old.files files name two.bytes told none two.found)

-- ---- a collation

pub collated-err : {T : Type 0} (one other : List ℕ) (old new : ShelfState) (status : Status) (result : Result T Status) → IsErrAnd result (λ s. s ≡ status) → CollationAsks one other old new status
    → CollatedAsks one other old new result
collated-err one other old new status (Ok value) is it = absurd is
collated-err one other old new status (Err had) is it = subst (CollationAsks one other old new) (sym is) it

-- The old file wasn't had.
pub first-asks : (one other : List ℕ) (old new : ShelfState) (status : Status) → NotFetched sheets_limit old new one status → AsksOne one old new → CollationAsks one other old new status
first-asks one other old new statuses.Done none asks = absurd none
first-asks one other old new statuses.Usage none asks = absurd none
first-asks one other old new (statuses.NoFile given) none asks = inl asks
first-asks one other old new (statuses.BadText fault) none asks = inl asks
first-asks one other old new statuses.ReadFault none asks = absurd none
first-asks one other old new statuses.WriteFault none asks = absurd none
first-asks one other old new statuses.ShelfFault none asks = inl asks
first-asks one other old new (statuses.BadRecords fault) none asks = absurd none
first-asks one other old new statuses.NoMemory none asks = inl asks
first-asks one other old new (statuses.CommandLong number) none asks = absurd none
first-asks one other old new statuses.InputFull none asks = absurd none
first-asks one other old new (statuses.BadSheets file sheet) none asks = absurd none
first-asks one other old new statuses.NotLocked none asks = absurd none

-- The new file was asked for where the old one was fetched.
pub sheets-asked : (one other bytes : List ℕ) (old mid new : ShelfState) → FetchedFile sheets_limit old mid one bytes → AsksOne one old mid → AsksOne other mid new → AsksSheets one other old new
unfolding two-asks
sheets-asked one other bytes old mid new given first second = record { both = two-asks one other bytes old mid new given.finds.found first second; low = given.low }

-- Both were asked for, whatever the status.
pub both-ask : (one other : List ℕ) (old new : ShelfState) (status : Status) → AsksSheets one other old new → CollationAsks one other old new status
both-ask one other old new statuses.Done both = both
both-ask one other old new statuses.Usage both = inr both
both-ask one other old new (statuses.NoFile given) both = inr both
both-ask one other old new (statuses.BadText fault) both = inr both
both-ask one other old new statuses.ReadFault both = inr both
both-ask one other old new statuses.WriteFault both = both
both-ask one other old new statuses.ShelfFault both = inr both
both-ask one other old new (statuses.BadRecords fault) both = inr both
both-ask one other old new statuses.NoMemory both = inr both
both-ask one other old new (statuses.CommandLong number) both = inr both
both-ask one other old new statuses.InputFull both = inr both
both-ask one other old new (statuses.BadSheets file sheet) both = both
both-ask one other old new statuses.NotLocked both = inr both
