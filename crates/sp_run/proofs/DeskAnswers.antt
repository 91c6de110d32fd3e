-- The status that a script, its records and its command lines ask for, where no fault is counted.
use Rattle.std.proofs.Common.{◌≡◌, ℕ, ◌-◌, ◌^◌, ◌<◌, List, Some, None}
use Rattle.std.specs.Prelude.{IsSomeAnd}
use Rattle.std.specs.declared.option.Option.{Option}
use Rattle.spec_session.specs.Runs.{Counts}
use Rattle.spec_session.specs.Sessions.{FailedNothing, Settles, streams}
use Rattle.spec_session.specs.declared.SessionEnd.{SessionEnd}
use Rattle.spec_session.specs.declared.SessionEnd.TheVariants as endings
use Rattle.spec_session.proofs.EndLaws.{ends-settle}
use Rattle.spec_state.specs.State.{State}
use Rattle.spec_state.specs.Printing.{too_long, printing_of}
use Rattle.sp_kit.specs.Files.{Files}
use Rattle.sp_text.specs.declared.fault.TextFault.TheVariants as faults
use Rattle.sp_run.specs.declared.status.Status.{Status}
use Rattle.sp_run.specs.declared.status.Status.TheVariants as statuses
use Rattle.sp_run.specs.Asking.{telling}
use Rattle.sp_run.specs.Records.{records_name, RefusesRecords}
use Rattle.sp_run.specs.Opening.{HasState}
use Rattle.sp_run.specs.Unopened.{Outside}
use Rattle.sp_run.specs.DeskEnding.{Answerer, Held, Opens, AnswersDesk, CommandsEnd, begun_at}
use Rattle.sp_run.specs.Statuses.{status_of_end}
use Rattle.sp_run.proofs.Held.{held, held-both, held-none, held-one, not-risen}

-- A script that opens, and a session that ended so.
settles-input : (name input : List ℕ) (end : SessionEnd) → Settles input end → (script : List ℕ) (records : Option (List ℕ)) → Opens script records → AnswersDesk name (Some script) records input (status_of_end end)
settles-input name input endings.Done settles script records opens = (opens, settles)
settles-input name input endings.ReadFault settles script records opens = (opens, settles)
settles-input name input endings.WriteFault settles script records opens = (opens, settles)
settles-input name input endings.NoMemory settles script records opens = tt
settles-input name input (endings.CommandLong number) settles script records opens = (opens, settles)
settles-input name input endings.InputFull settles script records opens = (opens, settles)

-- A session of a script that stands under the name.
pub session-answers : (name : List ℕ) (old : Outside) (end : SessionEnd) (state : State) → HasState old.shelf name state → (input : List ℕ) → Settles input end → (files : Files) → old.shelf.files ≡ Some files
    → AnswersDesk name (files.held name) (files.held (records_name name)) input (status_of_end end)
session-answers name old end state has input settles files is =
    held-both name has.script has.records old.shelf.files files Opens (λ o r. AnswersDesk name o r input (status_of_end end)) (settles-input name input end settles) has.has has.beside is (state, has.opens)

-- A session ends as the command lines ask for, by whatever answers them.
pub held-settles : (how : Answerer) (name : List ℕ) (old new : Outside) (from to : Counts) → FailedNothing (streams old.source old.sink) (streams new.source new.sink) → (files : Files) → old.shelf.files ≡ Some files
    → (input : List ℕ) → old.source.unread ≡ Some input → (end : SessionEnd) → Held how name old new from to end → AnswersDesk name (files.held name) (files.held (records_name name)) input (status_of_end end)
held-settles how name old new from to calm files is input told end held =
    session-answers name old end held.state held.has input
    (ends-settle how.answers how.stops (streams old.source old.sink) (streams new.source new.sink) (begun_at how name held.state (telling old.shelf held.calls) held.opened) held.after end held.ends calm input told) files is

long-found : (name : List ℕ) (found records : Option (List ℕ)) → IsSomeAnd found (λ script. printing_of script ≡ too_long) → (input : List ℕ) → AnswersDesk name found records input (statuses.BadText faults.TextFull)
long-found name None records long input = absurd long
long-found name (Some script) records long input = long

memory-found : (name : List ℕ) (found records : Option (List ℕ)) (input : List ℕ) → AnswersDesk name found records input statuses.NoMemory
memory-found name None records input = tt
memory-found name (Some script) records input = tt

pub commands-answer : (ended : SessionEnd → Type 0) (name : List ℕ) (old new : Outside) (from to : Counts) (status : Status) → CommandsEnd ended name old new from to status → new.shelf.faults ≡ old.shelf.faults
    → old.shelf.faults < 2 ^ 64 - 1 → (files : Files) → old.shelf.files ≡ Some files → (input : List ℕ) → ((end : SessionEnd) → ended end → AnswersDesk name (files.held name) (files.held (records_name name)) input (status_of_end end))
    → AnswersDesk name (files.held name) (files.held (records_name name)) input status
commands-answer ended name old new from to statuses.Done ends fetches low files is input settles = settles endings.Done ends
commands-answer ended name old new from to statuses.Usage ends fetches low files is input settles = absurd ends
commands-answer ended name old new from to (statuses.NoFile given) ends fetches low files is input settles =
    held-none name old.shelf.files files (λ o r. AnswersDesk name o r input (statuses.NoFile given)) ends.0.none.1 is (λ r. ends.0.none.0)
commands-answer ended name old new from to (statuses.BadText (faults.NotUtf8 place)) ends fetches low files is input settles =
    held-one name ends.0.script old.shelf.files files (λ o r. AnswersDesk name o r input (statuses.BadText (faults.NotUtf8 place))) ends.0.had.0 is (λ r. ends.0.becomes)
commands-answer ended name old new from to (statuses.BadText (faults.LineFull place)) ends fetches low files is input settles =
    held-one name ends.0.script old.shelf.files files (λ o r. AnswersDesk name o r input (statuses.BadText (faults.LineFull place))) ends.0.had.0 is (λ r. ends.0.becomes)
commands-answer ended name old new from to (statuses.BadText faults.TextFull) ends fetches low files is input settles =
    long-found name (files.held name) (files.held (records_name name)) (held old.shelf.files files (λ fs. IsSomeAnd (fs.held name) (λ script. printing_of script ≡ too_long)) ends.0.long.0 is) input
commands-answer ended name old new from to (statuses.BadText faults.NoMemory) ends fetches low files is input settles = absurd ends
commands-answer ended name old new from to statuses.ReadFault ends fetches low files is input settles = settles endings.ReadFault ends
commands-answer ended name old new from to statuses.WriteFault ends fetches low files is input settles = settles endings.WriteFault ends
commands-answer ended name old new from to statuses.ShelfFault ends fetches low files is input settles = absurd (not-risen old.shelf.faults new.shelf.faults ends.0.failed.0 fetches low)
commands-answer ended name old new from to (statuses.BadRecords fault) ends fetches low files is input settles =
    held-both name ends.0.script ends.0.records old.shelf.files files (λ s r. RefusesRecords s r fault) (λ o r. AnswersDesk name o r input (statuses.BadRecords fault)) (λ s r refuses. refuses) ends.0.had.0 ends.0.beside is
    ends.0.refuses
commands-answer ended name old new from to statuses.NoMemory ends fetches low files is input settles = memory-found name (files.held name) (files.held (records_name name)) input
commands-answer ended name old new from to (statuses.CommandLong number) ends fetches low files is input settles = settles (endings.CommandLong number) ends
commands-answer ended name old new from to statuses.InputFull ends fetches low files is input settles = settles endings.InputFull ends
commands-answer ended name old new from to (statuses.BadSheets file sheet) ends fetches low files is input settles = absurd ends
commands-answer ended name old new from to statuses.NotLocked ends fetches low files is input settles = absurd ends
