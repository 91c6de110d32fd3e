-- The status that a script asks for, where no fault is counted.
use Rattle.std.proofs.Common.{◌≡◌, ℕ, ◌+◌, ◌-◌, ◌^◌, ◌<◌, ◌≤◌, inl, inr, List, length, Some, None, ap, ◌∙◌, subst, arith, length-append}
use Rattle.std.specs.Prelude.{nat_lt, IfSome, IsSomeAnd}
use Rattle.std.specs.declared.option.Option.{Option}
use Rattle.std.specs.Io.KnownBytes.{Consumes, IsAtEnd}
use Rattle.std.proofs.KnownBytes.{Consumes-whole}
use Rattle.std.proofs.lemmas.Bool.{lt-ltb, cond-true}
use Rattle.spec_text.specs.Limits.{raw_limit}
use Rattle.spec_text.specs.Lines.{text_full, reading_of}
use Rattle.spec_state.specs.State.{State, opened_state}
use Rattle.spec_state.specs.Printing.{Printing, too_long, no_utf8, long_line, printed, printed_state, printing_of, printing_of_reading}
use Rattle.sp_kit.specs.Files.{Files}
use Rattle.sp_text.specs.declared.fault.TextFault.TheVariants as faults
use Rattle.sp_run.specs.declared.status.Status.{Status}
use Rattle.sp_run.specs.declared.status.Status.TheVariants as statuses
use Rattle.sp_run.specs.declared.form.View.{View}
use Rattle.sp_run.specs.declared.form.View.TheVariants as views
use Rattle.sp_run.specs.Forms.{from_source, from_file}
use Rattle.sp_records.specs.declared.fault.RecordsFault.{RecordsFault}
use Rattle.sp_run.specs.Records.{records_name, OpensAs, RefusesRecords}
use Rattle.sp_run.specs.Opening.{HadState}
use Rattle.sp_run.specs.Unopened.{Outside, TooLong, Refused}
use Rattle.sp_run.specs.Showing.{ShowEnds, Answers, AnswersFile, OpensWith, OpensWithout}
use Rattle.sp_run.proofs.Held.{held, held-both, held-none, held-one, not-risen}

-- A script past the limit is too long, whatever it is.
past-limit : (script : List ℕ) → raw_limit < length script → printing_of script ≡ too_long
past-limit script past =
    let full : reading_of script ≡ text_full = cond-true (nat_lt raw_limit (length script)) text_full _ (lt-ltb raw_limit (length script) past) in
    ap printing_of_reading full

-- What holds of the bytes that a source gave to its end holds of the script that it tells.
told : (a b : Option (List ℕ)) (bytes script : List ℕ) (P : List ℕ → Type 0) → Consumes a b bytes → IsAtEnd b → a ≡ Some script → P bytes → P script
told a b bytes script P gave end is holds = subst (λ o. IfSome o P) is (Consumes-whole a b bytes P gave end holds)

-- The script that a source tells is as long as what it gave.
length-told : (a b : Option (List ℕ)) (bytes script : List ℕ) → Consumes a b bytes → a ≡ Some script → length bytes ≤ length script
length-told None b bytes script gave is = cc
length-told (Some xs) None bytes script gave is = absurd gave
length-told (Some xs) (Some ys) bytes script gave is =
    let same : xs ≡ script = cc in
    let whole : length xs ≡ length bytes + length ys = ap length gave ∙ length-append bytes ys in
    let e = ap length same in
    omega (arith, whole, e)

-- A script that is too long.
long-told : (old new : Outside) (script : List ℕ) → TooLong from_source old new → old.source.unread ≡ Some script → printing_of script ≡ too_long
long-told old new script long is =
    let gave = long.long.0 in
    elim gave.end [
      | inl past ↦
          let most = length-told old.source.unread new.source.unread gave.script script gave.gave.bytes is in
          past-limit script (omega (arith, past, most))
      | inr end ↦ told old.source.unread new.source.unread gave.script script (λ s. printing_of s ≡ too_long) gave.gave.bytes end is gave.becomes
    ]

-- A script that is refused.
refused-told : (old new : Outside) (reason : Printing) (script : List ℕ) → Refused from_source old new reason → old.source.unread ≡ Some script → printing_of script ≡ reason
refused-told old new reason script refused is =
    told old.source.unread new.source.unread refused.script script (λ s. printing_of s ≡ reason) refused.had.0.gave.bytes refused.had.0.end is refused.becomes

-- Where there are no records none are refused.
none-refused : (script : List ℕ) (fault : RecordsFault) → RefusesRecords script None fault → ⊥
none-refused script fault it = it.refuses

-- A script of the source that was opened is printed.
printed-told : (old new : Outside) (script : List ℕ) (state : State) → HadState from_source old.source new.source old.shelf new.shelf state → old.source.unread ≡ Some script
    → (output : List ℕ) × (printing_of script ≡ printed output)
printed-told old new script state had is =
    let none : OpensAs had.script None state = subst (λ (o : Option (List ℕ)). OpensAs had.script o state) had.beside had.opens in
    told old.source.unread new.source.unread had.script script (λ s. (output : List ℕ) × (printing_of s ≡ printed output)) had.had.0.gave.bytes had.had.0.end is
    (printed_state (opened_state none.texts), ap printing_of_reading none.reads)

-- The status that a run ended with is the one that the script of the source asks for, or there is no memory.
pub answers-ends : (old new : Outside) (status : Status) → ShowEnds views.Sheets from_source old new status → new.source.faults ≡ old.source.faults → new.sink.faults ≡ old.sink.faults
    → old.source.faults < 2 ^ 64 - 1 → old.sink.faults < 2 ^ 64 - 1 → (script : List ℕ) → old.source.unread ≡ Some script → Answers (printing_of script) status
answers-ends old new statuses.Done ends reads writes low below script is = printed-told old new script ends.state ends.had is
answers-ends old new statuses.Usage ends reads writes low below script is = absurd ends
answers-ends old new (statuses.NoFile name) ends reads writes low below script is = absurd ends.none
answers-ends old new (statuses.BadText (faults.NotUtf8 place)) ends reads writes low below script is = refused-told old new (no_utf8 place) script ends is
answers-ends old new (statuses.BadText (faults.LineFull place)) ends reads writes low below script is = refused-told old new (long_line place) script ends is
answers-ends old new (statuses.BadText faults.TextFull) ends reads writes low below script is = long-told old new script ends is
answers-ends old new (statuses.BadText faults.NoMemory) ends reads writes low below script is = absurd ends
answers-ends old new statuses.ReadFault ends reads writes low below script is = absurd (not-risen old.source.faults new.source.faults ends.failed.0 reads low)
answers-ends old new statuses.WriteFault ends reads writes low below script is = absurd (not-risen old.sink.faults new.sink.faults ends.rose writes below)
answers-ends old new statuses.ShelfFault ends reads writes low below script is = absurd ends.failed
answers-ends old new (statuses.BadRecords fault) ends reads writes low below script is =
    absurd (none-refused ends.script fault (subst (λ (o : Option (List ℕ)). RefusesRecords ends.script o fault) ends.beside ends.refuses))
answers-ends old new statuses.NoMemory ends reads writes low below script is = tt
answers-ends old new (statuses.CommandLong number) ends reads writes low below script is = absurd ends
answers-ends old new statuses.InputFull ends reads writes low below script is = absurd ends
answers-ends old new (statuses.BadSheets file sheet) ends reads writes low below script is = absurd ends
answers-ends old new statuses.NotLocked ends reads writes low below script is = absurd ends.lacks

long-answers : (view : View) (name : List ℕ) (o records : Option (List ℕ)) → IsSomeAnd o (λ script. printing_of script ≡ too_long) → AnswersFile view name o records (statuses.BadText faults.TextFull)
long-answers view name None records long = absurd long
long-answers view name (Some script) records long = long

no_memory-answers : (view : View) (name : List ℕ) (o records : Option (List ℕ)) → AnswersFile view name o records statuses.NoMemory
no_memory-answers view name None records = tt
no_memory-answers view name (Some script) records = tt

-- The status that a run ended with is the one that what stands under the name and beside it asks for, or there is no memory.
pub answers-file : (view : View) (name : List ℕ) (old new : Outside) (status : Status) → ShowEnds view (from_file name) old new status → new.shelf.faults ≡ old.shelf.faults → new.sink.faults ≡ old.sink.faults
    → old.shelf.faults < 2 ^ 64 - 1 → old.sink.faults < 2 ^ 64 - 1 → (files : Files) → old.shelf.files ≡ Some files → AnswersFile view name (files.held name) (files.held (records_name name)) status
answers-file view name old new statuses.Done ends fetches writes low below files is =
    held-both name ends.had.script ends.had.records old.shelf.files files (OpensWith view) (λ o r. AnswersFile view name o r statuses.Done) (λ s r opens. opens) ends.had.had.0 ends.had.beside is (ends.state, ends.had.opens, ends.has)
answers-file view name old new statuses.Usage ends fetches writes low below files is = absurd ends
answers-file view name old new (statuses.NoFile given) ends fetches writes low below files is =
    held-none name old.shelf.files files (λ o r. AnswersFile view name o r (statuses.NoFile given)) ends.none.1 is (λ r. ends.none.0)
answers-file view name old new (statuses.BadText (faults.NotUtf8 place)) ends fetches writes low below files is =
    held-one name ends.script old.shelf.files files (λ o r. AnswersFile view name o r (statuses.BadText (faults.NotUtf8 place))) ends.had.0 is (λ r. ends.becomes)
answers-file view name old new (statuses.BadText (faults.LineFull place)) ends fetches writes low below files is =
    held-one name ends.script old.shelf.files files (λ o r. AnswersFile view name o r (statuses.BadText (faults.LineFull place))) ends.had.0 is (λ r. ends.becomes)
answers-file view name old new (statuses.BadText faults.TextFull) ends fetches writes low below files is =
    long-answers view name (files.held name) (files.held (records_name name)) (held old.shelf.files files (λ fs. IsSomeAnd (fs.held name) (λ script. printing_of script ≡ too_long)) ends.long.0 is)
answers-file view name old new (statuses.BadText faults.NoMemory) ends fetches writes low below files is = absurd ends
answers-file view name old new statuses.ReadFault ends fetches writes low below files is = absurd ends.failed
answers-file view name old new statuses.WriteFault ends fetches writes low below files is = absurd (not-risen old.sink.faults new.sink.faults ends.rose writes below)
answers-file view name old new statuses.ShelfFault ends fetches writes low below files is = absurd (not-risen old.shelf.faults new.shelf.faults ends.failed.0 fetches low)
answers-file view name old new (statuses.BadRecords fault) ends fetches writes low below files is =
    held-both name ends.script ends.records old.shelf.files files (λ s r. RefusesRecords s r fault) (λ o r. AnswersFile view name o r (statuses.BadRecords fault)) (λ s r refuses. refuses) ends.had.0 ends.beside is
    ends.refuses
answers-file view name old new statuses.NoMemory ends fetches writes low below files is = no_memory-answers view name (files.held name) (files.held (records_name name))
answers-file view name old new (statuses.CommandLong number) ends fetches writes low below files is = absurd ends
answers-file view name old new statuses.InputFull ends fetches writes low below files is = absurd ends
answers-file view name old new (statuses.BadSheets file sheet) ends fetches writes low below files is = absurd ends
answers-file view name old new statuses.NotLocked ends fetches writes low below files is =
    held-both name ends.had.script ends.had.records old.shelf.files files (OpensWithout view) (λ o r. AnswersFile view name o r statuses.NotLocked) (λ s r opens. opens) ends.had.had.0 ends.had.beside is
    (ends.state, ends.had.opens, ends.lacks)
