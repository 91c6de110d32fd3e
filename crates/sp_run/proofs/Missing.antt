-- The status of a run whose script is missing.
use Rattle.std.proofs.Common.{◌≡◌, ℕ, List, Some, None, subst}
use Rattle.std.specs.Prelude.{IfSome, IsSomeAnd}
use Rattle.std.specs.declared.option.Option.{Option}
use Rattle.spec_session.specs.Runs.{Counts}
use Rattle.spec_session.specs.declared.SessionEnd.{SessionEnd}
use Rattle.spec_session.specs.declared.SessionEnd.TheVariants as endings
use Rattle.spec_state.specs.Printing.{too_long, printing_of}
use Rattle.sp_kit.specs.Files.{Files}
use Rattle.sp_text.specs.declared.fault.TextFault.TheVariants as faults
use Rattle.sp_run.specs.declared.form.View.{View}
use Rattle.sp_run.specs.declared.status.Status.{Status}
use Rattle.sp_run.specs.declared.status.Status.TheVariants as statuses
use Rattle.sp_run.specs.Asking.{SaysMissing}
use Rattle.sp_run.specs.DeskEnding.{CommandsEnd}
use Rattle.sp_run.specs.Forms.{from_file}
use Rattle.sp_run.specs.Showing.{ShowEnds}
use Rattle.sp_run.specs.Unopened.{Outside}
use Rattle.sp_run.proofs.Asked.{no-script}

no-long : (found : Option Files) (files : Files) (name : List ℕ) → found ≡ Some files → files.held name ≡ None → IfSome found (λ those. IsSomeAnd (those.held name) (λ script. printing_of script ≡ too_long)) → ⊥
no-long None files name told none has = let bad : ⊥ = cc in bad
no-long (Some those) files name told none has =
    let same : those ≡ files = cc in
    subst (λ (held : Option (List ℕ)). IsSomeAnd held (λ script. printing_of script ≡ too_long)) none
    (subst (λ (it : Files). IsSomeAnd (it.held name) (λ script. printing_of script ≡ too_long)) same has)

module _ (name : List ℕ) (files : Files) (old new : Outside) (told : old.shelf.files ≡ Some files) (none : files.held name ≡ None) where
  pub show-missing : (view : View) (status : Status) → ShowEnds view (from_file name) old new status → SaysMissing name status
  show-missing view statuses.Done it = absurd (no-script old.shelf.files files name it.had.script told none it.had.had.0)
  show-missing view statuses.Usage it = absurd it
  show-missing view (statuses.NoFile given) it = it.none.0
  show-missing view (statuses.BadText (faults.NotUtf8 place)) it = absurd (no-script old.shelf.files files name it.script told none it.had.0)
  show-missing view (statuses.BadText (faults.LineFull place)) it = absurd (no-script old.shelf.files files name it.script told none it.had.0)
  show-missing view (statuses.BadText faults.TextFull) it = absurd (no-long old.shelf.files files name told none it.long.0)
  show-missing view (statuses.BadText faults.NoMemory) it = absurd it
  show-missing view statuses.ReadFault it = absurd it.failed
  show-missing view statuses.WriteFault it = absurd (no-script old.shelf.files files name it.had.script told none it.had.had.0)
  show-missing view statuses.ShelfFault it = tt
  show-missing view (statuses.BadRecords fault) it = absurd (no-script old.shelf.files files name it.script told none it.had.0)
  show-missing view statuses.NoMemory it = tt
  show-missing view (statuses.CommandLong number) it = absurd it
  show-missing view statuses.InputFull it = absurd it
  show-missing view (statuses.BadSheets file sheet) it = absurd it
  show-missing view statuses.NotLocked it = absurd (no-script old.shelf.files files name it.had.script told none it.had.had.0)

  -- A session of a missing script doesn't begin.
  pub commands-missing : (held : SessionEnd → Type 0) (from to : Counts) (status : Status) → ((end : SessionEnd) → held end → ⊥) → CommandsEnd held name old new from to status → SaysMissing name status
  commands-missing held from to statuses.Done never it = absurd (never endings.Done it)
  commands-missing held from to statuses.Usage never it = absurd it
  commands-missing held from to (statuses.NoFile given) never it = it.0.none.0
  commands-missing held from to (statuses.BadText (faults.NotUtf8 place)) never it = absurd (no-script old.shelf.files files name it.0.script told none it.0.had.0)
  commands-missing held from to (statuses.BadText (faults.LineFull place)) never it = absurd (no-script old.shelf.files files name it.0.script told none it.0.had.0)
  commands-missing held from to (statuses.BadText faults.TextFull) never it = absurd (no-long old.shelf.files files name told none it.0.long.0)
  commands-missing held from to (statuses.BadText faults.NoMemory) never it = absurd it
  commands-missing held from to statuses.ReadFault never it = absurd (never endings.ReadFault it)
  commands-missing held from to statuses.WriteFault never it = absurd (never endings.WriteFault it)
  commands-missing held from to statuses.ShelfFault never it = tt
  commands-missing held from to (statuses.BadRecords fault) never it = absurd (no-script old.shelf.files files name it.0.script told none it.0.had.0)
  commands-missing held from to statuses.NoMemory never it = tt
  commands-missing held from to (statuses.CommandLong number) never it = absurd (never (endings.CommandLong number) it)
  commands-missing held from to statuses.InputFull never it = absurd (never endings.InputFull it)
  commands-missing held from to (statuses.BadSheets file sheet) never it = absurd it
  commands-missing held from to statuses.NotLocked never it = absurd it
