-- What a save leaves for the next session (docs/RULES.md, "Sessions").
use Rattle.std.specs.Prelude.{◌≡◌, ℕ, List, Some}
use Rattle.spec_session.specs.declared.SessionEnd.{SessionEnd}
use Rattle.spec_session.specs.declared.SessionEnd.TheVariants as endings
use Rattle.spec_state.specs.State.{State}
use Rattle.sp_kit.specs.Files.{Files, ShelfState}
use Rattle.sp_run.specs.Records.{records_name}
use Rattle.sp_run.specs.Saving.{StoreLeft, files_of}

-- The shelf tells its files, and has under the name and beside it what a save of this state stores.
pub record HasSaved (shelf : ShelfState) (name : List ℕ) (state : State) : Type 0 where
  pub files : Files
  pub told : shelf.files ≡ Some files
  pub text : files.held name ≡ Some (files_of name state).bytes
  pub records : files.held (records_name name) ≡ Some (files_of name state).records

-- A session ended for want of memory in a save of this state: the text may stand under the name, and nothing else was stored.
pub record EndsInSave (name : List ℕ) (state : State) (before after : ShelfState) (end : SessionEnd) : Type 0 where
  pub ends : end ≡ endings.NoMemory
  pub left : StoreLeft (files_of name state) before after
