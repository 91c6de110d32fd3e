-- What a run does for its words, in one relation (docs/RULES.md, "The program").
use Rattle.std.specs.Prelude.{◌≡◌, ◌+◌, List, map, string_bytes, Some, None}
use Rattle.std.specs.declared.option.Option.{Option}
use Rattle.std.specs.declared.alloc.Global.{Global}
use Rattle.std.specs.declared.string.String.{String}
use Rattle.spec_text.specs.Limits.{raw_limit}
use Rattle.sp_run.specs.declared.status.Status.{Status}
use Rattle.sp_run.specs.declared.status.Status.TheVariants as statuses
use Rattle.sp_run.specs.Forms.{OriginOf, Asked, show, desk, room, sample, collate, asked_by}
use Rattle.sp_run.specs.Opening.{LeavesSource, LeavesShelf}
use Rattle.sp_run.specs.Asking.{CollationAsks, CommandsAsk, StatusAsks}
use Rattle.sp_run.specs.Records.{records_name}
use Rattle.sp_run.specs.Saving.{Changes, KeepsAllBut}
use Rattle.sp_run.specs.Unopened.{ReadsUpTo}
use Rattle.sp_run.specs.Ending.{Ends}
use Rattle.sp_run.specs.World.{World}

-- What words ask for, if they are of a form.
abbrev pub asked_in : List (String Global) → Option Asked
asked_in words = asked_by (map string_bytes words)

-- What the writing of a script leaves.
pub record LeavesRest {I O F S : Type 0} (origin : OriginOf) (old new : World I O F S) : Type 0 where
  pub source : LeavesSource origin old.input new.input
  pub shelf : LeavesShelf origin old.shelf new.shelf
  pub files : new.told.shelf.files ≡ old.told.shelf.files
  pub budget : ReadsUpTo old.told.source.unread new.told.source.unread (raw_limit + 1)

-- What a form leaves, beside what the end of its run tells.
abbrev pub Leaves : {I O F S : Type 0} → Asked → World I O F S → World I O F S → Type 0
Leaves (show view origin) old new = LeavesRest origin old new
Leaves (desk name) old new = Changes old.told.shelf.files new.told.shelf.files (λ before after. KeepsAllBut before after name (records_name name))
Leaves (room name) old new = Changes old.told.shelf.files new.told.shelf.files (λ before after. KeepsAllBut before after name (records_name name))
Leaves (sample rooms) old new = (new.input ≡ old.input) × (new.shelf ≡ old.shelf)
Leaves (collate one other) old new = (new.input ≡ old.input) × (new.steps ≡ old.steps) × (new.told.shelf.files ≡ old.told.shelf.files)

-- What the shelf is asked for a form, and nothing else; where it isn't named here, it is left as it was.
abbrev pub AsksShelf : {I O F S : Type 0} → Asked → World I O F S → World I O F S → Status → Type 0
AsksShelf (show view origin) old new status = StatusAsks origin old.told.shelf new.told.shelf status
AsksShelf (desk name) old new status = CommandsAsk name old.told.shelf new.told.shelf status
AsksShelf (room name) old new status = CommandsAsk name old.told.shelf new.told.shelf status
AsksShelf (sample rooms) old new status = Unit {0}
AsksShelf (collate one other) old new status = CollationAsks one other old.told.shelf new.told.shelf status

-- A form was answered.
pub record AnswersForm {I O F S : Type 0} (asked : Asked) (old new : World I O F S) (status : Status) : Type 0 where
  pub ends : Ends asked old.told new.told old.counts new.counts status
  pub leaves : Leaves asked old new
  pub asks : AsksShelf asked old new status

-- No form was asked for, and all was left as it was.
pub record LeavesAll {I O F S : Type 0} (old new : World I O F S) (status : Status) : Type 0 where
  pub is : status ≡ statuses.Usage
  pub input : new.input ≡ old.input
  pub output : new.output ≡ old.output
  pub shelf : new.shelf ≡ old.shelf
  pub steps : new.steps ≡ old.steps

-- What words ask for was done, if they are of a form.
pub record AnswersWords {I O F S : Type 0} (words : List (String Global)) (old new : World I O F S) (status : Status) : Type 0 where
  pub none : asked_in words ≡ None → LeavesAll old new status
  pub form : (asked : Asked) → asked_in words ≡ Some asked → AnswersForm asked old new status
