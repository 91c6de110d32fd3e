-- What a save leaves on a shelf (docs/RULES.md, "Sessions").
use Rattle.std.specs.Prelude.{◌≡◌, ◌≢◌, ℕ, ◌≤◌, ◌⊎◌, IsTrue, List, [], ◌∷◌, Option, Some, None, Ok, Err}
use Rattle.std.specs.declared.result.Result.{Result}
use Rattle.spec_text.specs.Lines.{text_bytes}
use Rattle.spec_records.specs.RecordFile.{digest_of, written}
use Rattle.spec_state.specs.State.{State}
use Rattle.spec_state.specs.Keeping.{state_kept}
use Rattle.spec_wire.specs.Replies.{ReplyOf, saved, refused, shelf}
use Rattle.sp_kit.specs.Causes.{Rose}
use Rattle.sp_kit.specs.Files.{Asks, CallOf, Files, ShelfState, HasOldOrNew, KeepsOthers, store}
use Rattle.sp_kit.specs.declared.shelf.ShelfFault.{ShelfFault}
use Rattle.sp_kit.specs.declared.shelf.ShelfFault.TheVariants as shelf_faults
use Rattle.sp_run.specs.Records.{records_name, OpensAs}

-- What a shelf holds before and after, where it is told; it doesn't fall silent.
abbrev pub Changes : Option Files → Option Files → (Files → Files → Type 0) → Type 0
Changes None new P = Unit {0}
Changes (Some old) None P = ⊥
Changes (Some old) (Some new) P = P old new

-- All names but these two have what they had.
pub record KeepsAllBut (old new : Files) (one other : List ℕ) : Type 0 where
  pub names : (name : List ℕ) → name ≢ one → name ≢ other → new.held name ≡ old.held name
  pub atomic : new.atomic ≡ old.atomic

-- Two files, each a name and bytes.
pub record TwoFiles : Type 0 where
  pub name : List ℕ
  pub bytes : List ℕ
  pub beside : List ℕ
  pub records : List ℕ

-- The files that a save of a state makes: the text under the name, and beside it the record file.
abbrev pub files_of : List ℕ → State → TwoFiles
files_of name state = record { name = name; bytes = text_bytes state.lines; beside = records_name name; records = written state.lines (state_kept state) }

-- Both files were stored.
pub record PutBoth (it : TwoFiles) (old new : Files) : Type 0 where
  pub first : new.held it.name ≡ Some it.bytes
  pub second : new.held it.beside ≡ Some it.records
  pub others : KeepsAllBut old new it.name it.beside

-- The first file was stored, and it is open what stands under the second name.
pub record PutFirst (it : TwoFiles) (old new : Files) : Type 0 where
  pub first : new.held it.name ≡ Some it.bytes
  pub others : KeepsAllBut old new it.name it.beside

-- Each of both files is as it was, or was stored; all others are as they were.
pub record KeepsOrPuts (it : TwoFiles) (old new : Files) : Type 0 where
  pub first : HasOldOrNew old new it.name it.bytes
  pub second : HasOldOrNew old new it.beside it.records
  pub others : KeepsAllBut old new it.name it.beside

-- Which of two stores were asked: none, the first alone, or both in order.
pub data Tried : Type 0 where
  neither : Tried
  first_alone : Tried
  both : Tried

abbrev pub calls_tried : List ℕ → List ℕ → Tried → List CallOf
calls_tried name beside neither = []
calls_tried name beside first_alone = store name ∷ []
calls_tried name beside both = store name ∷ store beside ∷ []

-- These stores were asked, and nothing else.
abbrev pub AsksStores : TwoFiles → ShelfState → ShelfState → Tried → Type 0
AsksStores it old new tried = Asks old.calls new.calls (calls_tried it.name it.beside tried)

-- Both files were stored, and no fault was counted.
pub record StoredBoth (it : TwoFiles) (old new : ShelfState) : Type 0 where
  pub kept : new.faults ≡ old.faults
  pub files : Changes old.files new.files (PutBoth it)
  pub asks : AsksStores it old new both

-- A store failed: the first one, and the second wasn't tried, or the second one behind it. Of atomic files none is lost.
pub record StoreFailed (it : TwoFiles) (old new : ShelfState) : Type 0 where
  pub later : old.faults ≤ new.faults
  pub rose : Rose old.faults new.faults
  pub files : Changes old.files new.files (λ before now. KeepsOthers before now it.name ⊎ PutFirst it before now)
  pub kept : Changes old.files new.files (λ before now. IsTrue before.atomic → KeepsOrPuts it before now)
  pub asks : AsksStores it old new first_alone ⊎ AsksStores it old new both

-- The first name is as it was, or has its bytes; all others are as they were.
pub record LeftFirst (it : TwoFiles) (old new : Files) : Type 0 where
  pub first : HasOldOrNew old new it.name it.bytes
  pub others : KeepsOthers old new it.name

-- How want of memory may leave a shelf before two stores or in them: the second wasn't done, and no fault was counted.
pub record StoreLeft (it : TwoFiles) (old new : ShelfState) : Type 0 where
  pub kept : new.faults ≡ old.faults
  pub files : Changes old.files new.files (LeftFirst it)
  pub asks : AsksStores it old new neither ⊎ AsksStores it old new first_alone ⊎ AsksStores it old new both

-- How two stores go, the second of which isn't tried where the first failed.
abbrev pub StoresBoth : TwoFiles → ShelfState → ShelfState → Result (Unit {0}) ShelfFault → Type 0
StoresBoth it old new (Ok done) = StoredBoth it old new
StoresBoth it old new (Err shelf_faults.Failed) = StoreFailed it old new
StoresBoth it old new (Err shelf_faults.NoMemory) = StoreLeft it old new

-- A state was saved: its files stand on the shelf, and open as that state again.
pub record SavesState (name : List ℕ) (state : State) (old new : ShelfState) : Type 0 where
  pub stored : StoredBoth (files_of name state) old new
  pub opens : OpensAs (text_bytes state.lines) (Some (written state.lines (state_kept state))) state

-- The reply to a save, and what it left.
abbrev pub RepliesToSave : List ℕ → State → ShelfState → ShelfState → ReplyOf → Type 0
RepliesToSave name state old new (saved digest) = (digest ≡ digest_of state.lines) × SavesState name state old new
RepliesToSave name state old new (refused shelf) = StoreFailed (files_of name state) old new
RepliesToSave name state old new _ = ⊥
