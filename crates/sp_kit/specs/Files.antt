-- What a shelf holds, and what its calls may answer and leave (docs/RULES.md, "The program").
use Rattle.std.specs.Prelude.{◌≡◌, ◌≢◌, ℕ, ◌<◌, ◌≤◌, ◌⊎◌, Bool, IsTrue, List, ◌++◌, length, Ok, Err, Some, None, IfSome, IsSomeAnd}
use Rattle.std.specs.declared.option.Option.{Option}
use Rattle.std.specs.declared.result.Result.{Result}
use Rattle.sp_kit.specs.Causes.{Rose}
use Rattle.sp_kit.specs.declared.shelf.Fetched.{Fetched}
use Rattle.sp_kit.specs.declared.shelf.Fetched.TheVariants as fetched
use Rattle.sp_kit.specs.declared.shelf.ShelfFault.{ShelfFault}
use Rattle.sp_kit.specs.declared.shelf.ShelfFault.TheVariants as shelf_faults

-- Files: the bytes under each name that there is, and whether they are told to be atomic. Then a store that failed left under its
-- name what stood there or what was to be stored; of others it is open what it left.
pub record Files : Type 0 where
  pub held : List ℕ → Option (List ℕ)
  pub atomic : Bool

-- A call of a shelf, by the name that it was for.
pub data CallOf : Type 0 where
  fetch : List ℕ → CallOf
  store : List ℕ → CallOf

-- A shelf: its files, where they are known, its count of faults, and the calls that it was asked, in order, where it tells them.
pub record ShelfState : Type 0 where
  pub files : Option Files
  pub faults : ℕ
  pub calls : Option (List CallOf)

-- These calls were asked behind those before, and no others, where they are told. A shelf may fall silent, and tells none from then on.
abbrev pub Asks : Option (List CallOf) → Option (List CallOf) → List CallOf → Type 0
Asks old new calls = IfSome new (λ now. IsSomeAnd old (λ before. now ≡ before ++ calls))

-- What a fetch of at most so many bytes answers where this stands under the name. A fault says nothing of it.
abbrev pub FetchGives : Option (List ℕ) → ℕ → Result Fetched ShelfFault → Type 0
FetchGives found most (Ok fetched.Absent) = found ≡ None
FetchGives found most (Ok (fetched.Bytes bytes)) = found ≡ Some bytes.items
FetchGives found most (Ok fetched.Longer) = IsSomeAnd found (λ bytes. most < length bytes)
FetchGives found most (Err fault) = Unit {0}

-- No more bytes were fetched than were asked for.
abbrev pub FetchesAtMost : ℕ → Result Fetched ShelfFault → Type 0
FetchesAtMost most (Ok (fetched.Bytes bytes)) = length bytes.items ≤ most
FetchesAtMost most _ = Unit {0}

-- All names but this one have what they had.
pub record KeepsOthers (old new : Files) (name : List ℕ) : Type 0 where
  pub names : (other : List ℕ) → other ≢ name → new.held other ≡ old.held other
  pub atomic : new.atomic ≡ old.atomic

-- Under a name stands what stood there, or these bytes.
abbrev pub HasOldOrNew : Files → Files → List ℕ → List ℕ → Type 0
HasOldOrNew old new name bytes = (new.held name ≡ old.held name) ⊎ (new.held name ≡ Some bytes)

-- What a store of these bytes under a name left that failed.
pub record StoreFails (old new : Files) (name bytes : List ℕ) : Type 0 where
  pub others : KeepsOthers old new name
  pub kept : IsTrue old.atomic → HasOldOrNew old new name bytes

-- What a store of these bytes under a name leaves, where what the shelf holds is known.
abbrev pub StoreLeaves : Option Files → Option Files → List ℕ → List ℕ → Result (Unit {0}) ShelfFault → Type 0
StoreLeaves None new name bytes result = Unit {0}
StoreLeaves (Some old) None name bytes result = ⊥
StoreLeaves (Some old) (Some new) name bytes (Ok done) = (new.held name ≡ Some bytes) × KeepsOthers old new name
StoreLeaves (Some old) (Some new) name bytes (Err shelf_faults.Failed) = StoreFails old new name bytes
StoreLeaves (Some old) (Some new) name bytes (Err shelf_faults.NoMemory) = new ≡ old

-- A count of faults rises with a failure, and stays with every other answer.
abbrev pub HasShelfCause : {T : Type 0} → ℕ → ℕ → Result T ShelfFault → Type 0
HasShelfCause before now (Ok answer) = now ≡ before
HasShelfCause before now (Err shelf_faults.Failed) = (before ≤ now) × Rose before now
HasShelfCause before now (Err shelf_faults.NoMemory) = now ≡ before
