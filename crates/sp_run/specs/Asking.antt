-- What a run asks a shelf, as far as that tells its calls (docs/RULES.md, "The program").
use Rattle.std.specs.Prelude.{◌≡◌, ℕ, ◌≤◌, ◌⊎◌, List, [], ◌∷◌, flat_map, length, string_bytes, Option, Ok, Err}
use Rattle.std.specs.declared.result.Result.{Result}
use Rattle.sp_kit.specs.Files.{Asks, CallOf, ShelfState, fetch}
use Rattle.sp_run.specs.declared.status.Status.{Status}
use Rattle.sp_run.specs.declared.status.Status.TheVariants as statuses
use Rattle.sp_run.specs.Collating.{sheets_limit}
use Rattle.sp_run.specs.Forms.{OriginOf, from_source, from_file}
use Rattle.sp_run.specs.Opening.{HasScript}
use Rattle.sp_run.specs.Records.{records_name}
use Rattle.sp_run.specs.Saving.{Tried, calls_tried}

-- The shelf as it was, which tells these calls by now.
abbrev pub telling : ShelfState → Option (List CallOf) → ShelfState
telling shelf calls = record { files = shelf.files; faults = shelf.faults; calls = calls }

-- ---- two files, the second of which is asked for only where the first was had

-- The first file was asked for, and nothing else.
abbrev pub AsksOne : List ℕ → ShelfState → ShelfState → Type 0
AsksOne first old new = Asks old.calls new.calls (fetch first ∷ [])

-- The first was asked for and was there, and then the second was asked for, and nothing else.
pub record AsksTwo (first second : List ℕ) (old new : ShelfState) : Type 0 where
  pub bytes : List ℕ
  pub found : HasScript old first bytes
  pub asks : Asks old.calls new.calls (fetch first ∷ fetch second ∷ [])

abbrev pub AsksInOrder : List ℕ → List ℕ → ShelfState → ShelfState → Type 0
AsksInOrder first second old new = AsksOne first old new ⊎ AsksTwo first second old new

-- ---- a script and what stands beside it

-- What is asked for a script of this name, by the status that the run ends with: the script alone where that is missing or is
-- refused, and what stands beside it too in all other cases; where a call failed or there was no memory, either.
abbrev pub OpeningAsks : List ℕ → ShelfState → ShelfState → Status → Type 0
OpeningAsks name old new (statuses.NoFile given) = AsksOne name old new
OpeningAsks name old new (statuses.BadText fault) = AsksOne name old new
OpeningAsks name old new statuses.ShelfFault = AsksInOrder name (records_name name) old new
OpeningAsks name old new statuses.NoMemory = AsksInOrder name (records_name name) old new
OpeningAsks name old new _ = AsksTwo name (records_name name) old new

-- By where a script comes from; where that is the source, the shelf is left as it was. First where all was had, then by the status, and
-- then by the answer, which is a status where it is an error.
abbrev pub WholeAsks : OriginOf → ShelfState → ShelfState → Type 0
WholeAsks from_source old new = Unit {0}
WholeAsks (from_file name) old new = AsksTwo name (records_name name) old new

abbrev pub StatusAsks : OriginOf → ShelfState → ShelfState → Status → Type 0
StatusAsks from_source old new status = Unit {0}
StatusAsks (from_file name) old new status = OpeningAsks name old new status

abbrev pub OriginAsks : {T : Type 0} → OriginOf → ShelfState → ShelfState → Result T Status → Type 0
OriginAsks origin old new (Ok it) = WholeAsks origin old new
OriginAsks origin old new (Err status) = StatusAsks origin old new status

-- What is asked for the script alone, and then for what stands beside it: nothing where there was no memory for its name.
abbrev pub ScriptAsks : OriginOf → ShelfState → ShelfState → Type 0
ScriptAsks from_source old new = Unit {0}
ScriptAsks (from_file name) old new = AsksOne name old new

abbrev pub BesideStatusAsks : List ℕ → ShelfState → ShelfState → Status → Type 0
BesideStatusAsks name old new statuses.NoMemory = Asks old.calls new.calls [] ⊎ AsksOne (records_name name) old new
BesideStatusAsks name old new _ = AsksOne (records_name name) old new

abbrev pub BesideAsks : {T : Type 0} → List ℕ → ShelfState → ShelfState → Result T Status → Type 0
BesideAsks name old new (Ok it) = AsksOne (records_name name) old new
BesideAsks name old new (Err status) = BesideStatusAsks name old new status

-- ---- a session

-- The stores that saves of a script tried, one behind the other.
abbrev pub calls_saved : List ℕ → List Tried → List CallOf
calls_saved name saves = flat_map (calls_tried name (records_name name)) saves

-- A script and what stands beside it were asked for, and then the stores of saves, and nothing else.
pub record SessionAsks (name : List ℕ) (old new : ShelfState) : Type 0 where
  pub bytes : List ℕ
  pub found : HasScript old name bytes
  pub saves : List Tried
  pub asks : Asks old.calls new.calls (fetch name ∷ fetch (records_name name) ∷ calls_saved name saves)

-- By the status: a session that didn't begin asks what its opening asks.
abbrev pub CommandsAsk : List ℕ → ShelfState → ShelfState → Status → Type 0
CommandsAsk name old new (statuses.NoFile given) = AsksOne name old new
CommandsAsk name old new (statuses.BadText fault) = AsksOne name old new
CommandsAsk name old new statuses.ShelfFault = AsksInOrder name (records_name name) old new
CommandsAsk name old new (statuses.BadRecords fault) = AsksTwo name (records_name name) old new
CommandsAsk name old new statuses.NoMemory = AsksInOrder name (records_name name) old new ⊎ SessionAsks name old new
CommandsAsk name old new _ = SessionAsks name old new

-- The status of a script that is missing: there is no file, or the call for it failed, or there was no memory.
abbrev pub SaysMissing : List ℕ → Status → Type 0
SaysMissing name (statuses.NoFile given) = string_bytes given ≡ name
SaysMissing name statuses.ShelfFault = Unit {0}
SaysMissing name statuses.NoMemory = Unit {0}
SaysMissing name _ = ⊥

-- ---- a collation

-- Both files were asked for, one behind the other, the first of which is within the limit.
pub record AsksSheets (one other : List ℕ) (old new : ShelfState) : Type 0 where
  pub both : AsksTwo one other old new
  pub low : length both.bytes ≤ sheets_limit

-- By the status: the old file alone where that is missing or too long, and both where the new one was judged.
abbrev pub CollationAsks : List ℕ → List ℕ → ShelfState → ShelfState → Status → Type 0
CollationAsks one other old new statuses.Done = AsksSheets one other old new
CollationAsks one other old new statuses.WriteFault = AsksSheets one other old new
CollationAsks one other old new (statuses.BadSheets file sheet) = AsksSheets one other old new
CollationAsks one other old new _ = AsksOne one old new ⊎ AsksSheets one other old new

-- The same by the answer, which is a status where it is an error.
abbrev pub CollatedAsks : {T : Type 0} → List ℕ → List ℕ → ShelfState → ShelfState → Result T Status → Type 0
CollatedAsks one other old new (Ok it) = AsksSheets one other old new
CollatedAsks one other old new (Err status) = CollationAsks one other old new status
