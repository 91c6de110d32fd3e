-- The collation of two files that a shelf has (docs/RULES.md, "The program" and "Collation").
use Rattle.std.specs.Prelude.{◌≡◌, ℕ, nat_lt, if◌then◌else◌, List, length, string_bytes, Some, None}
use Rattle.std.specs.declared.option.Option.{Option}
use Rattle.std.specs.Io.KnownBytes.{Keeps}
use Rattle.spec_packet.specs.BytesCollated.{Collating, collated_bytes, bad_sheets, collating}
use Rattle.sp_kit.specs.Causes.{Rose}
use Rattle.sp_kit.specs.Files.{ShelfState}
use Rattle.sp_kit.specs.Outside.{SinkState}
use Rattle.sp_text.specs.declared.fault.TextFault.TheVariants as faults
use Rattle.sp_run.specs.declared.status.Status.{Status}
use Rattle.sp_run.specs.declared.status.Status.TheVariants as statuses
use Rattle.sp_run.specs.Opening.{Holds, SameShelf}
use Rattle.sp_run.specs.Written.{WroteAll, WrotePart}

-- The most bytes of a file of sheets.
abbrev pub sheets_limit : ℕ
sheets_limit = 268435456

-- What comes of two names: there is no file under this one; a file passes the limit; the file with this number, 0 for the old
-- one and 1 for the new, is no list of sheets, by the number of the sheet that breaks it; or these are the collated bytes.
pub data Fate : Type 0 where
  lacks : List ℕ → Fate
  passes_limit : Fate
  spoils : ℕ → ℕ → Fate
  gives : List ℕ → Fate

abbrev pub fate_by : Collating → Fate
fate_by (collated_bytes bytes) = gives bytes
fate_by (bad_sheets file sheet) = spoils file sheet

-- By the old file, and what stands under the new one's name.
abbrev pub second_fate : List ℕ → List ℕ → Option (List ℕ) → Fate
second_fate new old_bytes None = lacks new
second_fate new old_bytes (Some new_bytes) = if nat_lt sheets_limit (length new_bytes) then passes_limit else fate_by (collating old_bytes new_bytes)

-- By what stands under both names: what is wrong with the old file comes first.
abbrev pub fate_of : List ℕ → List ℕ → Option (List ℕ) → Option (List ℕ) → Fate
fate_of old new None second = lacks old
fate_of old new (Some old_bytes) second = if nat_lt sheets_limit (length old_bytes) then passes_limit else second_fate new old_bytes second

-- This comes of two names on a shelf, which was left as it was.
pub record Comes (old new : List ℕ) (shelf after : ShelfState) (fate : Fate) : Type 0 where
  pub first : Option (List ℕ)
  pub second : Option (List ℕ)
  pub has_first : Holds shelf old first
  pub has_second : Holds shelf new second
  pub is : fate_of old new first second ≡ fate
  pub same : SameShelf shelf after

-- Why two files weren't collated.
abbrev pub NotCollated : List ℕ → List ℕ → ShelfState → ShelfState → Status → Type 0
NotCollated old new shelf after (statuses.NoFile given) = Comes old new shelf after (lacks (string_bytes given))
NotCollated old new shelf after (statuses.BadText faults.TextFull) = Comes old new shelf after passes_limit
NotCollated old new shelf after statuses.ShelfFault = Rose shelf.faults after.faults × (after.files ≡ shelf.files)
NotCollated old new shelf after (statuses.BadSheets file sheet) = Comes old new shelf after (spoils file sheet)
NotCollated old new shelf after statuses.NoMemory = SameShelf shelf after
NotCollated old new shelf after _ = ⊥

-- The sink took nothing and counted no fault.
pub record TookNothing (sink written : SinkState) : Type 0 where
  pub taken : Keeps sink.taken written.taken
  pub kept : written.faults ≡ sink.faults

-- The collation of both was written whole.
pub record Collated (old new : List ℕ) (shelf after : ShelfState) (sink written : SinkState) : Type 0 where
  pub bytes : List ℕ
  pub comes : Comes old new shelf after (gives bytes)
  pub wrote : WroteAll sink written bytes

-- A part of it was written, and not all of it: the sink failed.
pub record PartCollated (old new : List ℕ) (shelf after : ShelfState) (sink written : SinkState) : Type 0 where
  pub bytes : List ℕ
  pub comes : Comes old new shelf after (gives bytes)
  pub wrote : WrotePart sink written bytes

-- How a run ends that collates what stands under two names.
abbrev pub CollateEnds : List ℕ → List ℕ → ShelfState → ShelfState → SinkState → SinkState → Status → Type 0
CollateEnds old new shelf after sink written statuses.Done = Collated old new shelf after sink written
CollateEnds old new shelf after sink written statuses.WriteFault = PartCollated old new shelf after sink written
CollateEnds old new shelf after sink written status = NotCollated old new shelf after status × TookNothing sink written

-- The status is the one that what stands under both names asks for, or there is no memory.
abbrev pub AnswersFate : Fate → Status → Type 0
AnswersFate fate statuses.Done = (bytes : List ℕ) × (fate ≡ gives bytes)
AnswersFate fate (statuses.NoFile given) = fate ≡ lacks (string_bytes given)
AnswersFate fate (statuses.BadText faults.TextFull) = fate ≡ passes_limit
AnswersFate fate (statuses.BadSheets file sheet) = fate ≡ spoils file sheet
AnswersFate fate statuses.NoMemory = Unit {0}
AnswersFate fate _ = ⊥
