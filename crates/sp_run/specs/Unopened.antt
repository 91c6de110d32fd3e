-- Why a script isn't opened: a relation between what is outside before it and after it, and the status (docs/RULES.md, "The program").
use Rattle.std.specs.Prelude.{◌≡◌, ℕ, ◌≤◌, List, length, string_bytes, Option, Ok, Err}
use Rattle.std.specs.declared.result.Result.{Result}
use Rattle.std.specs.Io.KnownBytes.{Consumes, Keeps}
use Rattle.spec_text.specs.Lines.{line_texts, lines, reading_of}
use Rattle.spec_state.specs.Printing.{Printing, too_long, no_utf8, long_line, printing_of}
use Rattle.sp_kit.specs.Files.{ShelfState}
use Rattle.sp_kit.specs.Outside.{SourceState, SinkState}
use Rattle.sp_records.specs.declared.fault.RecordsFault.{RecordsFault}
use Rattle.sp_text.specs.Gap.{LinesState}
use Rattle.sp_text.specs.declared.fault.TextFault.TheVariants as faults
use Rattle.sp_run.specs.declared.status.Status.{Status}
use Rattle.sp_run.specs.declared.status.Status.TheVariants as statuses
use Rattle.sp_run.specs.Forms.{OriginOf}
use Rattle.sp_run.specs.Opening.{AreFresh, HadScript, HadTooLong, HadNoFile, HasRecords, SourceFailed, ShelfFailed, FailedNothing}
use Rattle.sp_run.specs.Records.{RefusesRecords}

-- What is outside.
pub record Outside : Type 0 where
  pub source : SourceState
  pub sink : SinkState
  pub shelf : ShelfState

-- What is outside, by what can be told of the source, the sink and the shelf.
abbrev pub outside : SourceState → SinkState → ShelfState → Outside
outside source sink shelf = record { source = source; sink = sink; shelf = shelf }

-- The sink took nothing and counted no fault.
pub record WroteNothing (old new : Outside) : Type 0 where
  pub taken : Keeps old.sink.taken new.sink.taken
  pub kept : new.sink.faults ≡ old.sink.faults

-- A script was had whole, is refused for this reason, and nothing was written.
pub record Refused (origin : OriginOf) (old new : Outside) (reason : Printing) : Type 0 where
  pub script : List ℕ
  pub had : HadScript origin old.source new.source old.shelf new.shelf script
  pub becomes : printing_of script ≡ reason
  pub nothing : WroteNothing old new

-- A script was had whole, what stands beside it is refused, and nothing was written.
pub record RecordsRefused (origin : OriginOf) (old new : Outside) (fault : RecordsFault) : Type 0 where
  pub script : List ℕ
  pub had : HadScript origin old.source new.source old.shelf new.shelf script
  pub records : Option (List ℕ)
  pub beside : HasRecords origin old.shelf records
  pub refuses : RefusesRecords script records fault
  pub nothing : WroteNothing old new

-- The script is too long, and nothing was written.
pub record TooLong (origin : OriginOf) (old new : Outside) : Type 0 where
  pub long : HadTooLong origin old.source new.source old.shelf new.shelf
  pub nothing : WroteNothing old new

-- There is no file under this name, and nothing was written.
pub record FoundNone (origin : OriginOf) (old new : Outside) (name : List ℕ) : Type 0 where
  pub none : HadNoFile origin old.source new.source old.shelf new.shelf name
  pub nothing : WroteNothing old new

-- The source failed, and nothing was written.
pub record ReadFailed (origin : OriginOf) (old new : Outside) : Type 0 where
  pub failed : SourceFailed origin old.source new.source old.shelf new.shelf
  pub nothing : WroteNothing old new

-- The shelf failed, and nothing was written.
pub record FetchFailed (origin : OriginOf) (old new : Outside) : Type 0 where
  pub failed : ShelfFailed origin old.source new.source old.shelf new.shelf
  pub nothing : WroteNothing old new

-- There was no memory for a script or its records: no count of faults rose, and nothing was written.
pub record NotOpened (origin : OriginOf) (old new : Outside) : Type 0 where
  pub kept : FailedNothing origin old.source new.source old.shelf new.shelf
  pub nothing : WroteNothing old new

-- How a run ends whose script or records weren't had or are refused.
abbrev pub Unopened : OriginOf → Outside → Outside → Status → Type 0
Unopened origin old new (statuses.NoFile name) = FoundNone origin old new (string_bytes name)
Unopened origin old new (statuses.BadText (faults.NotUtf8 place)) = Refused origin old new (no_utf8 place)
Unopened origin old new (statuses.BadText (faults.LineFull place)) = Refused origin old new (long_line place)
Unopened origin old new (statuses.BadText faults.TextFull) = TooLong origin old new
Unopened origin old new statuses.ReadFault = ReadFailed origin old new
Unopened origin old new statuses.ShelfFault = FetchFailed origin old new
Unopened origin old new (statuses.BadRecords fault) = RecordsRefused origin old new fault
Unopened origin old new statuses.NoMemory = NotOpened origin old new
Unopened origin old new _ = ⊥

-- The status refuses a script with this fate, or there is no memory.
abbrev pub Refuses : Printing → Status → Type 0
Refuses fate (statuses.BadText (faults.NotUtf8 place)) = fate ≡ no_utf8 place
Refuses fate (statuses.BadText (faults.LineFull place)) = fate ≡ long_line place
Refuses fate (statuses.BadText faults.TextFull) = fate ≡ too_long
Refuses fate statuses.NoMemory = Unit {0}
Refuses fate _ = ⊥

-- The status says that there is no file under this name, or there is no memory.
abbrev pub SaysNoFile : List ℕ → Status → Type 0
SaysNoFile name (statuses.NoFile given) = string_bytes given ≡ name
SaysNoFile name statuses.NoMemory = Unit {0}
SaysNoFile name _ = ⊥

-- At most so many bytes were read.
abbrev pub ReadsUpTo : Option (List ℕ) → Option (List ℕ) → ℕ → Type 0
ReadsUpTo old new most = (bytes : List ℕ) × Consumes old new bytes × (length bytes ≤ most)

-- A script has these lines, which were just read.
pub record HasLines (script : List ℕ) (text : LinesState) : Type 0 where
  pub reads : reading_of script ≡ lines (line_texts text.lines)
  pub fresh : AreFresh text

-- The lines of a script, or the status that refuses it.
abbrev pub IsReadable : List ℕ → Result LinesState Status → Type 0
IsReadable script (Ok text) = HasLines script text
IsReadable script (Err status) = Refuses (printing_of script) status
