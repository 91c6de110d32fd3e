-- How a run ends: a relation between what is outside before it and after it, and its status (docs/RULES.md, "The program").
use Rattle.std.specs.Prelude.{◌≡◌, ℕ, Ok, Err}
use Rattle.std.specs.declared.result.Result.{Result}
use Rattle.std.specs.Io.KnownBytes.{Keeps}
use Rattle.spec_session.specs.Runs.{Counts}
use Rattle.sp_kit.specs.Outside.{SinkState}
use Rattle.sp_run.specs.declared.status.Status.{Status}
use Rattle.sp_run.specs.declared.status.Status.TheVariants as statuses
use Rattle.sp_run.specs.Forms.{Asked, show, desk, room, sample, collate}
use Rattle.sp_run.specs.Written.{WroteAll, WrotePart}
use Rattle.spec_sample.specs.Sample.{sample_output}
use Rattle.sp_run.specs.Collating.{CollateEnds}
use Rattle.sp_run.specs.Unopened.{Outside, WroteNothing}
use Rattle.sp_run.specs.Showing.{ShowEnds}
use Rattle.sp_run.specs.ShowCounted.{ShowCounts}
use Rattle.sp_run.specs.DeskEnding.{DeskEnds}
use Rattle.sp_run.specs.SampleCounts.{SampleFills, SampleFillsAtMost, SampleReads, SampleReadsAtMost}
use Rattle.sp_run.specs.RoomEnding.{RoomEnds}

-- What the making of a sample counts: its opening and each of its commands. Where there is no memory, no more than that.
pub record SampleCounts (rooms : ℕ) (from to : Counts) : Type 0 where
  pub reads : SampleReads rooms from.reads to.reads
  pub fills : SampleFills rooms from.fills to.fills

pub record SampleCountsAtMost (rooms : ℕ) (from to : Counts) : Type 0 where
  pub reads : SampleReadsAtMost rooms from.reads to.reads
  pub fills : SampleFillsAtMost rooms from.fills to.fills

-- A sample was told: its line was written.
pub record ToldSample (rooms : ℕ) (old new : SinkState) (from to : Counts) : Type 0 where
  pub wrote : WroteAll old new (sample_output rooms)
  pub counts : SampleCounts rooms from to

-- It was made, and a part of its line was written, and not all of it.
pub record PartTold (rooms : ℕ) (old new : SinkState) (from to : Counts) : Type 0 where
  pub wrote : WrotePart old new (sample_output rooms)
  pub counts : SampleCounts rooms from to

-- How a run ends that tells of a sample: its line was written, or a part of it, or there was no memory and nothing was.
abbrev pub SampleEnds : ℕ → Outside → Outside → Counts → Counts → Status → Type 0
SampleEnds rooms old new from to statuses.Done = ToldSample rooms old.sink new.sink from to
SampleEnds rooms old new from to statuses.Usage = ⊥
SampleEnds rooms old new from to (statuses.NoFile name) = ⊥
SampleEnds rooms old new from to (statuses.BadText fault) = ⊥
SampleEnds rooms old new from to statuses.ReadFault = ⊥
SampleEnds rooms old new from to statuses.WriteFault = PartTold rooms old.sink new.sink from to
SampleEnds rooms old new from to statuses.ShelfFault = ⊥
SampleEnds rooms old new from to (statuses.BadRecords fault) = ⊥
SampleEnds rooms old new from to statuses.NoMemory = WroteNothing old new × SampleCountsAtMost rooms from to
SampleEnds rooms old new from to (statuses.CommandLong number) = ⊥
SampleEnds rooms old new from to statuses.InputFull = ⊥
SampleEnds rooms old new from to (statuses.BadSheets file sheet) = ⊥
SampleEnds rooms old new from to statuses.NotLocked = ⊥

-- The status says that a sample was told, or that there is no memory.
abbrev pub AnswersSample : Status → Type 0
AnswersSample statuses.Done = Unit {0}
AnswersSample statuses.NoMemory = Unit {0}
AnswersSample _ = ⊥

-- How the telling of a sample ends: Ok is the status Done.
abbrev pub SampleEndsAs : ℕ → SinkState → SinkState → Counts → Counts → Result (Unit {0}) Status → Type 0
SampleEndsAs rooms old new from to (Ok done) = ToldSample rooms old new from to
SampleEndsAs rooms old new from to (Err statuses.WriteFault) = PartTold rooms old new from to
SampleEndsAs rooms old new from to (Err statuses.NoMemory) = Keeps old.taken new.taken × (new.faults ≡ old.faults) × SampleCountsAtMost rooms from to
SampleEndsAs rooms old new from to (Err _) = ⊥

-- How a run ends whose words ask for this, and which raised the counts from these to those.
abbrev pub Ends : Asked → Outside → Outside → Counts → Counts → Status → Type 0
Ends (show view origin) old new from to status = ShowEnds view origin old new status × ShowCounts view origin old new from to status
Ends (desk name) old new from to status = DeskEnds name old new from to status
Ends (room name) old new from to status = RoomEnds name old new from to status
Ends (sample rooms) old new from to status = SampleEnds rooms old new from to status
Ends (collate one other) old new from to status = CollateEnds one other old.shelf new.shelf old.sink new.sink status × (to ≡ from)
