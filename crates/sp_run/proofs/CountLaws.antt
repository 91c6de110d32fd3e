-- What lines count, by how they are answered.
use Rattle.std.proofs.Common.{◌≡◌, ℕ, List, true, Result, Ok, Err, inl, refl, sym, subst}
use Rattle.spec_wire.specs.Commands.{CommandOf, FaultOf, save, packet}
use Rattle.spec_wire.specs.Replies.{RefusalOf, refused}
use Rattle.spec_machine.specs.Machine.{Memory}
use Rattle.spec_machine.specs.Answers.{step_of}
use Rattle.spec_session.specs.Runs.{Counts}
use Rattle.sp_kit.specs.Files.{ShelfState}
use Rattle.sp_run.specs.declared.status.Status.{Status}
use Rattle.sp_run.specs.declared.status.Status.TheVariants as statuses
use Rattle.sp_desk.specs.Reads.{CommandReads}
use Rattle.sp_desk.specs.Fills.{CommandFills}
use Rattle.sp_desk.proofs.Counting.{no-reads, no-fills}
use Rattle.sp_desk.proofs.OutcomeLaws.{fills-at-most, lacking-fills, lacking-reads, reads-at-most, refused-fills, refused-reads, taken-fills, taken-reads}
use Rattle.sp_run.specs.CountedLines.{CommandCounts, CommandCountsAtMost, LineCounts, LineCountsAtMost, NotOpenedCounts}
use Rattle.sp_run.specs.DeskLines.{is_save, is_packet}

-- ---- a command of a desk

-- It was taken.
pub taken-counts : (T E : Type 0) (memory : Memory) (command : CommandOf) (value : T) (from to : Counts) → CommandReads {E = E} memory.state command (Ok value) from.reads to.reads
    → CommandFills {E = E} memory.state command (Ok value) from.fills to.fills → CommandCounts memory command from to
taken-counts T E memory command value from to reads fills = record {
  reads = taken-reads T E memory command value from.reads to.reads reads;
  fills = taken-fills T E memory command value from.fills to.fills fills;
}

-- It was refused.
pub refused-counts : (T E : Type 0) (memory : Memory) (command : CommandOf) (reason : RefusalOf) (error : E) (from to : Counts) → refused reason ≡ (step_of memory command).reply
    → CommandReads {T = T} memory.state command (Err error) from.reads to.reads → CommandFills {T = T} memory.state command (Err error) from.fills to.fills → CommandCounts memory command from to
refused-counts T E memory command reason error from to told reads fills = record {
  reads = refused-reads T E memory command reason error from.reads to.reads told reads;
  fills = refused-fills T E memory command reason error from.fills to.fills told fills;
}

-- There was no memory for it.
pub lacking-counts : (T E : Type 0) (memory : Memory) (command : CommandOf) (error : E) (from to : Counts) → CommandReads {T = T} memory.state command (Err error) from.reads to.reads
    → CommandFills {T = T} memory.state command (Err error) from.fills to.fills → CommandCountsAtMost memory command from to
lacking-counts T E memory command error from to reads fills = record {
  reads = lacking-reads T E memory command error from.reads to.reads reads;
  fills = lacking-fills T E memory command error from.fills to.fills fills;
}

pub counts-at-most : (memory : Memory) (command : CommandOf) (from to : Counts) → CommandCounts memory command from to → CommandCountsAtMost memory command from to
counts-at-most memory command from to it =
    record { reads = reads-at-most memory command from.reads to.reads it.reads; fills = fills-at-most memory command from.fills to.fills it.fills }

-- Nothing was done for it.
pub none-counts : (memory : Memory) (command : CommandOf) (counts : Counts) → CommandCountsAtMost memory command counts counts
none-counts memory command counts = record { reads = no-reads (Unit {0}) (Unit {0}) memory.state command tt counts.reads; fills = no-fills (Unit {0}) (Unit {0}) memory.state command tt counts.fills }

-- ---- a line of a desk

pub line-at-most : (memory : Memory) (asked : Result CommandOf FaultOf) (from to : Counts) → LineCounts memory asked from to → LineCountsAtMost memory asked from to
line-at-most memory (Ok command) from to it = counts-at-most memory command from to it
line-at-most memory (Err fault) from to same = same

pub line-undone : (memory : Memory) (asked : Result CommandOf FaultOf) (counts : Counts) → LineCountsAtMost memory asked counts counts
line-undone memory (Ok command) counts = none-counts memory command counts
line-undone memory (Err fault) counts = refl

-- A save and a packet read and fill none.
pub save-counts : (memory : Memory) (command : CommandOf) (counts : Counts) → is_save command ≡ true → CommandCounts memory command counts counts
save-counts memory save counts is = record { reads = refl; fills = refl }
save-counts memory command counts is = absurd (let bad : ⊥ = cc in bad)

pub packet-counts : (memory : Memory) (command : CommandOf) (counts : Counts) → is_packet command ≡ true → CommandCounts memory command counts counts
packet-counts memory packet counts is = record { reads = refl; fills = refl }
packet-counts memory command counts is = absurd (let bad : ⊥ = cc in bad)

-- What is no command.
pub line-unread : (memory : Memory) (asked : Result CommandOf FaultOf) (fault : FaultOf) (counts : Counts) → asked ≡ Err fault → LineCounts memory asked counts counts
line-unread memory asked fault counts is = subst (λ (it : Result CommandOf FaultOf). LineCounts memory it counts counts) (sym is) refl

-- ---- a script that isn't opened

-- None was read or filled.
pub none-opened : (shelf : ShelfState) (name : List ℕ) (counts : Counts) (status : Status) → NotOpenedCounts shelf name counts counts status
none-opened shelf name counts statuses.NoMemory = inl refl
none-opened shelf name counts status = refl
