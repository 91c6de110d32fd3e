-- How many stanzas are read and how many pages are filled where the script of a session isn't opened, and where its lines are answered (docs/RULES.md, "Windows").
use Rattle.std.specs.Prelude.{◌≡◌, ℕ, ◌⊎◌, List}
use Rattle.std.specs.declared.result.Result.{Result}
use Rattle.std.specs.declared.result.Result.TheVariants.{Ok, Err}
use Rattle.spec_state.specs.State.{State}
use Rattle.spec_wire.specs.Commands.{CommandOf, FaultOf}
use Rattle.spec_machine.specs.Machine.{Memory}
use Rattle.spec_session.specs.Runs.{Counts}
use Rattle.sp_kit.specs.Files.{ShelfState}
use Rattle.sp_desk.specs.Outcomes.{FillsAtMost, FillsOf, ReadsAtMost, ReadsOf}
use Rattle.sp_run.specs.Counted.{OpeningCountsAtMost}
use Rattle.sp_run.specs.Opening.{HasState}
use Rattle.sp_run.specs.declared.status.Status.{Status}
use Rattle.sp_run.specs.declared.status.Status.TheVariants as statuses

-- There was no memory to open the script that the shelf has under a name: for its bytes and those beside them, and none is read
-- or filled; or for the state that they open as.
abbrev pub LackingCounts : ShelfState → List ℕ → Counts → Counts → Type 0
LackingCounts shelf name from to = (to ≡ from) ⊎ ((state : State) × HasState shelf name state × OpeningCountsAtMost state from to)

-- A script that isn't opened, with this status: where it isn't had or is refused, none is read or filled.
abbrev pub NotOpenedCounts : ShelfState → List ℕ → Counts → Counts → Status → Type 0
NotOpenedCounts shelf name from to statuses.NoMemory = LackingCounts shelf name from to
NotOpenedCounts shelf name from to _ = to ≡ from

-- What a desk reads and fills for a command; where there is no memory, no more than that.
pub record CommandCounts (memory : Memory) (command : CommandOf) (from to : Counts) : Type 0 where
  pub reads : ReadsOf memory command from.reads to.reads
  pub fills : FillsOf memory command from.fills to.fills

pub record CommandCountsAtMost (memory : Memory) (command : CommandOf) (from to : Counts) : Type 0 where
  pub reads : ReadsAtMost memory command from.reads to.reads
  pub fills : FillsAtMost memory command from.fills to.fills

-- The same for what was read of a line: none for what is no command.
abbrev pub LineCounts : Memory → Result CommandOf FaultOf → Counts → Counts → Type 0
LineCounts memory (Ok command) from to = CommandCounts memory command from to
LineCounts memory (Err fault) from to = to ≡ from

abbrev pub LineCountsAtMost : Memory → Result CommandOf FaultOf → Counts → Counts → Type 0
LineCountsAtMost memory (Ok command) from to = CommandCountsAtMost memory command from to
LineCountsAtMost memory (Err fault) from to = to ≡ from
