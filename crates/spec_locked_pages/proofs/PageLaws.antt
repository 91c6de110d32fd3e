-- What is promised of locked pages holds in every memory of a desk.
use Rattle.std.proofs.Common.{List}
use Rattle.spec_state.specs.State.{State}
use Rattle.spec_state.specs.Keeping.{IsWhole}
use Rattle.spec_wire.specs.Commands.{CommandOf, edit}
use Rattle.spec_machine.specs.Machine.{Memory, opened_memory, memory_after, memory_behind, CanDo}
use Rattle.spec_machine.specs.Sessions.{AcceptsAll}
use Rattle.spec_machine.specs.KeptMemories.{IsWholeMemory}
use Rattle.spec_machine.proofs.MachineLaws.{opened-whole, steps-whole}
use Rattle.spec_machine.proofs.RefusalLaws.{accepted-can}
use Rattle.spec_locked_pages.specs.Chains.{AreLinked}
use Rattle.spec_locked_pages.specs.Promises.{KeepsPages, ArePageLaws}
use Rattle.spec_locked_pages.proofs.ChainLaws.{stays-same, step-locked, memory-keeps, earlier-keep, opened-linked, steps-linked}
use Rattle.spec_locked_pages.proofs.OpeningLaws.{lock-keeps, round-keeps}

-- A command that can be done keeps locked pages.
pub command-keeps : (memory : Memory) (command : CommandOf) → IsWholeMemory memory → CanDo memory command → KeepsPages memory command (memory_after memory command).state
command-keeps memory (edit it) whole can = λ i. step-locked memory it i whole can
command-keeps memory _ whole can = tt

-- So does one that changes nothing.
pub unchanged-keeps : (memory : Memory) (command : CommandOf) → KeepsPages memory command memory.state
unchanged-keeps memory (edit it) = λ i. record { keeps = λ locked alone. stays-same memory.state i locked }
unchanged-keeps memory _ = tt

pub page-laws : (memory : Memory) → IsWholeMemory memory → AreLinked memory → ArePageLaws memory
page-laws memory whole linked = record {
  command = λ it accepted. command-keeps memory it whole (accepted-can memory it accepted);
  chain = λ i k. memory-keeps memory i k whole linked;
  earlier = λ i entries lead first. earlier-keep memory i entries linked lead first;
  lock = λ sessions i free go. lock-keeps memory sessions i whole free go;
  round = λ sessions i free go. round-keeps memory sessions i whole free go;
}

-- Over every list of accepted commands from a whole state on.
pub session-laws : (state : State) (commands : List CommandOf) → IsWhole state → AcceptsAll (opened_memory state) commands → ArePageLaws (memory_behind (opened_memory state) commands)
session-laws state commands whole all =
    page-laws (memory_behind (opened_memory state) commands) (steps-whole (opened_memory state) commands (opened-whole state whole) all) (steps-linked (opened_memory state) commands (opened-linked state) all)
