-- What is promised of packets (docs/RULES.md, "Packets").
use Rattle.std.specs.Prelude.{◌≡◌, true, List, None, is_some}
use Rattle.spec_wire.specs.Commands.{CommandOf, lock_pages, next_round}
use Rattle.spec_state.specs.State.{State}
use Rattle.spec_state.specs.Keeping.{IsWhole}
use Rattle.spec_machine.specs.Machine.{EntryOf, Memory, memory_after}
use Rattle.spec_machine.specs.Refusals.{refusal_to}
use Rattle.spec_machine.specs.Sessions.{sessions_behind}
use Rattle.spec_locked_pages.specs.Chains.{LeadTo, GoOn, IsOpened, eldest, first_state}
use Rattle.spec_packet.specs.StatePackets.{BringsUp}

-- A state that keeps the rules, with locked pages that are open: each of them is one sheet.
pub record HasOpenPages (state : State) : Type 0 where
  pub whole : IsWhole state
  pub locked : is_some state.pages ≡ true
  pub opened : IsOpened state

-- In every memory of a desk: what a lock of pages or a round leaves is open. The packet brings the sheets of an earlier state up to date
-- whose pages are open: of one from which edits lead to the first state of the memory, also in earlier sessions; and from a lock of pages
-- or a round on, after all commands of this session and later ones that drop no entry.
pub record ArePacketLaws (memory : Memory) : Type 0 where
  pub lock : refusal_to memory lock_pages ≡ None → IsOpened (memory_after memory lock_pages).state
  pub round : refusal_to memory next_round ≡ None → IsOpened (memory_after memory next_round).state
  pub packet : (earlier : List EntryOf) → LeadTo earlier (eldest memory) → HasOpenPages (first_state earlier (eldest memory))
      → BringsUp (first_state earlier (eldest memory)) memory.state
  pub since_lock : (sessions : List (List CommandOf)) → refusal_to memory lock_pages ≡ None → GoOn (memory_after memory lock_pages) sessions
      → BringsUp (memory_after memory lock_pages).state (sessions_behind (memory_after memory lock_pages) sessions).state
  pub since_round : (sessions : List (List CommandOf)) → is_some memory.state.pages ≡ true → refusal_to memory next_round ≡ None → GoOn (memory_after memory next_round) sessions
      → BringsUp (memory_after memory next_round).state (sessions_behind (memory_after memory next_round) sessions).state
