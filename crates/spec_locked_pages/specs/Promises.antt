-- What is promised of locked pages (docs/RULES.md, "Windows").
use Rattle.std.specs.Prelude.{◌≡◌, ℕ, None, List, ◌++◌, drop}
use Rattle.spec_text.specs.Edits.{replacement_of}
use Rattle.spec_text.specs.Ranges.{range_of}
use Rattle.spec_state.specs.State.{State}
use Rattle.spec_state.specs.Keeping.{IsWhole}
use Rattle.spec_wire.specs.Commands.{CommandOf, edit, lock_pages, next_round}
use Rattle.spec_machine.specs.Machine.{EntryOf, Memory, memory_after}
use Rattle.spec_machine.specs.Refusals.{refusal_to}
use Rattle.spec_machine.specs.Sessions.{Accepts}
use Rattle.spec_locked_pages.specs.LockedPages.{KeepsLockedPage}
use Rattle.spec_locked_pages.specs.Chains.{LeadTo, GoOn, KeepsAlong, KeepsOpened, eldest, first_state}

-- What a command keeps of the locked pages of a memory, where it leads to a state: an edit those that it leaves alone.
abbrev pub KeepsPages : Memory → CommandOf → State → Type 0
KeepsPages memory (edit it) new = (i : ℕ) → KeepsLockedPage (range_of (replacement_of memory.state.lines it)) memory.state new i
KeepsPages memory _ new = Unit {0}

-- In every memory of a desk: an accepted command keeps locked pages; so do all steps since each entry, and since each state of earlier
-- sessions that leads to the first of these; and from a lock of pages or a round on they stay one sheet, over all commands of this session
-- and later ones that drop no entry.
pub record ArePageLaws (memory : Memory) : Type 0 where
  pub command : (it : CommandOf) → Accepts memory it → KeepsPages memory it (memory_after memory it).state
  pub chain : (i k : ℕ) → KeepsAlong i (drop k memory.done) memory.state
  pub earlier : (i : ℕ) (entries : List EntryOf) → LeadTo entries (eldest memory) → IsWhole (first_state entries (eldest memory))
      → KeepsAlong i (entries ++ memory.done) memory.state
  pub lock : (sessions : List (List CommandOf)) (i : ℕ) → refusal_to memory lock_pages ≡ None → GoOn (memory_after memory lock_pages) sessions
      → KeepsOpened (memory_after memory lock_pages) sessions i
  pub round : (sessions : List (List CommandOf)) (i : ℕ) → refusal_to memory next_round ≡ None → GoOn (memory_after memory next_round) sessions
      → KeepsOpened (memory_after memory next_round) sessions i
