-- Accepted commands, and sessions of a desk, one after another, each of which opens the state that the one before saved
-- (docs/RULES.md, "The desk" and "Sessions").
use Rattle.std.specs.Prelude.{◌≡◌, List, [], ◌∷◌, ◌++◌, fold, None}
use Rattle.spec_text.specs.Lines.{IsText}
use Rattle.spec_state.specs.State.{text_of}
use Rattle.spec_wire.specs.Commands.{CommandOf}
use Rattle.spec_machine.specs.Machine.{EntryOf, Memory, opened_memory, memory_after, memory_behind}
use Rattle.spec_machine.specs.Refusals.{refusal_to}

-- A memory accepts a command: nothing refuses it, and what it leads to has a text, as it has where the texts of an edit are UTF-8.
pub record Accepts (memory : Memory) (command : CommandOf) : Type 0 where
  pub free : refusal_to memory command ≡ None
  pub text : IsText (text_of (memory_after memory command).state)

-- Accepted commands, one after another.
abbrev pub AcceptsAll : Memory → List CommandOf → Type 0
AcceptsAll memory [] = Unit {0}
AcceptsAll memory (command ∷ commands) = Accepts memory command × AcceptsAll (memory_after memory command) commands

-- ---- sessions

-- The memory behind a session that opens the state of a memory and takes these commands. From a memory without entries on, as a lock
-- of pages and a round leave it, it is the rest of that memory's own session too.
abbrev pub session_behind : Memory → List CommandOf → Memory
session_behind memory commands = memory_behind (opened_memory memory.state) commands

-- Behind several sessions, each by its commands.
abbrev pub sessions_behind : Memory → List (List CommandOf) → Memory
sessions_behind memory sessions = fold session_behind memory sessions

abbrev pub AcceptsSessions : Memory → List (List CommandOf) → Type 0
AcceptsSessions memory [] = Unit {0}
AcceptsSessions memory (commands ∷ later) = AcceptsAll (opened_memory memory.state) commands × AcceptsSessions (session_behind memory commands) later

-- An earlier memory leads to another by accepted commands of its session, and by those of sessions that open what was saved then.
pub record LeadsTo (earlier now : Memory) : Type 0 where
  pub commands : List CommandOf
  pub taken : AcceptsAll earlier commands
  pub sessions : List (List CommandOf)
  pub accepted : AcceptsSessions (memory_behind earlier commands) sessions
  pub is : now ≡ sessions_behind (memory_behind earlier commands) sessions

-- The entries with which each of them ends, those of the first session before those of the next.
abbrev pub session_entries : Memory → List (List CommandOf) → List EntryOf
session_entries memory [] = []
session_entries memory (commands ∷ later) = (session_behind memory commands).done ++ session_entries (session_behind memory commands) later
