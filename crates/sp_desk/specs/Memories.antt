-- The memory of whole states that a state and two lists of entries stand for (docs/RULES.md, "The desk").
use Rattle.std.specs.Prelude.{List, [], ◌∷◌}
use Rattle.spec_text.specs.Ranges.{RangeOf}
use Rattle.spec_state.specs.State.{State}
use Rattle.spec_machine.specs.Machine.{EntryOf, Memory, entry_of}
use Rattle.spec_machine.specs.KeptMemories.{IsWholeMemory}
use Rattle.spec_locked_pages.specs.Chains.{AreLinked}
use Rattle.sp_state.specs.Entries.{CanTurn, EntryState, done_range, turned_range, turned_state}

-- The state that turning all entries leads to, the last one first.
abbrev pub turned_all : State → List EntryState → State
turned_all state [] = state
turned_all state (entry ∷ later) = turned_state (turned_all state later) entry

-- Each entry as the state that it leads to, with its range.
abbrev pub entries_by : (EntryState → RangeOf) → State → List EntryState → List EntryOf
entries_by range state [] = []
entries_by range state (entry ∷ later) = entry_of (turned_all state (entry ∷ later)) (range entry) ∷ entries_by range state later

-- Each entry can be turned where the later ones were.
abbrev pub CanTurnAll : State → List EntryState → Type 0
CanTurnAll state [] = Unit {0}
CanTurnAll state (entry ∷ later) = CanTurn (turned_all state later) entry × CanTurnAll state later

-- Each entry has the range of its edit: one of what was done undoes it, and one of what was undone makes it again.
abbrev pub memory_by : State → List EntryState → List EntryState → Memory
memory_by state done undone = record {
  state = state;
  done = entries_by done_range state done;
  undone = entries_by turned_range state undone;
}

-- The memory is whole, each of its entries leads to the next by an edit, and every entry can be undone or redone in its turn.
pub record IsDesk (state : State) (done undone : List EntryState) : Type 0 where
  pub whole : IsWholeMemory (memory_by state done undone)
  pub linked : AreLinked (memory_by state done undone)
  pub can_undo : CanTurnAll state done
  pub can_redo : CanTurnAll state undone
