-- What every memory of a desk keeps.
use Rattle.std.specs.Prelude.{◌≡◌, All}
use Rattle.spec_state.specs.State.{State}
use Rattle.spec_state.specs.StateLabels.{page_labels, scene_labels}
use Rattle.spec_state.specs.Keeping.{IsWhole}
use Rattle.spec_machine.specs.Machine.{EntryOf, Memory}

-- The state of an entry is whole, and has the locked labels of the present state.
pub record IsEntry (state : State) (entry : EntryOf) : Type 0 where
  pub whole : IsWhole entry.state
  pub pages : page_labels entry.state ≡ page_labels state
  pub scenes : scene_labels entry.state ≡ scene_labels state

pub record IsWholeMemory (memory : Memory) : Type 0 where
  pub state : IsWhole memory.state
  pub done : All (IsEntry memory.state) memory.done
  pub undone : All (IsEntry memory.state) memory.undone
