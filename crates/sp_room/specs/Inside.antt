-- What each room keeps, by its fields.
use Rattle.std.specs.Prelude.{ℕ, List}
use Rattle.spec_machine.specs.Machine.{Memory}
use Rattle.spec_room.specs.Rooms.{RoomState}
use Rattle.spec_room.specs.Holding.{Holds}
use Rattle.sp_room.specs.Changes.{ranges}
use Rattle.sp_room.specs.Owners.{OwnerOf, Own, seats_of}
use Rattle.sp_room.specs.declared.change.Change.{Change}

-- A room of these parts.
abbrev pub room_of : Memory → ℕ → List Change → List OwnerOf → List OwnerOf → RoomState
room_of desk version changes done undone = record { desk = desk; version = version; changes = ranges changes; done = seats_of done; undone = seats_of undone }

pub record Keeps (desk : Memory) (version : ℕ) (changes : List Change) (done undone : List OwnerOf) : Type 0 where
  pub holds : Holds (room_of desk version changes done undone)
  pub own : Own desk done undone
