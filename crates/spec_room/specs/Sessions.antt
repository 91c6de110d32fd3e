-- Whole sessions of a room: accepted commands of any seats, one after another, and the texts of all versions.
use Rattle.std.specs.Prelude.{◌≡◌, ℕ, ◌+◌, ◌≤◌, ◌==◌, Ok, List, [], ◌∷◌, ◌++◌, length, slice_index_or, if◌then◌else◌}
use Rattle.spec_text.specs.Edits.{stretch}
use Rattle.spec_text.specs.Ranges.{RangeOf}
use Rattle.spec_state.specs.State.{State}
use Rattle.spec_wire.specs.Commands.{CommandOf, RoomLineOf}
use Rattle.spec_machine.specs.Machine.{opened_memory, memory_after}
use Rattle.spec_machine.specs.Sessions.{Accepts}
use Rattle.spec_room.specs.Changes.{Text, Changes, place_of}
use Rattle.spec_room.specs.Kinds.{Kind, kind_of, command_at}
use Rattle.spec_room.specs.Rooms.{RoomState, opened_room, changes_since, asked_of, rises, room_after}

-- A room accepts a seat's command: its desk accepts it at its present place, and the room remembers what it changed.
pub record Takes (old : RoomState) (it : RoomLineOf) (new : RoomState) : Type 0 where
  pub asked : Kind
  pub asks : asked_of old it.seat it.seen (kind_of it.command) ≡ Ok asked
  pub accepts : Accepts old.desk (command_at it.command asked)
  pub room : new ≡ room_after old it.seat asked (memory_after old.desk (command_at it.command asked))

-- The texts of all versions after an accepted command.
abbrev pub versions_after : List Text → Kind → Text → List Text
versions_after texts kind now = if rises kind == 0 then texts else texts ++ now ∷ []

-- A room that was opened round this state, after accepted commands: what its desk was asked in order, each edit at its place, and the
-- texts of all versions.
pub data Session (state : State) : List CommandOf → RoomState → List Text → Type 0 where
  opens : Session state [] (opened_room (opened_memory state)) (state.lines ∷ [])
  goes : (commands : List CommandOf) (old : RoomState) (texts : List Text) (it : RoomLineOf) (new : RoomState) → Session state commands old texts → (takes : Takes old it new)
      → Session state (commands ++ command_at it.command takes.asked ∷ []) new (versions_after texts (kind_of it.command) new.desk.state.lines)

-- An edit accepted in a session: its place is that of the lines that its seat named; the lines that it takes away or changes are, with id,
-- mark and text, those of its range in the text at the version that its seat saw; all other lines are as directly before it.
pub record TakesSeen (old : RoomState) (texts : List Text) (seen : ℕ) (range : RangeOf) (new : RoomState) : Type 0 where
  pub place : ℕ
  pub at : place_of seen range.first range.old (changes_since old.changes old.version seen) ≡ Ok place
  pub inside : range.first + range.old ≤ length (slice_index_or texts seen [])
  pub saw : stretch old.desk.state.lines place range.old ≡ stretch (slice_index_or texts seen []) range.first range.old
  pub others : Changes (record { first = place; old = range.old; new = range.new }) old.desk.state.lines new.desk.state.lines
