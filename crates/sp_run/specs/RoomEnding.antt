-- How a session of a room ends (docs/RULES.md, "The room" and "Sessions").
use Rattle.std.specs.Prelude.{List, ℕ, [], ◌∷◌}
use Rattle.spec_machine.specs.Machine.{opened_memory}
use Rattle.spec_session.specs.Runs.{Counts, output_of}
use Rattle.spec_session.specs.declared.SessionEnd.{SessionEnd}
use Rattle.sp_run.specs.declared.status.Status.{Status}
use Rattle.spec_room.specs.Rooms.{opened_room}
use Rattle.sp_run.specs.RoomLines.{AnswersRoomLine, NamedRoom, StopsAtRoomLine, answered_room_lines, desk_in, seat_saves}
use Rattle.sp_run.specs.Seats.{AreTakenSeen}
use Rattle.sp_run.specs.Unopened.{Outside}
use Rattle.sp_run.specs.DeskEnding.{Answerer, AnsweredBy, AnsweredCalmlyBy, CommandsEnd, Held}

-- A room round a desk: each edit that it took took away or changed just the lines that its seat saw.
abbrev pub the_room : Answerer
the_room = record {
  It = NamedRoom;
  begins = λ name memory. record { name = name; room = opened_room memory };
  desk = desk_in;
  saves = seat_saves;
  answers = AnswersRoomLine;
  stops = StopsAtRoomLine;
  seen = λ it lines steps. AreTakenSeen it.room (it.room.desk.state.lines ∷ []) lines steps;
}

-- The same of a room round a desk that was opened so: its desk keeps what is promised, and each edit that the room took took away or
-- changed just the lines that its seat saw.
abbrev pub HeldRoom : List ℕ → Outside → Outside → Counts → Counts → SessionEnd → Type 0
HeldRoom name old new from to end = Held the_room name old new from to end

abbrev pub RoomEnds : List ℕ → Outside → Outside → Counts → Counts → Status → Type 0
RoomEnds name old new from to status = CommandsEnd (HeldRoom name old new from to) name old new from to status

-- The same of a room.
abbrev pub RoomAnsweredAll : List ℕ → Outside → Outside → Counts → Counts → Type 0
RoomAnsweredAll name old new from to = AnsweredBy the_room name old new from to

abbrev pub RoomAnsweredCalmly : List ℕ → Outside → Outside → Type 0
RoomAnsweredCalmly name old new = AnsweredCalmlyBy (λ state lines. output_of (answered_room_lines (opened_room (opened_memory state)) lines)) name old new
