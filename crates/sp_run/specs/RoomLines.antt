-- What a room makes of the command lines of its seats (docs/RULES.md, "The room" and "Sessions").
use Rattle.std.specs.Prelude.{◌≡◌, ℕ, ◌⊎◌, Bool, true, if◌then◌else◌, List}
use Rattle.std.specs.declared.result.Result.{Result}
use Rattle.std.specs.declared.result.Result.TheVariants.{Ok, Err}
use Rattle.spec_records.specs.RecordFile.{digest_of}
use Rattle.spec_wire.specs.Commands.{CommandOf, FaultOf, RoomLineOf}
use Rattle.spec_wire.specs.Lines.{room_line_of_line}
use Rattle.spec_wire.specs.Replies.{ReplyOf, refused, saved, shelf, unreadable, room_reply_line}
use Rattle.spec_session.specs.Runs.{Answered, AtShelf, Counts, at_shelf}
use Rattle.spec_room.specs.Rooms.{RoomState, RoomStep, room_step_to, room_step_of}
use Rattle.sp_kit.specs.Files.{ShelfState}
use Rattle.sp_run.specs.SeatCounted.{SeatCounts, SeatCountsAtMost}
use Rattle.sp_run.specs.DeskLines.{NamedDesk, Leaves, Stores, answered_in_order, asks_save, is_packet, is_save, packet_reply}
use Rattle.sp_run.specs.Promises.{Follows}
use Rattle.sp_run.specs.Saving.{StoreFailed, files_of}

-- A room of the script that has this name.
pub record NamedRoom : Type 0 where
  pub name : List ℕ
  pub room : RoomState

-- A room, its script's name, the shelf, and what was counted.
abbrev pub room_at : List ℕ → RoomState → ShelfState → Counts → AtShelf NamedRoom
room_at name room files counts = at_shelf (record { name = name; room = room }) files counts

-- Its desk.
abbrev pub desk_in : NamedRoom → NamedDesk
desk_in it = record { name = it.name; memory = it.room.desk }

abbrev pub desk_of_room : AtShelf NamedRoom → AtShelf NamedDesk
desk_of_room at = at_shelf (desk_in at.it) at.shelf at.counts

-- What was read of a line, without the seat.
abbrev pub seatless : Result RoomLineOf FaultOf → Result CommandOf FaultOf
seatless (Ok it) = Ok it.command
seatless (Err fault) = Err fault

-- The line asks to save.
abbrev pub seat_saves : List ℕ → Bool
seat_saves line = asks_save (seatless (room_line_of_line line))

-- ---- what becomes of a room where no store fails

abbrev pub saved_room : RoomState → RoomStep
saved_room room = room_step_to room (saved (digest_of room.desk.state.lines))

abbrev pub packet_room : RoomState → RoomStep
packet_room room = room_step_to room (packet_reply room.desk.state)

-- A command that isn't to save: the packet, or what the room does.
abbrev pub other_room : RoomState → RoomLineOf → RoomStep
other_room room it = if is_packet it.command then packet_room room else room_step_of room it

-- What becomes of a room by what was read of a line, and the reply: a line that is no command of a seat changes nothing.
abbrev pub room_line_step_by : RoomState → Result RoomLineOf FaultOf → RoomStep
room_line_step_by room (Ok it) = if is_save it.command then saved_room room else other_room room it
room_line_step_by room (Err fault) = room_step_to room (refused (unreadable fault))

abbrev pub room_line_step : RoomState → List ℕ → RoomStep
room_line_step room line = room_line_step_by room (room_line_of_line line)

-- The line of a step's reply, with the version after it.
abbrev pub step_line : RoomStep → List ℕ
step_line step = room_reply_line step.reply step.after.version

-- Lines answered in order, where no store fails: the room after each, and the bytes of the reply.
abbrev pub answered_room_line : RoomState → List ℕ → Answered RoomState
answered_room_line room line = record { after = (room_line_step room line).after; reply = step_line (room_line_step room line) }

abbrev pub answered_room_lines : RoomState → List (List ℕ) → List (Answered RoomState)
answered_room_lines room lines = answered_in_order answered_room_line room lines

-- ---- how a line is answered

-- What was read of a line was done: the step of the room, or the save.
pub record SeatIsDone (before : AtShelf NamedRoom) (asked : Result RoomLineOf FaultOf) (after : AtShelf NamedRoom) (reply : ReplyOf) : Type 0 where
  pub step : room_step_to after.it.room reply ≡ room_line_step_by before.it.room asked
  pub name : after.it.name ≡ before.it.name
  pub stores : Stores (asks_save (seatless asked)) (desk_of_room before) (desk_of_room after)

-- A save that wasn't done, since a store failed; the room is as it was.
pub record SeatIsUnsaved (before : AtShelf NamedRoom) (asked : Result RoomLineOf FaultOf) (after : AtShelf NamedRoom) (reply : ReplyOf) : Type 0 where
  pub asks : asks_save (seatless asked) ≡ true
  pub same : after.it ≡ before.it
  pub told : reply ≡ refused shelf
  pub failed : StoreFailed (files_of before.it.name before.it.room.desk.state) before.shelf after.shelf

-- How a room replies to what was read of a line.
abbrev pub SeatReplies : AtShelf NamedRoom → Result RoomLineOf FaultOf → AtShelf NamedRoom → ReplyOf → Type 0
SeatReplies before asked after reply = SeatIsDone before asked after reply ⊎ SeatIsUnsaved before asked after reply

-- How a room answers a line.
pub record AnswersRoomLine (before : AtShelf NamedRoom) (line : List ℕ) (after : AtShelf NamedRoom) (bytes : List ℕ) : Type 0 where
  pub reply : ReplyOf
  pub is : bytes ≡ room_reply_line reply after.it.room.version
  pub replies : SeatReplies before (room_line_of_line line) after reply
  pub counts : SeatCounts before.it.room (room_line_of_line line) before.counts after.counts
  pub follows : Follows before.it.room.desk after.it.room.desk

-- How want of memory leaves a room and its shelf, for what the line asks or for the line of the reply: the room is as it was.
pub record SeatStops (before : AtShelf NamedRoom) (asked : Result RoomLineOf FaultOf) (after : AtShelf NamedRoom) : Type 0 where
  pub room : after.it.room ≡ before.it.room
  pub name : after.it.name ≡ before.it.name
  pub leaves : Leaves (asks_save (seatless asked)) (desk_of_room before) (desk_of_room after)

pub record StopsAtRoomLine (before : AtShelf NamedRoom) (line : List ℕ) (after : AtShelf NamedRoom) : Type 0 where
  pub stops : SeatStops before (room_line_of_line line) after
  pub counts : SeatCountsAtMost before.it.room (room_line_of_line line) before.counts after.counts
