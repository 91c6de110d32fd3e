-- What a room answers to a seat's command (docs/RULES.md, "The room").
use Rattle.std.specs.Prelude.{◌≡◌, ℕ, List, OnOk}
use Rattle.std.specs.declared.result.Result.{Result}
use Rattle.std.specs.declared.result.Result.TheVariants.{Ok, Err}
use Rattle.spec_wire.specs.Commands.{CommandOf, RoomLineOf}
use Rattle.spec_wire.specs.Replies.{refused}
use Rattle.spec_room.specs.Changes.{Text}
use Rattle.spec_room.specs.Kinds.{kind_of}
use Rattle.spec_room.specs.Standing.{StandsFor, KeepsSeen, texts_after}
use Rattle.spec_room.specs.Rooms.{RoomState, room_step_to, room_step_of}
use Rattle.sp_wire.specs.declared.reply.Reply.{Reply}
use Rattle.sp_wire.specs.Values.{reply_of, refusal_of}
use Rattle.sp_desk.specs.declared.fault.DeskFault.{DeskFault}
use Rattle.sp_desk.specs.declared.fault.DeskFault.TheVariants.{Refused, NoMemory}

-- A seat's command, with the version that it saw.
abbrev pub line_of : List ℕ → ℕ → CommandOf → RoomLineOf
line_of seat seen command = record { seat = seat; seen = seen; command = command }

-- What became of the room and the answer are the step of the room; for want of memory nothing is changed.
abbrev pub IsRoomAnswer : RoomState → RoomLineOf → RoomState → Result Reply DeskFault → Type 0
IsRoomAnswer old it new (Ok reply) = room_step_to new (reply_of reply) ≡ room_step_of old it
IsRoomAnswer old it new (Err (Refused reason)) = room_step_to new (refused (refusal_of reason)) ≡ room_step_of old it
IsRoomAnswer old it new (Err NoMemory) = new ≡ old

-- An answered command took away or changed just those of these texts' lines that its seat saw; and texts that stood for a room stand for it
-- still, with the one after the command.
abbrev pub KeepsSeenLines : {T E : Type 0} → RoomState → ℕ → CommandOf → RoomState → Result T E → Type 0
KeepsSeenLines old seen command new result = (texts : List Text) → StandsFor old texts → OnOk result (KeepsSeen old texts seen (kind_of command) new)

abbrev pub KeepsTexts : {T E : Type 0} → RoomState → CommandOf → RoomState → Result T E → Type 0
KeepsTexts old command new result = (texts : List Text) → StandsFor old texts → OnOk result (StandsFor new (texts_after texts (kind_of command) new.desk.state.lines))
