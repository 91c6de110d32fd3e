-- How many stanzas a room reads and how many pages it fills for a seat's command (docs/RULES.md, "Windows").
use Rattle.std.specs.Prelude.{◌≡◌, ℕ}
use Rattle.std.specs.declared.result.Result.{Result}
use Rattle.std.specs.declared.result.Result.TheVariants.{Ok, Err}
use Rattle.spec_wire.specs.Commands.{CommandOf, RoomLineOf}
use Rattle.spec_wire.specs.Replies.{RefusalOf}
use Rattle.spec_room.specs.Kinds.{Kind, kind_of, command_at}
use Rattle.spec_room.specs.Rooms.{RoomState, asked_of}
use Rattle.sp_desk.specs.Reads.{CommandReads}
use Rattle.sp_desk.specs.Fills.{CommandFills}

-- What holds of the command that a room asks of its desk, an edit at its present place, or where it refuses the command itself.
abbrev pub OfAsked : (CommandOf → Type 0) → Type 0 → CommandOf → Result Kind RefusalOf → Type 0
OfAsked asked refused command (Ok kind) = asked (command_at command kind)
OfAsked asked refused command (Err reason) = refused

-- As many as its desk does for the command that the room asks of it, and none where the room refuses the command itself.
abbrev pub RoomReads : {T E : Type 0} → RoomState → RoomLineOf → Result T E → ℕ → ℕ → Type 0
RoomReads room it result reads reads' =
    OfAsked (λ command. CommandReads room.desk.state command result reads reads') (reads' ≡ reads) it.command (asked_of room it.seat it.seen (kind_of it.command))

abbrev pub RoomFills : {T E : Type 0} → RoomState → RoomLineOf → Result T E → ℕ → ℕ → Type 0
RoomFills room it result fills fills' =
    OfAsked (λ command. CommandFills room.desk.state command result fills fills') (fills' ≡ fills) it.command (asked_of room it.seat it.seen (kind_of it.command))
