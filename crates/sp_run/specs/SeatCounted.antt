-- How many stanzas are read and how many pages are filled where lines of seats are answered (docs/RULES.md, "Windows").
use Rattle.std.specs.Prelude.{◌≡◌}
use Rattle.std.specs.declared.result.Result.{Result}
use Rattle.std.specs.declared.result.Result.TheVariants.{Ok, Err}
use Rattle.spec_wire.specs.Commands.{FaultOf, RoomLineOf}
use Rattle.spec_room.specs.Kinds.{kind_of}
use Rattle.spec_room.specs.Rooms.{RoomState, asked_of}
use Rattle.spec_session.specs.Runs.{Counts}
use Rattle.sp_room.specs.Counts.{OfAsked}
use Rattle.sp_run.specs.CountedLines.{CommandCounts, CommandCountsAtMost}

-- What its desk does for the command at its present place, and none where the room refuses the command itself.
abbrev pub SeatCounts : RoomState → Result RoomLineOf FaultOf → Counts → Counts → Type 0
SeatCounts room (Ok it) from to = OfAsked (λ command. CommandCounts room.desk command from to) (to ≡ from) it.command (asked_of room it.seat it.seen (kind_of it.command))
SeatCounts room (Err fault) from to = to ≡ from

abbrev pub SeatCountsAtMost : RoomState → Result RoomLineOf FaultOf → Counts → Counts → Type 0
SeatCountsAtMost room (Ok it) from to = OfAsked (λ command. CommandCountsAtMost room.desk command from to) (to ≡ from) it.command (asked_of room it.seat it.seen (kind_of it.command))
SeatCountsAtMost room (Err fault) from to = to ≡ from
