-- What lines of seats count, by how they are answered.
use Rattle.std.proofs.Common.{◌≡◌, true, Result, Ok, Err, refl, sym, ap, subst}
use Rattle.spec_wire.specs.Commands.{CommandOf, FaultOf, RoomLineOf, save, packet}
use Rattle.spec_wire.specs.Replies.{RefusalOf, refused}
use Rattle.spec_room.specs.Kinds.{Kind, kind_of, command_at}
use Rattle.spec_room.specs.Rooms.{RoomState, RoomStep, asked_of, room_step_to, room_step_by, room_step_of}
use Rattle.spec_session.specs.Runs.{Counts}
use Rattle.sp_desk.specs.Reads.{CommandReads}
use Rattle.sp_desk.specs.Fills.{CommandFills}
use Rattle.sp_room.specs.Counts.{OfAsked, RoomReads, RoomFills}
use Rattle.sp_room.proofs.Counting.{of-any}
use Rattle.sp_run.specs.CountedLines.{CommandCounts, CommandCountsAtMost}
use Rattle.sp_run.specs.DeskLines.{is_save, is_packet}
use Rattle.sp_run.proofs.CountLaws.{counts-at-most, lacking-counts, none-counts, refused-counts, taken-counts}
use Rattle.sp_run.specs.SeatCounted.{SeatCounts, SeatCountsAtMost}

-- Where neither count rose they are the same.
same-counts : (from to : Counts) → to.reads ≡ from.reads → to.fills ≡ from.fills → to ≡ from
same-counts from to reads fills = λ i. record { reads = reads i; fills = fills i }

pub seat-taken : (T E : Type 0) (room : RoomState) (it : RoomLineOf) (value : T) (from to : Counts) → RoomReads {E = E} room it (Ok value) from.reads to.reads
    → RoomFills {E = E} room it (Ok value) from.fills to.fills → SeatCounts room (Ok it) from to
seat-taken T E room it value from to = by (asked_of room it.seat it.seen (kind_of it.command))
  where
    by : (asked : Result Kind RefusalOf) → OfAsked (λ command. CommandReads {E = E} room.desk.state command (Ok value) from.reads to.reads) (to.reads ≡ from.reads) it.command asked
        → OfAsked (λ command. CommandFills {E = E} room.desk.state command (Ok value) from.fills to.fills) (to.fills ≡ from.fills) it.command asked
        → OfAsked (λ command. CommandCounts room.desk command from to) (to ≡ from) it.command asked
    by (Ok kind) reads fills = taken-counts T E room.desk (command_at it.command kind) value from to reads fills
    by (Err reason) reads fills = same-counts from to reads fills

pub seat-refused : (T E : Type 0) (room : RoomState) (it : RoomLineOf) (new : RoomState) (reason : RefusalOf) (error : E) (from to : Counts) → room_step_to new (refused reason) ≡ room_step_of room it
    → RoomReads {T = T} room it (Err error) from.reads to.reads → RoomFills {T = T} room it (Err error) from.fills to.fills → SeatCounts room (Ok it) from to
seat-refused T E room it new reason error from to = by (asked_of room it.seat it.seen (kind_of it.command))
  where
    by : (asked : Result Kind RefusalOf) → room_step_to new (refused reason) ≡ room_step_by room it asked
        → OfAsked (λ command. CommandReads {T = T} room.desk.state command (Err error) from.reads to.reads) (to.reads ≡ from.reads) it.command asked
        → OfAsked (λ command. CommandFills {T = T} room.desk.state command (Err error) from.fills to.fills) (to.fills ≡ from.fills) it.command asked
        → OfAsked (λ command. CommandCounts room.desk command from to) (to ≡ from) it.command asked
    by (Ok kind) is reads fills = refused-counts T E room.desk (command_at it.command kind) reason error from to (ap (λ (s : RoomStep). s.reply) is) reads fills
    by (Err other) is reads fills = same-counts from to reads fills

pub seat-lacking : (T E : Type 0) (room : RoomState) (it : RoomLineOf) (error : E) (from to : Counts) → RoomReads {T = T} room it (Err error) from.reads to.reads
    → RoomFills {T = T} room it (Err error) from.fills to.fills → SeatCountsAtMost room (Ok it) from to
seat-lacking T E room it error from to = by (asked_of room it.seat it.seen (kind_of it.command))
  where
    by : (asked : Result Kind RefusalOf) → OfAsked (λ command. CommandReads {T = T} room.desk.state command (Err error) from.reads to.reads) (to.reads ≡ from.reads) it.command asked
        → OfAsked (λ command. CommandFills {T = T} room.desk.state command (Err error) from.fills to.fills) (to.fills ≡ from.fills) it.command asked
        → OfAsked (λ command. CommandCountsAtMost room.desk command from to) (to ≡ from) it.command asked
    by (Ok kind) reads fills = lacking-counts T E room.desk (command_at it.command kind) error from to reads fills
    by (Err reason) reads fills = same-counts from to reads fills

pub seat-at-most : (room : RoomState) (asked : Result RoomLineOf FaultOf) (from to : Counts) → SeatCounts room asked from to → SeatCountsAtMost room asked from to
seat-at-most room (Ok it) from to = by (asked_of room it.seat it.seen (kind_of it.command))
  where
    by : (asked : Result Kind RefusalOf) → OfAsked (λ command. CommandCounts room.desk command from to) (to ≡ from) it.command asked
        → OfAsked (λ command. CommandCountsAtMost room.desk command from to) (to ≡ from) it.command asked
    by (Ok kind) counts = counts-at-most room.desk (command_at it.command kind) from to counts
    by (Err reason) same = same
seat-at-most room (Err fault) from to = λ same. same

pub seat-undone : (room : RoomState) (asked : Result RoomLineOf FaultOf) (counts : Counts) → SeatCountsAtMost room asked counts counts
seat-undone room (Ok it) counts =
    of-any (λ command. CommandCountsAtMost room.desk command counts counts) (counts ≡ counts) it.command (asked_of room it.seat it.seen (kind_of it.command)) (λ command. none-counts room.desk command counts) refl
seat-undone room (Err fault) counts = refl

-- A save and a packet.
pub seat-save : (room : RoomState) (it : RoomLineOf) (counts : Counts) → is_save it.command ≡ true → SeatCounts room (Ok it) counts counts
seat-save room it counts = by it.command
  where
    by : (command : CommandOf) → is_save command ≡ true → OfAsked (λ asked. CommandCounts room.desk asked counts counts) (counts ≡ counts) command (asked_of room it.seat it.seen (kind_of command))
    by save is = record { reads = refl; fills = refl }
    by command is = absurd (let bad : ⊥ = cc in bad)

pub seat-packet : (room : RoomState) (it : RoomLineOf) (counts : Counts) → is_packet it.command ≡ true → SeatCounts room (Ok it) counts counts
seat-packet room it counts = by it.command
  where
    by : (command : CommandOf) → is_packet command ≡ true → OfAsked (λ asked. CommandCounts room.desk asked counts counts) (counts ≡ counts) command (asked_of room it.seat it.seen (kind_of command))
    by packet is = record { reads = refl; fills = refl }
    by command is = absurd (let bad : ⊥ = cc in bad)

-- What is no command.
pub seat-unread : (room : RoomState) (asked : Result RoomLineOf FaultOf) (fault : FaultOf) (counts : Counts) → asked ≡ Err fault → SeatCounts room asked counts counts
seat-unread room asked fault counts is = subst (λ (it : Result RoomLineOf FaultOf). SeatCounts room it counts counts) (sym is) refl
