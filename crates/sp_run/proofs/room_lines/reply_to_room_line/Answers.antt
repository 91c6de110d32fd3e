use Rattle.std.proofs.Common.{Result, refl, sym, subst}
use Rattle.std.specs.Prelude.{OnErr, OnOk}
use Rattle.spec_wire.specs.Commands.{FaultOf, RoomLineOf}
use Rattle.spec_wire.specs.Lines.{room_line_of_line}
use Rattle.spec_machine.specs.KeptMemories.{IsWholeMemory}
use Rattle.spec_locked_pages.specs.Chains.{AreLinked}
use Rattle.spec_session.specs.Runs.{counts_of}
use Rattle.sp_run.specs.SeatCounted.{SeatCounts, SeatCountsAtMost}
use Rattle.sp_run.proofs.SeatLaws.{seat-undone, seat-unread}
use Rattle.sp_run.proofs.Seats.{same-follows}
use Rattle.sp_run.proofs.room_lines.reply_to_room_line.Goals as goal

pub returns-in-Err-BadJson-clause-follows : goal.returns-in-Err-BadJson-clause-follows
returns-in-Err-BadJson-clause-follows g c =
    same-follows c.args.room.now c.args.room.now refl (subst IsWholeMemory c.desk.ensures c.sheets-sheets.ensures.whole) (subst AreLinked c.desk.ensures c.sheets-sheets.ensures.linked)

pub returns-in-Err-UnknownCommand-clause-follows : goal.returns-in-Err-UnknownCommand-clause-follows
returns-in-Err-UnknownCommand-clause-follows g c =
    same-follows c.args.room.now c.args.room.now refl (subst IsWholeMemory c.desk.ensures c.sheets-sheets.ensures.whole) (subst AreLinked c.desk.ensures c.sheets-sheets.ensures.linked)

pub returns-in-Err-BadField-clause-follows : goal.returns-in-Err-BadField-clause-follows
returns-in-Err-BadField-clause-follows g c =
    same-follows c.args.room.now c.args.room.now refl (subst IsWholeMemory c.desk.ensures c.sheets-sheets.ensures.whole) (subst AreLinked c.desk.ensures c.sheets-sheets.ensures.linked)

pub returns-in-Err-NoMemory-clause-follows : goal.returns-in-Err-NoMemory-clause-follows
returns-in-Err-NoMemory-clause-follows g c =
    same-follows c.args.room.now c.args.room.now refl (subst IsWholeMemory c.desk.ensures c.sheets-sheets.ensures.whole) (subst AreLinked c.desk.ensures c.sheets-sheets.ensures.linked)

pub returns-in-Ok-clause-counts : goal.returns-in-Ok-clause-counts
returns-in-Ok-clause-counts g c =
    subst (λ (asked : Result RoomLineOf FaultOf). OnOk c.reply_to_seat.result (SeatCounts c.args.room.now asked (counts_of (g.S.Steps.reads c.args.steps.now) (g.S.Steps.fills c.args.steps.now)) (counts_of (g.S.Steps.reads c.reply_to_seat.new.steps) (g.S.Steps.fills c.reply_to_seat.new.steps)))) (sym c.in-Ok.ensures.answer) c.reply_to_seat.ensures.counts

pub returns-in-Ok-clause-at_most : goal.returns-in-Ok-clause-at_most
returns-in-Ok-clause-at_most g c =
    subst (λ (asked : Result RoomLineOf FaultOf). OnErr c.reply_to_seat.result (SeatCountsAtMost c.args.room.now asked (counts_of (g.S.Steps.reads c.args.steps.now) (g.S.Steps.fills c.args.steps.now)) (counts_of (g.S.Steps.reads c.reply_to_seat.new.steps) (g.S.Steps.fills c.reply_to_seat.new.steps)))) (sym c.in-Ok.ensures.answer) c.reply_to_seat.ensures.at_most

pub returns-in-Err-BadJson-clause-counts : goal.returns-in-Err-BadJson-clause-counts
returns-in-Err-BadJson-clause-counts g c =
    let unread = rw c.in-Err-BadJson.field-0-is at c.in-Err-BadJson.ensures.answer in
    seat-unread c.args.room.now (room_line_of_line c.args.line.now) _ (counts_of (g.S.Steps.reads c.args.steps.now) (g.S.Steps.fills c.args.steps.now)) unread

pub returns-in-Err-UnknownCommand-clause-counts : goal.returns-in-Err-UnknownCommand-clause-counts
returns-in-Err-UnknownCommand-clause-counts g c =
    let unread = rw c.in-Err-UnknownCommand.field-0-is at c.in-Err-UnknownCommand.ensures.answer in
    seat-unread c.args.room.now (room_line_of_line c.args.line.now) _ (counts_of (g.S.Steps.reads c.args.steps.now) (g.S.Steps.fills c.args.steps.now)) unread

pub returns-in-Err-BadField-clause-counts : goal.returns-in-Err-BadField-clause-counts
returns-in-Err-BadField-clause-counts g c =
    let unread = rw c.in-Err-BadField.field-0-is at c.in-Err-BadField.ensures.answer in
    seat-unread c.args.room.now (room_line_of_line c.args.line.now) _ (counts_of (g.S.Steps.reads c.args.steps.now) (g.S.Steps.fills c.args.steps.now)) unread

pub returns-in-Err-NoMemory-clause-at_most : goal.returns-in-Err-NoMemory-clause-at_most
returns-in-Err-NoMemory-clause-at_most g c = seat-undone c.args.room.now (room_line_of_line c.args.line.now) (counts_of (g.S.Steps.reads c.args.steps.now) (g.S.Steps.fills c.args.steps.now))
