use Rattle.std.proofs.Common.{Ok, refl, sym, subst}
use Rattle.spec_machine.specs.KeptMemories.{IsWholeMemory}
use Rattle.spec_locked_pages.specs.Chains.{AreLinked}
use Rattle.spec_session.specs.Runs.{counts_of}
use Rattle.sp_wire.specs.declared.reply.Reply.{Reply}
use Rattle.sp_wire.specs.Values.{refusal_of, room_line_of}
use Rattle.sp_desk.specs.declared.fault.DeskFault.{DeskFault}
use Rattle.sp_run.proofs.SeatLaws.{seat-lacking, seat-packet, seat-refused, seat-save, seat-taken, seat-undone}
use Rattle.sp_run.proofs.Replies.{on-err, on-ok}
use Rattle.sp_run.proofs.Seats.{same-follows}
use Rattle.sp_run.proofs.room_lines.reply_to_seat.Goals as goal

pub returns-then-is_save-clause-follows : goal.returns-then-is_save-clause-follows
returns-then-is_save-clause-follows g c =
    same-follows c.args.room.now c.args.room.now refl (subst IsWholeMemory c.desk.ensures c.sheets-sheets.ensures.whole) (subst AreLinked c.desk.ensures c.sheets-sheets.ensures.linked)

pub returns-then-is_packet-clause-follows : goal.returns-then-is_packet-clause-follows
returns-then-is_packet-clause-follows g c =
    same-follows
    c.args.room.now
    c.args.room.now
    refl
    (subst IsWholeMemory c.desk-then-is_packet.ensures c.sheets-sheets-then-is_packet.ensures.whole)
    (subst AreLinked c.desk-then-is_packet.ensures c.sheets-sheets-then-is_packet.ensures.linked)

pub returns-then-is_save-clause-counts : goal.returns-then-is_save-clause-counts
returns-then-is_save-clause-counts g c = on-ok c.save_desk.result (seat-save c.args.room.now (room_line_of c.args.asked) (counts_of (g.S.Steps.reads c.args.steps.now) (g.S.Steps.fills c.args.steps.now)) (sym c.if-is_save.ensures))

pub returns-then-is_save-clause-at_most : goal.returns-then-is_save-clause-at_most
returns-then-is_save-clause-at_most g c = on-err c.save_desk.result (seat-undone c.args.room.now (Ok (room_line_of c.args.asked)) (counts_of (g.S.Steps.reads c.args.steps.now) (g.S.Steps.fills c.args.steps.now)))

pub returns-then-is_packet-clause-counts : goal.returns-then-is_packet-clause-counts
returns-then-is_packet-clause-counts g c = on-ok c.packet_reply.result (seat-packet c.args.room.now (room_line_of c.args.asked) (counts_of (g.S.Steps.reads c.args.steps.now) (g.S.Steps.fills c.args.steps.now)) (sym c.if-is_packet.ensures))

pub returns-then-is_packet-clause-at_most : goal.returns-then-is_packet-clause-at_most
returns-then-is_packet-clause-at_most g c = on-err c.packet_reply.result (seat-undone c.args.room.now (Ok (room_line_of c.args.asked)) (counts_of (g.S.Steps.reads c.args.steps.now) (g.S.Steps.fills c.args.steps.now)))

pub returns-in-Ok-clause-counts : goal.returns-in-Ok-clause-counts
returns-in-Ok-clause-counts g c =
    seat-taken Reply DeskFault c.args.room.now (room_line_of c.args.asked) c.in-Ok.reply (counts_of (g.S.Steps.reads c.args.steps.now) (g.S.Steps.fills c.args.steps.now)) (counts_of (g.S.Steps.reads c.ask_room.new.steps) (g.S.Steps.fills c.ask_room.new.steps)) c.in-Ok.ensures.reads c.in-Ok.ensures.fills

pub returns-in-Err-Refused-clause-counts : goal.returns-in-Err-Refused-clause-counts
returns-in-Err-Refused-clause-counts g c =
    let it = rw c.in-Err-Refused.field-0-is at c.in-Err-Refused.ensures.step in
    seat-refused Reply DeskFault c.args.room.now (room_line_of c.args.asked) c.ask_room.new.room (refusal_of c.in-Err-Refused.reason) c.in-Err-Refused.field-0 (counts_of (g.S.Steps.reads c.args.steps.now) (g.S.Steps.fills c.args.steps.now)) (counts_of (g.S.Steps.reads c.ask_room.new.steps) (g.S.Steps.fills c.ask_room.new.steps))
    it c.in-Err-Refused.ensures.reads c.in-Err-Refused.ensures.fills

pub returns-in-Err-NoMemory-clause-at_most : goal.returns-in-Err-NoMemory-clause-at_most
returns-in-Err-NoMemory-clause-at_most g c =
    seat-lacking Reply DeskFault c.args.room.now (room_line_of c.args.asked) c.in-Err-NoMemory.field-0 (counts_of (g.S.Steps.reads c.args.steps.now) (g.S.Steps.fills c.args.steps.now)) (counts_of (g.S.Steps.reads c.ask_room.new.steps) (g.S.Steps.fills c.ask_room.new.steps)) c.in-Err-NoMemory.ensures.reads c.in-Err-NoMemory.ensures.fills
