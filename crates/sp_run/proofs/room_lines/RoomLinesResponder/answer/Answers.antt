use Rattle.spec_wire.specs.Lines.{room_line_of_line}
use Rattle.spec_session.specs.Runs.{counts_of}
use Rattle.sp_run.proofs.SeatLaws.{seat-at-most, seat-undone}
use Rattle.sp_run.proofs.Replies.{err-with, on-err}
use Rattle.sp_run.proofs.Seats.{seat-none-stops, seat-plain, seat-stops}
use Rattle.sp_run.proofs.room_lines.RoomLinesResponder.answer.Goals as goal

pub write_room_reply-requires : goal.write_room_reply-requires
write_room_reply-requires g c = record { buffer = c.in_ok-buffer.ensures; plain = seat-plain _ _ _ _ c.in_ok-reply.ensures.reply }

pub returns-in_err-buffer-clause-no_memory : goal.returns-in_err-buffer-clause-no_memory
returns-in_err-buffer-clause-no_memory g c =
    on-err c.from_residual.result (record {
      stops = seat-none-stops _ _;
      counts = seat-undone c.args.self.now.room (room_line_of_line c.args.line.now) (counts_of (g.S.Steps.reads c.args.steps.now) (g.S.Steps.fills c.args.steps.now));
    })

pub returns-clause-no_memory : goal.returns-clause-no_memory
returns-clause-no_memory g c =
    rw (← c.self.view_is)
    (err-with c.write_room_reply.result c.write_room_reply.ensures.unchanged
    (λ told. record {
      stops = seat-stops _ _ _ _ told (c.in_ok-reply.ensures.unchanged told) c.in_ok-reply.ensures.reply;
      counts = seat-at-most c.self.inside.room (room_line_of_line c.args.line.now) (counts_of (g.S.Steps.reads c.args.steps.now) (g.S.Steps.fills c.args.steps.now))
          (counts_of (g.S.Steps.reads c.reply_to_room_line.new.steps) (g.S.Steps.fills c.reply_to_room_line.new.steps)) c.in_ok-reply.ensures.counts;
    }))
