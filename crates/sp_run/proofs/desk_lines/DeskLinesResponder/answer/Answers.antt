use Rattle.std.proofs.Common.{◌≡◌}
use Rattle.std.proofs.lemmas.Result.{IfOk-weaker}
use Rattle.spec_session.specs.Runs.{counts_of}
use Rattle.spec_wire.specs.Lines.{command_of_line}
use Rattle.spec_wire.specs.Replies.{reply_line}
use Rattle.sp_wire.specs.Values.{reply_of}
use Rattle.sp_run.proofs.CountLaws.{line-at-most, line-undone}
use Rattle.sp_run.proofs.Replies.{err-with, none-stops, on-err, replied-plain, undone-stops}
use Rattle.sp_run.proofs.desk_lines.DeskLinesResponder.answer.Goals as goal

pub write_reply-requires : goal.write_reply-requires
write_reply-requires g c = record { buffer = c.in_ok-buffer.ensures; plain = replied-plain _ _ _ _ c.in_ok-reply.ensures.reply }

pub returns-in_err-buffer-clause-no_memory : goal.returns-in_err-buffer-clause-no_memory
returns-in_err-buffer-clause-no_memory g c =
    on-err c.from_residual.result (record {
      stops = none-stops _ _;
      counts = line-undone c.args.self.now.memory (command_of_line c.args.line.now) (counts_of (g.S.Steps.reads c.args.steps.now) (g.S.Steps.fills c.args.steps.now));
    })

pub returns-clause-no_memory : goal.returns-clause-no_memory
returns-clause-no_memory g c =
    rw (← c.self.view_is)
    (err-with c.write_reply.result c.write_reply.ensures.unchanged
    (λ undone. record { stops = undone-stops _ _ _ _ undone c.in_ok-reply.ensures.reply; counts = line-at-most _ _ _ _ c.in_ok-reply.ensures.counts }))

pub returns-clause-reply : goal.returns-clause-reply
returns-clause-reply g c =
    rw (← c.self.view_is)
    (IfOk-weaker c.write_reply.result (λ line. line.items ≡ reply_line (reply_of c.in_ok-reply.reply)) _
    (λ line is. record {
      reply = reply_of c.in_ok-reply.reply;
      is = is;
      replies = c.in_ok-reply.ensures.reply;
      counts = c.in_ok-reply.ensures.counts;
      follows = record { whole = c.sheets-sheets.ensures.whole; linked = c.sheets-sheets.ensures.linked; lost = c.reply_to_line.ensures.lost };
    }) c.write_reply.ensures.line)
