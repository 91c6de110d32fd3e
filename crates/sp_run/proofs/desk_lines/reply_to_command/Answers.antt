use Rattle.std.proofs.Common.{Ok, ap, sym, rules}
use Rattle.spec_machine.specs.Answers.{Step}
use Rattle.spec_machine.proofs.MachineLaws.{all-stay}
use Rattle.spec_session.specs.Runs.{counts_of}
use Rattle.sp_wire.specs.declared.reply.Reply.{Reply}
use Rattle.sp_wire.specs.Values.{command_of, refusal_of}
use Rattle.sp_desk.specs.declared.fault.DeskFault.{DeskFault}
use Rattle.sp_run.proofs.CountLaws.{lacking-counts, line-undone, packet-counts, refused-counts, save-counts, taken-counts}
use Rattle.sp_run.proofs.Replies.{on-err, on-ok}
use Rattle.sp_run.proofs.desk_lines.reply_to_command.Goals as goal

pub returns-then-is_save-clause-lost : goal.returns-then-is_save-clause-lost
returns-then-is_save-clause-lost g c = all-stay _

pub returns-then-is_packet-clause-lost : goal.returns-then-is_packet-clause-lost
returns-then-is_packet-clause-lost g c = all-stay _

pub returns-then-is_save-clause-counts : goal.returns-then-is_save-clause-counts
returns-then-is_save-clause-counts g c = on-ok c.save_desk.result (save-counts c.args.desk.now (command_of c.args.command) (counts_of (g.S.Steps.reads c.args.steps.now) (g.S.Steps.fills c.args.steps.now)) (sym c.if-is_save.ensures))

pub returns-then-is_save-clause-at_most : goal.returns-then-is_save-clause-at_most
returns-then-is_save-clause-at_most g c = on-err c.save_desk.result (line-undone c.args.desk.now (Ok (command_of c.args.command)) (counts_of (g.S.Steps.reads c.args.steps.now) (g.S.Steps.fills c.args.steps.now)))

pub returns-then-is_packet-clause-counts : goal.returns-then-is_packet-clause-counts
returns-then-is_packet-clause-counts g c = on-ok c.packet_reply.result (packet-counts c.args.desk.now (command_of c.args.command) (counts_of (g.S.Steps.reads c.args.steps.now) (g.S.Steps.fills c.args.steps.now)) (sym c.if-is_packet.ensures))

pub returns-then-is_packet-clause-at_most : goal.returns-then-is_packet-clause-at_most
returns-then-is_packet-clause-at_most g c = on-err c.packet_reply.result (line-undone c.args.desk.now (Ok (command_of c.args.command)) (counts_of (g.S.Steps.reads c.args.steps.now) (g.S.Steps.fills c.args.steps.now)))

pub returns-in-Ok-clause-counts : goal.returns-in-Ok-clause-counts
returns-in-Ok-clause-counts g c =
    taken-counts Reply DeskFault c.args.desk.now (command_of c.args.command) c.in-Ok.reply (counts_of (g.S.Steps.reads c.args.steps.now) (g.S.Steps.fills c.args.steps.now)) (counts_of (g.S.Steps.reads c.apply.new.steps) (g.S.Steps.fills c.apply.new.steps)) c.in-Ok.ensures.reads c.in-Ok.ensures.fills

pub returns-in-Err-Refused-clause-counts : goal.returns-in-Err-Refused-clause-counts
returns-in-Err-Refused-clause-counts g c =
    let it = rw c.in-Err-Refused.field-0-is at c.in-Err-Refused.ensures.step in
    refused-counts Reply DeskFault c.args.desk.now (command_of c.args.command) (refusal_of c.in-Err-Refused.reason) c.in-Err-Refused.field-0 (counts_of (g.S.Steps.reads c.args.steps.now) (g.S.Steps.fills c.args.steps.now)) (counts_of (g.S.Steps.reads c.apply.new.steps) (g.S.Steps.fills c.apply.new.steps))
    (ap (λ (s : Step). s.reply) it) c.in-Err-Refused.ensures.reads c.in-Err-Refused.ensures.fills

pub returns-in-Err-NoMemory-clause-at_most : goal.returns-in-Err-NoMemory-clause-at_most
returns-in-Err-NoMemory-clause-at_most g c =
    lacking-counts Reply DeskFault c.args.desk.now (command_of c.args.command) c.in-Err-NoMemory.field-0 (counts_of (g.S.Steps.reads c.args.steps.now) (g.S.Steps.fills c.args.steps.now)) (counts_of (g.S.Steps.reads c.apply.new.steps) (g.S.Steps.fills c.apply.new.steps)) c.in-Err-NoMemory.ensures.reads c.in-Err-NoMemory.ensures.fills

pub returns-in-Ok-clause-reply : goal.returns-in-Ok-clause-reply
returns-in-Ok-clause-reply g c = search rules

pub returns-in-Err-Refused-clause-reply : goal.returns-in-Err-Refused-clause-reply
returns-in-Err-Refused-clause-reply g c = search rules

pub returns-in-Err-NoMemory-clause-stops : goal.returns-in-Err-NoMemory-clause-stops
returns-in-Err-NoMemory-clause-stops g c = search rules
