use Rattle.std.proofs.Common.{ap}
use Rattle.spec_machine.specs.Answers.{Step}
use Rattle.sp_wire.specs.declared.reply.Reply.{Reply}
use Rattle.sp_wire.specs.Values.{command_of}
use Rattle.sp_desk.specs.declared.fault.DeskFault.{DeskFault}
use Rattle.sp_desk.proofs.OutcomeLaws.{lacking-fills, lacking-reads, refused-fills, refused-reads, taken-fills, taken-reads}
use Rattle.sp_run.proofs.sample_session.answer.Goals as goal

pub returns-in-Ok-clause-reads : goal.returns-in-Ok-clause-reads
returns-in-Ok-clause-reads g c =
    taken-reads Reply DeskFault c.args.desk.now (command_of c.args.command) _ (g.S.Steps.reads c.args.steps.now) (g.S.Steps.reads c.apply.new.steps) c.in-Ok.ensures.reads

pub returns-in-Ok-clause-fills : goal.returns-in-Ok-clause-fills
returns-in-Ok-clause-fills g c =
    taken-fills Reply DeskFault c.args.desk.now (command_of c.args.command) _ (g.S.Steps.fills c.args.steps.now) (g.S.Steps.fills c.apply.new.steps) c.in-Ok.ensures.fills

pub returns-in-Err-Refused-clause-reads : goal.returns-in-Err-Refused-clause-reads
returns-in-Err-Refused-clause-reads g c =
    let it = rw c.in-Err-Refused.field-0-is at c.in-Err-Refused.ensures.step in
    refused-reads Reply DeskFault c.args.desk.now (command_of c.args.command) _ c.in-Err-Refused.field-0 (g.S.Steps.reads c.args.steps.now) (g.S.Steps.reads c.apply.new.steps)
    (ap (λ (s : Step). s.reply) it) c.in-Err-Refused.ensures.reads

pub returns-in-Err-Refused-clause-fills : goal.returns-in-Err-Refused-clause-fills
returns-in-Err-Refused-clause-fills g c =
    let it = rw c.in-Err-Refused.field-0-is at c.in-Err-Refused.ensures.step in
    refused-fills Reply DeskFault c.args.desk.now (command_of c.args.command) _ c.in-Err-Refused.field-0 (g.S.Steps.fills c.args.steps.now) (g.S.Steps.fills c.apply.new.steps)
    (ap (λ (s : Step). s.reply) it) c.in-Err-Refused.ensures.fills

pub returns-clause-reads_at_most : goal.returns-clause-reads_at_most
returns-clause-reads_at_most g c =
    lacking-reads Reply DeskFault c.args.desk.now (command_of c.args.command) c.in-Err-NoMemory.field-0 (g.S.Steps.reads c.args.steps.now) (g.S.Steps.reads c.apply.new.steps) c.in-Err-NoMemory.ensures.reads

pub returns-clause-fills_at_most : goal.returns-clause-fills_at_most
returns-clause-fills_at_most g c =
    lacking-fills Reply DeskFault c.args.desk.now (command_of c.args.command) c.in-Err-NoMemory.field-0 (g.S.Steps.fills c.args.steps.now) (g.S.Steps.fills c.apply.new.steps) c.in-Err-NoMemory.ensures.fills
