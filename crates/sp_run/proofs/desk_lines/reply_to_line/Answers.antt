use Rattle.std.proofs.Common.{Result, sym, subst, rules}
use Rattle.std.specs.Prelude.{OnErr, OnOk}
use Rattle.spec_wire.specs.Commands.{CommandOf, FaultOf}
use Rattle.spec_wire.specs.Lines.{command_of_line}
use Rattle.spec_machine.proofs.MachineLaws.{all-stay}
use Rattle.spec_session.specs.Runs.{counts_of}
use Rattle.sp_run.specs.CountedLines.{LineCounts, LineCountsAtMost}
use Rattle.sp_run.proofs.CountLaws.{line-undone, line-unread}
use Rattle.sp_run.proofs.desk_lines.reply_to_line.Goals as goal

pub returns-in-Err-BadJson-clause-lost : goal.returns-in-Err-BadJson-clause-lost
returns-in-Err-BadJson-clause-lost g c = all-stay _

pub returns-in-Err-UnknownCommand-clause-lost : goal.returns-in-Err-UnknownCommand-clause-lost
returns-in-Err-UnknownCommand-clause-lost g c = all-stay _

pub returns-in-Err-BadField-clause-lost : goal.returns-in-Err-BadField-clause-lost
returns-in-Err-BadField-clause-lost g c = all-stay _

pub returns-in-Err-NoMemory-clause-lost : goal.returns-in-Err-NoMemory-clause-lost
returns-in-Err-NoMemory-clause-lost g c = all-stay _

pub returns-in-Ok-clause-counts : goal.returns-in-Ok-clause-counts
returns-in-Ok-clause-counts g c =
    subst (λ (asked : Result CommandOf FaultOf). OnOk c.reply_to_command.result (LineCounts c.args.desk.now asked (counts_of (g.S.Steps.reads c.args.steps.now) (g.S.Steps.fills c.args.steps.now)) (counts_of (g.S.Steps.reads c.reply_to_command.new.steps) (g.S.Steps.fills c.reply_to_command.new.steps)))) (sym c.in-Ok.ensures.answer) c.reply_to_command.ensures.counts

pub returns-in-Ok-clause-at_most : goal.returns-in-Ok-clause-at_most
returns-in-Ok-clause-at_most g c =
    subst (λ (asked : Result CommandOf FaultOf). OnErr c.reply_to_command.result (LineCountsAtMost c.args.desk.now asked (counts_of (g.S.Steps.reads c.args.steps.now) (g.S.Steps.fills c.args.steps.now)) (counts_of (g.S.Steps.reads c.reply_to_command.new.steps) (g.S.Steps.fills c.reply_to_command.new.steps)))) (sym c.in-Ok.ensures.answer) c.reply_to_command.ensures.at_most

pub returns-in-Err-BadJson-clause-counts : goal.returns-in-Err-BadJson-clause-counts
returns-in-Err-BadJson-clause-counts g c =
    let unread = rw c.in-Err-BadJson.field-0-is at c.in-Err-BadJson.ensures.answer in
    line-unread c.args.desk.now (command_of_line c.args.line.now) _ (counts_of (g.S.Steps.reads c.args.steps.now) (g.S.Steps.fills c.args.steps.now)) unread

pub returns-in-Err-UnknownCommand-clause-counts : goal.returns-in-Err-UnknownCommand-clause-counts
returns-in-Err-UnknownCommand-clause-counts g c =
    let unread = rw c.in-Err-UnknownCommand.field-0-is at c.in-Err-UnknownCommand.ensures.answer in
    line-unread c.args.desk.now (command_of_line c.args.line.now) _ (counts_of (g.S.Steps.reads c.args.steps.now) (g.S.Steps.fills c.args.steps.now)) unread

pub returns-in-Err-BadField-clause-counts : goal.returns-in-Err-BadField-clause-counts
returns-in-Err-BadField-clause-counts g c =
    let unread = rw c.in-Err-BadField.field-0-is at c.in-Err-BadField.ensures.answer in
    line-unread c.args.desk.now (command_of_line c.args.line.now) _ (counts_of (g.S.Steps.reads c.args.steps.now) (g.S.Steps.fills c.args.steps.now)) unread

pub returns-in-Err-NoMemory-clause-at_most : goal.returns-in-Err-NoMemory-clause-at_most
returns-in-Err-NoMemory-clause-at_most g c = line-undone c.args.desk.now (command_of_line c.args.line.now) (counts_of (g.S.Steps.reads c.args.steps.now) (g.S.Steps.fills c.args.steps.now))

pub returns-in-Err-UnknownCommand-clause-reply : goal.returns-in-Err-UnknownCommand-clause-reply
returns-in-Err-UnknownCommand-clause-reply g c = search rules
