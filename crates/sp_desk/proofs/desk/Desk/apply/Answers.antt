use Rattle.std.proofs.Common.{Result, Ok, Err}
use Rattle.std.specs.Prelude.{OnOk}
use Rattle.spec_machine.proofs.StepLaws.{Keeps}
use Rattle.spec_locked_pages.proofs.ChainLaws.{memory-keeps}
use Rattle.sp_wire.specs.Values.{command_of}
use Rattle.sp_desk.proofs.DeskSteps.{answer-Keeps, answer-pages}
use Rattle.sp_desk.proofs.desk.Desk.apply.Given.{Over}
use Rattle.sp_desk.proofs.desk.Desk.apply.Goals as goal

kept : (g : Over) (c : goal.After-sheets-after g) → Keeps c.args.self.now (command_of c.args.command) c.answer-answer.new.self
kept g c =
    answer-Keeps c.args.self.now c.answer-answer.new.self (command_of c.args.command) c.answer-answer.result c.sheets-before.ensures.whole c.sheets-after.ensures.whole c.answer-answer.ensures.step

pub returns-clause-labels : goal.returns-clause-labels
returns-clause-labels g c = ((kept g c).labelled, (kept g c).lost)

where-ok : {A E : Type 0} {P : Type 0} (result : Result A E) → P → OnOk result P
where-ok (Ok value) holds = holds
where-ok (Err error) holds = tt

pub returns-clause-opening : goal.returns-clause-opening
returns-clause-opening g c = where-ok c.answer-answer.result (kept g c).sheets

pub returns-clause-locked : goal.returns-clause-locked
returns-clause-locked g c =
    answer-pages c.args.self.now c.answer-answer.new.self (command_of c.args.command) c.answer-answer.result c.sheets-before.ensures.whole c.sheets-after.ensures.whole c.answer-answer.ensures.step

pub returns-clause-chain : goal.returns-clause-chain
returns-clause-chain g c = λ i k. memory-keeps c.answer-answer.new.self i k c.sheets-after.ensures.whole c.sheets-after.ensures.linked
