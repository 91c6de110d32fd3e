use Rattle.std.proofs.Common.{subst, rules}
use Rattle.spec_machine.specs.KeptMemories.{IsWholeMemory}
use Rattle.spec_locked_pages.specs.Chains.{AreLinked}
use Rattle.sp_run.proofs.Seats.{answer-follows, answer-undone}
use Rattle.sp_run.proofs.room_lines.ask_room.Goals as goal

pub returns-clause-follows : goal.returns-clause-follows
returns-clause-follows g c =
    answer-follows c.args.room.now _ c.apply-answer.new.self c.apply-answer.result c.apply-answer.ensures.step c.apply-answer.ensures.same (subst IsWholeMemory c.desk.ensures c.sheets-before.ensures.whole)
    (subst IsWholeMemory c.desk-2.ensures c.sheets-after.ensures.whole) (subst AreLinked c.desk-2.ensures c.sheets-after.ensures.linked)

pub returns-clause-step : goal.returns-clause-step
returns-clause-step g c = search rules

pub returns-clause-reads : goal.returns-clause-reads
returns-clause-reads g c = search rules

pub returns-clause-fills : goal.returns-clause-fills
returns-clause-fills g c = search rules

pub returns-clause-unchanged : goal.returns-clause-unchanged
returns-clause-unchanged g c = answer-undone c.args.room.now _ c.apply-answer.new.self c.apply-answer.result c.apply-answer.ensures.step c.apply-answer.ensures.looks
