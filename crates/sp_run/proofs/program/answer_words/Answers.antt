use Rattle.sp_run.proofs.Answering.{of-form, of-none}
use Rattle.sp_run.specs.World.{world}
use Rattle.sp_run.proofs.program.answer_words.Goals as goal

pub returns-in-None : goal.returns-in-None
returns-in-None g c =
    let was = c.args in
    let before = world g.I.Source.state g.O.Sink.state g.F.Shelf.state g.S.Steps.reads g.S.Steps.fills was.input.now was.output.now was.shelf.now was.steps.now in
    of-none _ _ _ _ c.args.words.now before c.in-None.ensures.asked

pub returns-in-Some : goal.returns-in-Some
returns-in-Some g c = of-form _ _ _ _ _ c.args.words.now _ _ _ c.in-Some.ensures.asked c.answer_form.ensures
