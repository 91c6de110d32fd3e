use Rattle.std.proofs.Common.{◌≡◌, ℕ, List, Some, None, refl}
use Rattle.std.specs.Prelude.{IfSome}
use Rattle.std.specs.declared.option.Option.{Option}
use Rattle.spec_session.specs.Runs.{at_shelf, counts_of}
use Rattle.spec_session.proofs.EndLaws.{ends-tell, ends-settle, settles-kept}
use Rattle.sp_session.proofs.answering.session.Goals as goal

-- What holds of an input where it is told.
told : (unread : Option (List ℕ)) (P : List ℕ → Type 0) → ((input : List ℕ) → unread ≡ Some input → P input) → IfSome unread P
told None P holds = tt
told (Some input) P holds = holds input refl

pub returns-clause-tells : goal.returns-clause-tells
returns-clause-tells g c =
    told (g.I.Source.state c.args.input.now).unread _ (ends-tell g.R.Responder.answers g.R.Responder.stops _ _ (at_shelf c.args.responder.now (g.F.Shelf.state c.args.shelf.now) (counts_of (g.S.Steps.reads c.args.steps.now) (g.S.Steps.fills c.args.steps.now))) (at_shelf c.answer_lines.new.responder (g.F.Shelf.state c.answer_lines.new.shelf) (counts_of (g.S.Steps.reads c.answer_lines.new.steps) (g.S.Steps.fills c.answer_lines.new.steps))) c.answer_lines.result c.answer_lines.ensures)

pub returns-clause-settles : goal.returns-clause-settles
returns-clause-settles g c = λ calm.
    told (g.I.Source.state c.args.input.now).unread _ (ends-settle g.R.Responder.answers g.R.Responder.stops _ _ (at_shelf c.args.responder.now (g.F.Shelf.state c.args.shelf.now) (counts_of (g.S.Steps.reads c.args.steps.now) (g.S.Steps.fills c.args.steps.now))) (at_shelf c.answer_lines.new.responder (g.F.Shelf.state c.answer_lines.new.shelf) (counts_of (g.S.Steps.reads c.answer_lines.new.steps) (g.S.Steps.fills c.answer_lines.new.steps))) c.answer_lines.result c.answer_lines.ensures calm)

pub returns-clause-complete : goal.returns-clause-complete
returns-clause-complete g c = λ calm.
    told (g.I.Source.state c.args.input.now).unread _ (λ input is.
    settles-kept input c.answer_lines.result
    (ends-settle g.R.Responder.answers g.R.Responder.stops _ _ (at_shelf c.args.responder.now (g.F.Shelf.state c.args.shelf.now) (counts_of (g.S.Steps.reads c.args.steps.now) (g.S.Steps.fills c.args.steps.now))) (at_shelf c.answer_lines.new.responder (g.F.Shelf.state c.answer_lines.new.shelf) (counts_of (g.S.Steps.reads c.answer_lines.new.steps) (g.S.Steps.fills c.answer_lines.new.steps))) c.answer_lines.result c.answer_lines.ensures calm input is))
