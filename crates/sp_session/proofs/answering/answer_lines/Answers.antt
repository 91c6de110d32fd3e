use Rattle.std.proofs.Common.{[], ◌∷◌, ◌++◌, ap, arith}
use Rattle.std.proofs.lemmas.Grind.{common_steps}
use Rattle.spec_session.specs.Runs.{at_shelf, counts_of}
use Rattle.spec_session.specs.Sessions.{streams}
use Rattle.sp_session.specs.CutState.{CutState}
use Rattle.sp_session.proofs.HandedLaws.{none-handed, handed-more, all-handed, last-handed}
use Rattle.sp_session.proofs.SessionLaws.{none-answered, answered, whole-comes, last-comes, ends-unbegun, ends-lent, ends-done, ends-stop}
use Rattle.sp_session.proofs.answering.answer_lines.Goals as goal

pub returns-in-Err : goal.returns-in-Err
returns-in-Err g c =
    ends-unbegun g.R.Responder.answers g.R.Responder.stops (streams (g.I.Source.state c.args.input.now) (g.O.Sink.state c.args.output.now)) (at_shelf c.args.responder.now (g.F.Shelf.state c.args.shelf.now) (counts_of (g.S.Steps.reads c.args.steps.now) (g.S.Steps.fills c.args.steps.now)))

pub loop-responder-init : goal.loop-responder-init
loop-responder-init g c =
    let lasts = c.requires.lasts in (
      [],
      none-handed (g.I.Source.state c.args.input.now) c.in-Ok.lines (ap (λ (s : CutState). s.pending) c.in-Ok.ensures) (ap (λ (s : CutState). s.count) c.in-Ok.ensures),
      none-answered g.R.Responder.answers (g.O.Sink.state c.args.output.now) (at_shelf c.args.responder.now (g.F.Shelf.state c.args.shelf.now) (counts_of (g.S.Steps.reads c.args.steps.now) (g.S.Steps.fills c.args.steps.now))),
      omega (arith, lasts),
    )

pub returns-in-Ok-End : goal.returns-in-Ok-End
returns-in-Ok-End g c =
    let (lines, handed, done, lasts) = c.loop-responder.invariant in
    let asks = rw c.in-Ok-End.field-0-is at c.in-Ok-End.ensures.next in
    ends-done g.R.Responder.answers g.R.Responder.stops (g.I.Source.state c.args.input.now) (g.I.Source.state c.next.new.input) (g.O.Sink.state c.args.output.now) (g.O.Sink.state c.loop-responder.output)
    (at_shelf c.args.responder.now (g.F.Shelf.state c.args.shelf.now) (counts_of (g.S.Steps.reads c.args.steps.now) (g.S.Steps.fills c.args.steps.now))) (at_shelf c.loop-responder.responder (g.F.Shelf.state c.loop-responder.shelf) (counts_of (g.S.Steps.reads c.loop-responder.steps) (g.S.Steps.fills c.loop-responder.steps))) lines
    (all-handed (g.I.Source.state c.args.input.now) (g.I.Source.state c.loop-responder.input) (g.I.Source.state c.next.new.input) lines c.loop-responder.lines c.next.new.self asks.read handed asks.gave asks.comes.1
    asks.comes.0)
    done

pub returns-in-Err-next : goal.returns-in-Err-next
returns-in-Err-next g c =
    let (lines, handed, done, lasts) = c.loop-responder.invariant in
    rw c.end_of.ensures
    (ends-stop g.R.Responder.answers g.R.Responder.stops (g.I.Source.state c.args.input.now) (g.I.Source.state c.loop-responder.input) (g.I.Source.state c.next.new.input)
    (g.O.Sink.state c.args.output.now) (g.O.Sink.state c.loop-responder.output) (at_shelf c.args.responder.now (g.F.Shelf.state c.args.shelf.now) (counts_of (g.S.Steps.reads c.args.steps.now) (g.S.Steps.fills c.args.steps.now))) (at_shelf c.loop-responder.responder (g.F.Shelf.state c.loop-responder.shelf) (counts_of (g.S.Steps.reads c.loop-responder.steps) (g.S.Steps.fills c.loop-responder.steps))) lines c.loop-responder.lines c.next.new.self c.in-Err-next.stop handed
    c.in-Err-next.ensures.next done)

pub loop-responder-preserved : goal.loop-responder-preserved
loop-responder-preserved g c =
    let (lines, handed, done, lasts) = c.loop-responder.invariant in
    let asks = rw c.in-Ok-Whole.field-0-is at c.in-Ok-Whole.ensures.next in
    let reply = rw c.line.ensures at c.in_default.ensures.answers in (
      lines ++ c.next.new.self.line ∷ [],
      handed-more (g.I.Source.state c.args.input.now) (g.I.Source.state c.loop-responder.input) (g.I.Source.state c.next.new.input) lines c.loop-responder.lines c.next.new.self asks.read handed asks.gave
          asks.comes.1 asks.comes.0 asks.budget,
      answered g.R.Responder.answers g.R.Responder.stops (g.O.Sink.state c.args.output.now) (g.O.Sink.state c.loop-responder.output) (g.O.Sink.state c.answer_line.new.output)
          (at_shelf c.args.responder.now (g.F.Shelf.state c.args.shelf.now) (counts_of (g.S.Steps.reads c.args.steps.now) (g.S.Steps.fills c.args.steps.now))) (at_shelf c.loop-responder.responder (g.F.Shelf.state c.loop-responder.shelf) (counts_of (g.S.Steps.reads c.loop-responder.steps) (g.S.Steps.fills c.loop-responder.steps))) (at_shelf c.answer_line.new.responder (g.F.Shelf.state c.answer_line.new.shelf) (counts_of (g.S.Steps.reads c.answer_line.new.steps) (g.S.Steps.fills c.answer_line.new.steps))) lines c.next.new.self.line c.in_default.field-0 done reply,
      omega (arith, asks.comes.0.line.count, c.in_default.ensures.lasts_on, lasts),
    )

pub returns-in-Err-answer_line : goal.returns-in-Err-answer_line
returns-in-Err-answer_line g c =
    let (lines, handed, done, lasts) = c.loop-responder.invariant in
    let asks = rw c.in-Ok-Whole.field-0-is at c.in-Ok-Whole.ensures.next in
    ends-lent g.R.Responder.answers g.R.Responder.stops (g.I.Source.state c.args.input.now) (g.I.Source.state c.next.new.input) (g.O.Sink.state c.args.output.now)
    (g.O.Sink.state c.loop-responder.output) (g.O.Sink.state c.answer_line.new.output) (at_shelf c.args.responder.now (g.F.Shelf.state c.args.shelf.now) (counts_of (g.S.Steps.reads c.args.steps.now) (g.S.Steps.fills c.args.steps.now))) (at_shelf c.loop-responder.responder (g.F.Shelf.state c.loop-responder.shelf) (counts_of (g.S.Steps.reads c.loop-responder.steps) (g.S.Steps.fills c.loop-responder.steps))) (at_shelf c.answer_line.new.responder (g.F.Shelf.state c.answer_line.new.shelf) (counts_of (g.S.Steps.reads c.answer_line.new.steps) (g.S.Steps.fills c.answer_line.new.steps))) lines c.next.new.self.line
    c.line.result.now c.in-Err-answer_line.end c.line.ensures
    (whole-comes (g.I.Source.state c.args.input.now) (g.I.Source.state c.next.new.input) lines c.next.new.self.line c.next.new.self
    (handed-more (g.I.Source.state c.args.input.now) (g.I.Source.state c.loop-responder.input) (g.I.Source.state c.next.new.input) lines c.loop-responder.lines c.next.new.self asks.read handed asks.gave
    asks.comes.1 asks.comes.0 asks.budget))
    done c.in-Err-answer_line.ensures.answers

pub returns-in-Err-answer_line-2 : goal.returns-in-Err-answer_line-2
returns-in-Err-answer_line-2 g c =
    let (lines, handed, done, lasts) = c.loop-responder.invariant in
    let asks = rw c.in-Ok-Last.field-0-is at c.in-Ok-Last.ensures.next in
    ends-lent g.R.Responder.answers g.R.Responder.stops (g.I.Source.state c.args.input.now) (g.I.Source.state c.next.new.input) (g.O.Sink.state c.args.output.now)
    (g.O.Sink.state c.loop-responder.output) (g.O.Sink.state c.answer_line-in-Ok-Last.new.output) (at_shelf c.args.responder.now (g.F.Shelf.state c.args.shelf.now) (counts_of (g.S.Steps.reads c.args.steps.now) (g.S.Steps.fills c.args.steps.now))) (at_shelf c.loop-responder.responder (g.F.Shelf.state c.loop-responder.shelf) (counts_of (g.S.Steps.reads c.loop-responder.steps) (g.S.Steps.fills c.loop-responder.steps))) (at_shelf c.answer_line-in-Ok-Last.new.responder (g.F.Shelf.state c.answer_line-in-Ok-Last.new.shelf) (counts_of (g.S.Steps.reads c.answer_line-in-Ok-Last.new.steps) (g.S.Steps.fills c.answer_line-in-Ok-Last.new.steps))) lines
    c.next.new.self.line c.line-in-Ok-Last.result.now c.in-Err-answer_line-2.end c.line-in-Ok-Last.ensures
    (last-comes (g.I.Source.state c.args.input.now) (g.I.Source.state c.next.new.input) lines c.next.new.self.line
    (last-handed (g.I.Source.state c.args.input.now) (g.I.Source.state c.loop-responder.input) (g.I.Source.state c.next.new.input) lines c.loop-responder.lines c.next.new.self asks.read handed asks.gave
    asks.comes.1 asks.comes.0))
    done c.in-Err-answer_line-2.ensures.answers

pub returns-in-Ok-Last : goal.returns-in-Ok-Last
returns-in-Ok-Last g c =
    let (lines, handed, done, lasts) = c.loop-responder.invariant in
    let asks = rw c.in-Ok-Last.field-0-is at c.in-Ok-Last.ensures.next in
    let reply = rw c.line-in-Ok-Last.ensures at c.in_default-answer_line.ensures.answers in
    ends-done g.R.Responder.answers g.R.Responder.stops (g.I.Source.state c.args.input.now) (g.I.Source.state c.next.new.input) (g.O.Sink.state c.args.output.now)
    (g.O.Sink.state c.answer_line-in-Ok-Last.new.output) (at_shelf c.args.responder.now (g.F.Shelf.state c.args.shelf.now) (counts_of (g.S.Steps.reads c.args.steps.now) (g.S.Steps.fills c.args.steps.now))) (at_shelf c.answer_line-in-Ok-Last.new.responder (g.F.Shelf.state c.answer_line-in-Ok-Last.new.shelf) (counts_of (g.S.Steps.reads c.answer_line-in-Ok-Last.new.steps) (g.S.Steps.fills c.answer_line-in-Ok-Last.new.steps))) (lines ++ c.next.new.self.line ∷ [])
    (last-handed (g.I.Source.state c.args.input.now) (g.I.Source.state c.loop-responder.input) (g.I.Source.state c.next.new.input) lines c.loop-responder.lines c.next.new.self asks.read handed asks.gave
    asks.comes.1 asks.comes.0)
    (answered g.R.Responder.answers g.R.Responder.stops (g.O.Sink.state c.args.output.now) (g.O.Sink.state c.loop-responder.output) (g.O.Sink.state c.answer_line-in-Ok-Last.new.output)
    (at_shelf c.args.responder.now (g.F.Shelf.state c.args.shelf.now) (counts_of (g.S.Steps.reads c.args.steps.now) (g.S.Steps.fills c.args.steps.now))) (at_shelf c.loop-responder.responder (g.F.Shelf.state c.loop-responder.shelf) (counts_of (g.S.Steps.reads c.loop-responder.steps) (g.S.Steps.fills c.loop-responder.steps))) (at_shelf c.answer_line-in-Ok-Last.new.responder (g.F.Shelf.state c.answer_line-in-Ok-Last.new.shelf) (counts_of (g.S.Steps.reads c.answer_line-in-Ok-Last.new.steps) (g.S.Steps.fills c.answer_line-in-Ok-Last.new.steps))) lines c.next.new.self.line c.in_default-answer_line.field-0 done reply)

pub loop-responder-smaller : goal.loop-responder-smaller
loop-responder-smaller g c = grind (arith, common_steps)
