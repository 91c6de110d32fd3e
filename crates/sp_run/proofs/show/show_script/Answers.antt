use Rattle.spec_session.specs.Runs.{counts_of}
use Rattle.sp_run.specs.Forms.{origin_of}
use Rattle.spec_state.specs.Keeping.{state_of}
use Rattle.sp_text.specs.Gap.{text_of}
use Rattle.sp_run.specs.Unopened.{outside}
use Rattle.sp_run.proofs.ShowCounts.{err-counts, shown-counts, shown-ends}
use Rattle.sp_run.proofs.ShowEnds.{err-ends}
use Rattle.sp_run.proofs.Asked.{err-asks, shown-asks}
use Rattle.sp_run.proofs.show.show_script.Goals as goal

pub returns-in_err-opened-clause-ends : goal.returns-in_err-opened-clause-ends
returns-in_err-opened-clause-ends g c =
    err-ends c.args.view (origin_of c.args.origin) _ _ c.in_err-opened.field-0.0 c.from_residual.result c.from_residual.ensures.1 (c.in_err-opened.ensures.refused (g.O.Sink.state c.args.output.now))

pub returns-in_err-opened-clause-counts : goal.returns-in_err-opened-clause-counts
returns-in_err-opened-clause-counts g c =
    let old = outside (g.I.Source.state c.args.input.now) (g.O.Sink.state c.args.output.now) (g.F.Shelf.state c.args.shelf.now) in
    let new = outside (g.I.Source.state c.open_state.new.input) (g.O.Sink.state c.args.output.now) (g.F.Shelf.state c.open_state.new.shelf) in
    let counts = counts_of (g.S.Steps.reads c.args.steps.now) (g.S.Steps.fills c.args.steps.now) in
    err-counts c.args.view (origin_of c.args.origin) old new counts c.in_err-opened.field-0.0 c.from_residual.result c.from_residual.ensures.1 (c.in_err-opened.ensures.refused old.sink)

pub returns-clause-ends : goal.returns-clause-ends
returns-clause-ends g c =
    let old = outside (g.I.Source.state c.args.input.now) (g.O.Sink.state c.args.output.now) (g.F.Shelf.state c.args.shelf.now) in
    let new = outside (g.I.Source.state c.open_state.new.input) (g.O.Sink.state c.show_opened.new.output) (g.F.Shelf.state c.open_state.new.shelf) in
    let from = counts_of (g.S.Steps.reads c.args.steps.now) (g.S.Steps.fills c.args.steps.now) in
    let to = counts_of (g.S.Steps.reads c.show_opened.new.steps) (g.S.Steps.fills c.show_opened.new.steps) in
    let state = state_of (text_of c.in_ok-opened.opened.lines) c.in_ok-opened.opened.records in
    shown-ends c.args.view (origin_of c.args.origin) old new state from to c.show_opened.result c.in_ok-opened.ensures.had c.show_opened.ensures

pub returns-clause-counts : goal.returns-clause-counts
returns-clause-counts g c =
    let old = outside (g.I.Source.state c.args.input.now) (g.O.Sink.state c.args.output.now) (g.F.Shelf.state c.args.shelf.now) in
    let new = outside (g.I.Source.state c.open_state.new.input) (g.O.Sink.state c.show_opened.new.output) (g.F.Shelf.state c.open_state.new.shelf) in
    let from = counts_of (g.S.Steps.reads c.args.steps.now) (g.S.Steps.fills c.args.steps.now) in
    let to = counts_of (g.S.Steps.reads c.show_opened.new.steps) (g.S.Steps.fills c.show_opened.new.steps) in
    let state = state_of (text_of c.in_ok-opened.opened.lines) c.in_ok-opened.opened.records in
    shown-counts c.args.view (origin_of c.args.origin) old new state from to c.show_opened.result c.in_ok-opened.ensures.had c.show_opened.ensures

pub returns-in_err-opened-clause-asks : goal.returns-in_err-opened-clause-asks
returns-in_err-opened-clause-asks g c =
    err-asks (origin_of c.args.origin) (g.F.Shelf.state c.args.shelf.now) (g.F.Shelf.state c.open_state.new.shelf) c.in_err-opened.field-0.0 c.from_residual.result c.from_residual.ensures.1 c.in_err-opened.ensures.asks

pub returns-clause-asks : goal.returns-clause-asks
returns-clause-asks g c =
    let from = counts_of (g.S.Steps.reads c.args.steps.now) (g.S.Steps.fills c.args.steps.now) in
    let to = counts_of (g.S.Steps.reads c.show_opened.new.steps) (g.S.Steps.fills c.show_opened.new.steps) in
    let state = state_of (text_of c.in_ok-opened.opened.lines) c.in_ok-opened.opened.records in
    shown-asks c.args.view (origin_of c.args.origin) (g.F.Shelf.state c.args.shelf.now) (g.F.Shelf.state c.open_state.new.shelf) state (g.O.Sink.state c.args.output.now) (g.O.Sink.state c.show_opened.new.output) from to c.show_opened.result
    c.in_ok-opened.ensures.asks c.show_opened.ensures
