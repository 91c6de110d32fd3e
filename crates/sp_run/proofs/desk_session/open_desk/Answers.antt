use Rattle.std.proofs.Common.{inr, subst, sym}
use Rattle.spec_machine.specs.Machine.{Memory}
use Rattle.spec_session.specs.Runs.{counts_of}
use Rattle.sp_run.specs.Forms.{from_file}
use Rattle.sp_run.specs.CountedLines.{NotOpenedCounts}
use Rattle.sp_run.specs.Counted.{OpeningCounts}
use Rattle.sp_run.proofs.CountLaws.{none-opened}
use Rattle.sp_run.specs.Unopened.{Unopened, outside}
use Rattle.sp_run.specs.declared.status.Status.TheVariants as statuses
use Rattle.sp_run.proofs.Asked.{err-asks, lacking-asks}
use Rattle.sp_run.proofs.OpenedStates.{err-is}
use Rattle.sp_run.proofs.Openings.{had-unopened, has-state}
use Rattle.sp_run.proofs.desk_session.open_desk.Goals as goal

pub returns-in_err-opened-clause-refused : goal.returns-in_err-opened-clause-refused
returns-in_err-opened-clause-refused g c = λ sink.
    let old = outside (g.I.Source.state c.args.input.now) sink (g.F.Shelf.state c.args.shelf.now) in
    let new = outside (g.I.Source.state c.open_state.new.input) sink (g.F.Shelf.state c.open_state.new.shelf) in
    err-is (Unopened (from_file c.args.name.now) old new) c.in_err-opened.field-0.0 c.from_residual.result c.from_residual.ensures.1 (c.in_err-opened.ensures.refused sink)

pub returns-in_err-desk-clause-refused : goal.returns-in_err-desk-clause-refused
returns-in_err-desk-clause-refused g c = λ sink.
    let old = outside (g.I.Source.state c.args.input.now) sink (g.F.Shelf.state c.args.shelf.now) in
    let new = outside (g.I.Source.state c.open_state.new.input) sink (g.F.Shelf.state c.open_state.new.shelf) in
    err-is (Unopened (from_file c.args.name.now) old new) statuses.NoMemory c.from_residual-in_err-desk.result c.from_residual-in_err-desk.ensures.1
    (had-unopened _ _ _ sink _ _ _ c.in_ok-opened.ensures.had)

pub returns-in_err-opened-clause-uncounted : goal.returns-in_err-opened-clause-uncounted
returns-in_err-opened-clause-uncounted g c =
    let shelf = g.F.Shelf.state c.args.shelf.now in
    let from = counts_of (g.S.Steps.reads c.args.steps.now) (g.S.Steps.fills c.args.steps.now) in
    err-is (NotOpenedCounts shelf c.args.name.now from from) c.in_err-opened.field-0.0 c.from_residual.result c.from_residual.ensures.1 (none-opened shelf c.args.name.now from c.in_err-opened.field-0.0)

pub returns-in_err-desk-clause-uncounted : goal.returns-in_err-desk-clause-uncounted
returns-in_err-desk-clause-uncounted g c =
    let from = counts_of (g.S.Steps.reads c.args.steps.now) (g.S.Steps.fills c.args.steps.now) in
    let to = counts_of (g.S.Steps.reads c.open.new.steps) (g.S.Steps.fills c.open.new.steps) in
    err-is (NotOpenedCounts (g.F.Shelf.state c.args.shelf.now) c.args.name.now from to) statuses.NoMemory c.from_residual-in_err-desk.result c.from_residual-in_err-desk.ensures.1
    (inr (_, has-state c.args.name.now _ _ _ _ _ c.in_ok-opened.ensures.had, record { reads = c.open.ensures.at_most; fills = c.open.ensures.fills_at_most }))

pub returns-clause-opened : goal.returns-clause-opened
returns-clause-opened g c =
    let had = c.in_ok-opened.ensures.had in
    record { state = _; has = has-state c.args.name.now _ _ _ _ _ had; same = had.had.1; asks = c.in_ok-opened.ensures.asks; is = c.in_ok-desk.ensures.memory; whole = c.sheets-sheets.ensures.whole; linked = c.sheets-sheets.ensures.linked }

pub returns-clause-counts : goal.returns-clause-counts
returns-clause-counts g c =
    let from = counts_of (g.S.Steps.reads c.args.steps.now) (g.S.Steps.fills c.args.steps.now) in
    let to = counts_of (g.S.Steps.reads c.open.new.steps) (g.S.Steps.fills c.open.new.steps) in
    subst (λ (memory : Memory). OpeningCounts memory.state from to) (sym c.in_ok-desk.ensures.memory) (record { reads = c.in_ok-desk.ensures.reads; fills = c.in_ok-desk.ensures.fills })

pub returns-in_err-opened-clause-asks : goal.returns-in_err-opened-clause-asks
returns-in_err-opened-clause-asks g c =
    err-asks (from_file c.args.name.now) (g.F.Shelf.state c.args.shelf.now) (g.F.Shelf.state c.open_state.new.shelf) c.in_err-opened.field-0.0 c.from_residual.result c.from_residual.ensures.1 c.in_err-opened.ensures.asks

pub returns-in_err-desk-clause-asks : goal.returns-in_err-desk-clause-asks
returns-in_err-desk-clause-asks g c =
    let old = g.F.Shelf.state c.args.shelf.now in
    let new = g.F.Shelf.state c.open_state.new.shelf in
    err-asks (from_file c.args.name.now) old new statuses.NoMemory c.from_residual-in_err-desk.result c.from_residual-in_err-desk.ensures.1 (lacking-asks c.args.name.now old new c.in_ok-opened.ensures.asks)

pub returns-clause-asks : goal.returns-clause-asks
returns-clause-asks g c = c.in_ok-opened.ensures.asks
