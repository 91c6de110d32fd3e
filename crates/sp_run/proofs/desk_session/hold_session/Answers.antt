use Rattle.std.proofs.Common.{sym, ap, refl, subst}
use Rattle.spec_session.specs.Runs.{at_shelf, counts_of}
use Rattle.spec_session.specs.Sessions.{SessionEnds, streams}
use Rattle.std.specs.declared.option.Option.{Option}
use Rattle.sp_kit.specs.Files.{Files}
use Rattle.sp_kit.specs.Outside.{SourceState}
use Rattle.sp_run.specs.DeskLines.{AnswersLine, StopsAtLine, desk_at}
use Rattle.sp_run.specs.Records.{records_name}
use Rattle.sp_run.specs.Saving.{Changes, KeepsAllBut}
use Rattle.sp_run.specs.DeskEnding.{DeskEnds, HeldSession}
use Rattle.sp_run.specs.Unopened.{outside}
use Rattle.sp_run.specs.Asking.{CommandsAsk}
use Rattle.sp_run.proofs.AskedSessions.{ended-asks, opened-asks, unopened-asks}
use Rattle.sp_run.proofs.DeskSessions.{by_desk}
use Rattle.sp_run.proofs.HeldSessions.{session-held, held-ends, held-others, unopened-ends}
use Rattle.sp_run.proofs.Stores.{changes-none, keeps-itself}
use Rattle.sp_run.proofs.desk_session.hold_session.Goals as goal

pub returns-in-Err-clause-ends : goal.returns-in-Err-clause-ends
returns-in-Err-clause-ends g c =
    let from = counts_of (g.S.Steps.reads c.args.steps.now) (g.S.Steps.fills c.args.steps.now) in
    let to = counts_of (g.S.Steps.reads c.open_desk.new.steps) (g.S.Steps.fills c.open_desk.new.steps) in
    let old = outside (g.I.Source.state c.args.input.now) (g.O.Sink.state c.args.output.now) (g.F.Shelf.state c.args.shelf.now) in
    let new = outside (g.I.Source.state c.open_desk.new.input) (g.O.Sink.state c.args.output.now) (g.F.Shelf.state c.open_desk.new.shelf) in
    unopened-ends (HeldSession c.args.name.now old new from to) c.args.name.now old new from to c.in-Err.status (c.in-Err.ensures.refused (g.O.Sink.state c.args.output.now)) c.in-Err.ensures.uncounted

pub returns-in-Err-clause-others : goal.returns-in-Err-clause-others
returns-in-Err-clause-others g c =
    let name = c.args.name.now in
    changes-none _ _ (λ (old new : Files). KeepsAllBut old new name (records_name name)) (λ files. keeps-itself files name (records_name name)) c.open_desk.ensures.files_kept

pub returns-clause-ends : goal.returns-clause-ends
returns-clause-ends g c =
    let from = counts_of (g.S.Steps.reads c.args.steps.now) (g.S.Steps.fills c.args.steps.now) in
    let opened = counts_of (g.S.Steps.reads c.open_desk.new.steps) (g.S.Steps.fills c.open_desk.new.steps) in
    let to = counts_of (g.S.Steps.reads c.session-ended.new.steps) (g.S.Steps.fills c.session-ended.new.steps) in
    let old = outside (g.I.Source.state c.args.input.now) (g.O.Sink.state c.args.output.now) (g.F.Shelf.state c.args.shelf.now) in
    let new = outside (g.I.Source.state c.session-ended.new.input) (g.O.Sink.state c.session-ended.new.output) (g.F.Shelf.state c.session-ended.new.shelf) in
    let between = g.F.Shelf.state c.open_desk.new.shelf in
    let after = at_shelf c.session-ended.new.responder (g.F.Shelf.state c.session-ended.new.shelf) to in
    let ends = subst (λ (source : SourceState). SessionEnds AnswersLine StopsAtLine (streams source old.sink) (streams new.source new.sink) (desk_at c.args.name.now c.in-Ok.desk between opened) after c.session-ended.result)
    (ap g.I.Source.state c.open_desk.ensures.source_kept) c.session-ended.ensures.ends in
    let held = session-held by_desk c.args.name.now old new from opened to between c.in-Ok.desk after c.session-ended.result c.in-Ok.ensures.opened c.in-Ok.ensures.counts ends refl refl in
    subst (DeskEnds c.args.name.now old new from to) (sym c.from.ensures) (held-ends (HeldSession c.args.name.now old new from to) c.args.name.now old new from to c.session-ended.result held)

pub returns-clause-others : goal.returns-clause-others
returns-clause-others g c =
    let from = counts_of (g.S.Steps.reads c.args.steps.now) (g.S.Steps.fills c.args.steps.now) in
    let opened = counts_of (g.S.Steps.reads c.open_desk.new.steps) (g.S.Steps.fills c.open_desk.new.steps) in
    let to = counts_of (g.S.Steps.reads c.session-ended.new.steps) (g.S.Steps.fills c.session-ended.new.steps) in
    let old = outside (g.I.Source.state c.open_desk.new.input) (g.O.Sink.state c.args.output.now) (g.F.Shelf.state c.args.shelf.now) in
    let new = outside (g.I.Source.state c.session-ended.new.input) (g.O.Sink.state c.session-ended.new.output) (g.F.Shelf.state c.session-ended.new.shelf) in
    let between = g.F.Shelf.state c.open_desk.new.shelf in
    let after = at_shelf c.session-ended.new.responder (g.F.Shelf.state c.session-ended.new.shelf) to in
    let name = c.args.name.now in
    subst (λ (files : Option Files). Changes files after.shelf.files (λ (one other : Files). KeepsAllBut one other name (records_name name))) c.open_desk.ensures.files_kept
    (held-others by_desk name c.in-Ok.desk between opened old new after c.session-ended.result c.session-ended.ensures.ends)

pub returns-in-Err-clause-asks : goal.returns-in-Err-clause-asks
returns-in-Err-clause-asks g c =
    let sink = g.O.Sink.state c.args.output.now in
    let old = outside (g.I.Source.state c.args.input.now) sink (g.F.Shelf.state c.args.shelf.now) in
    let new = outside (g.I.Source.state c.open_desk.new.input) sink (g.F.Shelf.state c.open_desk.new.shelf) in
    unopened-asks c.args.name.now old new c.in-Err.status (c.in-Err.ensures.refused sink) c.in-Err.ensures.asks

pub returns-clause-asks : goal.returns-clause-asks
returns-clause-asks g c =
    let name = c.args.name.now in
    let opened = counts_of (g.S.Steps.reads c.open_desk.new.steps) (g.S.Steps.fills c.open_desk.new.steps) in
    let to = counts_of (g.S.Steps.reads c.session-ended.new.steps) (g.S.Steps.fills c.session-ended.new.steps) in
    let shelf = g.F.Shelf.state c.args.shelf.now in
    let before = desk_at name c.in-Ok.desk (g.F.Shelf.state c.open_desk.new.shelf) opened in
    let after = at_shelf c.session-ended.new.responder (g.F.Shelf.state c.session-ended.new.shelf) to in
    let begun = streams (g.I.Source.state c.open_desk.new.input) (g.O.Sink.state c.args.output.now) in
    let ended = streams (g.I.Source.state c.session-ended.new.input) (g.O.Sink.state c.session-ended.new.output) in
    subst (CommandsAsk name shelf after.shelf) (sym c.from.ensures)
    (ended-asks name shelf after.shelf c.session-ended.result (opened-asks by_desk name shelf begun ended before after c.session-ended.result refl c.session-ended.ensures.ends c.in-Ok.ensures.asks))
