use Rattle.std.proofs.Common.{◌≡◌, length, map, ap, sym, subst, ◌∙◌}
use Rattle.std.specs.Prelude.{OnOk}
use Rattle.spec_pages.specs.Pages.{page_starts, rows_on}
use Rattle.spec_sheets.specs.Shown.{shape_of}
use Rattle.spec_records.specs.Kept.{RecordsOf}
use Rattle.spec_state.specs.State.{State}
use Rattle.spec_state.specs.StateSheets.{rows_in}
use Rattle.spec_locked_pages.specs.Segments.{pages_of}
use Rattle.sp_layout.specs.Bodies.{shapes_in}
use Rattle.sp_layout.specs.LaidOut.{LayoutOf}
use Rattle.sp_reflow.specs.Starts.{many_more}
use Rattle.sp_reflow.specs.Filling.{FilledAtMost}
use Rattle.sp_layout.specs.Kept.{laid_of}
use Rattle.sp_sheets.proofs.MadePages.{same-shapes, shows-same}
use Rattle.sp_sheets.proofs.StopsMade.{filled-most, starts-of, stops-of}
use Rattle.sp_sheets.proofs.made.make_pages.Goals as goal

pub new-requires-clause-stops : goal.new-requires-clause-stops
new-requires-clause-stops g c =
    let state : State = c.args.laid.now in
    let laid = ap laid_of c.layout.view_is ∙ c.layout-layout.ensures in
    let shapes : c.shapes.result.now.items ≡ map shape_of (rows_in state) = c.shapes.ensures ∙ ap (λ (l : LayoutOf). shapes_in l.body.elements) laid ∙ sym (same-shapes state) in
    stops-of state c.shapes.result.now.items c.in_ok-stops.stops.items c.deref.result.now (c.in_ok-stops.ensures state c.records-records.ensures.whole c.layout-layout.ensures c.firsts.ensures) shapes c.deref.ensures.value

pub returns-clause-pages : goal.returns-clause-pages
returns-clause-pages g c =
    let state : State = c.args.laid.now in
    let laid = ap laid_of c.layout.view_is ∙ c.layout-layout.ensures in
    let shapes : c.shapes.result.now.items ≡ map shape_of (rows_in state) = c.shapes.ensures ∙ ap (λ (l : LayoutOf). shapes_in l.body.elements) laid ∙ sym (same-shapes state) in
    let body = c.rows_on.ensures ∙ ap (λ (r : RecordsOf). rows_on r.paper) (c.records.view_is ∙ c.records-records.ensures.records) in
    shows-same (λ pages. pages.starts) c.new.result (page_starts c.rows_on.result c.shapes.result.now.items c.deref.result.now) (pages_of state)
    (starts-of state c.rows_on.result c.shapes.result.now.items c.in_ok-stops.stops.items c.deref.result.now (c.in_ok-stops.ensures state c.records-records.ensures.whole c.layout-layout.ensures c.firsts.ensures) body shapes c.deref.ensures.value) c.new.ensures.starts

pub returns-clause-fills : goal.returns-clause-fills
returns-clause-fills g c =
    let state : State = c.args.laid.now in
    let laid = ap laid_of c.layout.view_is ∙ c.layout-layout.ensures in
    let shapes : c.shapes.result.now.items ≡ map shape_of (rows_in state) = c.shapes.ensures ∙ ap (λ (l : LayoutOf). shapes_in l.body.elements) laid ∙ sym (same-shapes state) in
    let body = c.rows_on.ensures ∙ ap (λ (r : RecordsOf). rows_on r.paper) (c.records.view_is ∙ c.records-records.ensures.records) in
    subst (λ ps. OnOk c.new.result (g.S.Steps.fills c.new.new.steps ≡ many_more (g.S.Steps.fills c.args.steps.now) (length ps)))
    (starts-of state c.rows_on.result c.shapes.result.now.items c.in_ok-stops.stops.items c.deref.result.now (c.in_ok-stops.ensures state c.records-records.ensures.whole c.layout-layout.ensures c.firsts.ensures) body shapes c.deref.ensures.value) c.new.ensures.fills

pub returns-clause-at_most : goal.returns-clause-at_most
returns-clause-at_most g c =
    let state : State = c.args.laid.now in
    let laid = ap laid_of c.layout.view_is ∙ c.layout-layout.ensures in
    let shapes : c.shapes.result.now.items ≡ map shape_of (rows_in state) = c.shapes.ensures ∙ ap (λ (l : LayoutOf). shapes_in l.body.elements) laid ∙ sym (same-shapes state) in
    let body = c.rows_on.ensures ∙ ap (λ (r : RecordsOf). rows_on r.paper) (c.records.view_is ∙ c.records-records.ensures.records) in
    subst (λ ps. FilledAtMost (g.S.Steps.fills c.args.steps.now) (g.S.Steps.fills c.new.new.steps) (length ps))
    (starts-of state c.rows_on.result c.shapes.result.now.items c.in_ok-stops.stops.items c.deref.result.now (c.in_ok-stops.ensures state c.records-records.ensures.whole c.layout-layout.ensures c.firsts.ensures) body shapes c.deref.ensures.value)
    (filled-most c.new.result (g.S.Steps.fills c.args.steps.now) (g.S.Steps.fills c.new.new.steps) (length (page_starts c.rows_on.result c.shapes.result.now.items c.deref.result.now)) c.new.ensures.fills c.new.ensures.few)
