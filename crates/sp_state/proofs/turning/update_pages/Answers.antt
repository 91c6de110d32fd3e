use Rattle.std.proofs.Common.{◌≡◌, length, map, ap, sym, subst, ◌∙◌}
use Rattle.std.specs.Prelude.{OnOk}
use Rattle.spec_pages.specs.Pages.{rows_on}
use Rattle.spec_sheets.specs.Shown.{shape_of}
use Rattle.spec_records.specs.Kept.{RecordsOf}
use Rattle.spec_state.specs.State.{State}
use Rattle.spec_state.specs.StateSheets.{rows_in}
use Rattle.spec_edit.specs.PageWindows.{page_window}
use Rattle.sp_layout.specs.Bodies.{shapes_in}
use Rattle.sp_layout.specs.LaidOut.{LayoutOf}
use Rattle.sp_layout.specs.Kept.{laid_of}
use Rattle.sp_reflow.specs.Galleys.{starts_in}
use Rattle.sp_reflow.specs.Starts.{many_more}
use Rattle.sp_reflow.specs.Filling.{FilledAtMost}
use Rattle.sp_sheets.proofs.MadePages.{same-shapes}
use Rattle.sp_sheets.proofs.StopsMade.{filled-most, stops-of}
use Rattle.sp_state.proofs.RefilledLaws.{galley-is, galley-stale, galley-starts, galley-window}
use Rattle.sp_state.proofs.turning.update_pages.Goals as goal

pub new-galley-requires-clause-stops : goal.new-galley-requires-clause-stops
new-galley-requires-clause-stops g c =
    let state : State = c.args.laid.now in
    let stops = c.in_ok-stops.ensures state c.records-records.ensures.whole c.layout-layout.ensures c.firsts.ensures in
    let shapes : c.shapes.result.now.items ≡ map shape_of (rows_in state) = c.shapes.ensures ∙ ap (λ (l : LayoutOf). shapes_in l.body.elements) (ap laid_of c.layout.view_is ∙ c.layout-layout.ensures) ∙ sym (same-shapes state) in
    stops-of state c.shapes.result.now.items c.in_ok-stops.stops.items c.deref.result.now stops shapes c.deref.ensures.value

pub update-requires : goal.update-requires
update-requires g c =
    let state : State = c.args.laid.now in
    let stops = c.in_ok-stops.ensures state c.records-records.ensures.whole c.layout-layout.ensures c.firsts.ensures in
    let shapes : c.shapes.result.now.items ≡ map shape_of (rows_in state) = c.shapes.ensures ∙ ap (λ (l : LayoutOf). shapes_in l.body.elements) (ap laid_of c.layout.view_is ∙ c.layout-layout.ensures) ∙ sym (same-shapes state) in
    let body = c.rows_on.ensures ∙ ap (λ (r : RecordsOf). rows_on r.paper) (c.records.view_is ∙ c.records-records.ensures.records) in
    let galley = galley-is state c.new-galley.result c.shapes.result.now.items c.in_ok-stops.stops.items c.deref.result.now c.rows_on.result stops c.new-galley.ensures shapes c.deref.ensures.value body in
    galley-stale state c.new-galley.result c.args.rows.now c.args.pages.now.starts galley c.requires

pub returns-clause-pages : goal.returns-clause-pages
returns-clause-pages g c =
    let state : State = c.args.laid.now in
    let stops = c.in_ok-stops.ensures state c.records-records.ensures.whole c.layout-layout.ensures c.firsts.ensures in
    let shapes : c.shapes.result.now.items ≡ map shape_of (rows_in state) = c.shapes.ensures ∙ ap (λ (l : LayoutOf). shapes_in l.body.elements) (ap laid_of c.layout.view_is ∙ c.layout-layout.ensures) ∙ sym (same-shapes state) in
    let body = c.rows_on.ensures ∙ ap (λ (r : RecordsOf). rows_on r.paper) (c.records.view_is ∙ c.records-records.ensures.records) in
    let galley = galley-is state c.new-galley.result c.shapes.result.now.items c.in_ok-stops.stops.items c.deref.result.now c.rows_on.result stops c.new-galley.ensures shapes c.deref.ensures.value body in
    subst (λ ps. OnOk c.update.result (c.update.new.self.starts ≡ ps)) (galley-starts state c.new-galley.result galley) c.update.ensures.starts

pub returns-clause-fills : goal.returns-clause-fills
returns-clause-fills g c =
    let state : State = c.args.laid.now in
    let stops = c.in_ok-stops.ensures state c.records-records.ensures.whole c.layout-layout.ensures c.firsts.ensures in
    let shapes : c.shapes.result.now.items ≡ map shape_of (rows_in state) = c.shapes.ensures ∙ ap (λ (l : LayoutOf). shapes_in l.body.elements) (ap laid_of c.layout.view_is ∙ c.layout-layout.ensures) ∙ sym (same-shapes state) in
    let body = c.rows_on.ensures ∙ ap (λ (r : RecordsOf). rows_on r.paper) (c.records.view_is ∙ c.records-records.ensures.records) in
    let galley = galley-is state c.new-galley.result c.shapes.result.now.items c.in_ok-stops.stops.items c.deref.result.now c.rows_on.result stops c.new-galley.ensures shapes c.deref.ensures.value body in
    subst (λ ps. OnOk c.update.result (g.S.Steps.fills c.update.new.steps ≡ many_more (g.S.Steps.fills c.args.steps.now) (length ps)))
    (galley-window state c.new-galley.result c.args.rows.now c.args.pages.now.starts galley) c.update.ensures.fills

pub returns-clause-at_most : goal.returns-clause-at_most
returns-clause-at_most g c =
    let state : State = c.args.laid.now in
    let stops = c.in_ok-stops.ensures state c.records-records.ensures.whole c.layout-layout.ensures c.firsts.ensures in
    let shapes : c.shapes.result.now.items ≡ map shape_of (rows_in state) = c.shapes.ensures ∙ ap (λ (l : LayoutOf). shapes_in l.body.elements) (ap laid_of c.layout.view_is ∙ c.layout-layout.ensures) ∙ sym (same-shapes state) in
    let body = c.rows_on.ensures ∙ ap (λ (r : RecordsOf). rows_on r.paper) (c.records.view_is ∙ c.records-records.ensures.records) in
    let galley = galley-is state c.new-galley.result c.shapes.result.now.items c.in_ok-stops.stops.items c.deref.result.now c.rows_on.result stops c.new-galley.ensures shapes c.deref.ensures.value body in
    let made = c.new-galley.result in
    let window = page_window made.limit c.args.rows.now c.args.pages.now.starts (starts_in made) in
    subst (λ ps. FilledAtMost (g.S.Steps.fills c.args.steps.now) (g.S.Steps.fills c.update.new.steps) (length ps))
    (galley-window state made c.args.rows.now c.args.pages.now.starts galley)
    (filled-most c.update.result (g.S.Steps.fills c.args.steps.now) (g.S.Steps.fills c.update.new.steps) (length window) c.update.ensures.fills c.update.ensures.few)
