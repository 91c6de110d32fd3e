use Rattle.std.proofs.Common.{◌≡◌, List, ℕ, ◌++◌, ap, ap₂, sym, ◌∙◌}
use Rattle.spec_sheets.specs.Speakers.{text_elements}
use Rattle.spec_state.specs.StateSheets.{layout_in, rows_in, locked_starts}
use Rattle.sp_layout.specs.LaidOut.{LayoutOf, rows_before}
use Rattle.sp_layout.proofs.BreakPlaces.{break-rows}
use Rattle.sp_layout.specs.Kept.{laid_of}
use Rattle.sp_sheets.proofs.MadePages.{locked-keys}
use Rattle.sp_sheets.proofs.StopsMade.{stops-made}
use Rattle.sp_sheets.proofs.made.laid_stops.Goals as goal

pub returns : goal.returns
returns c state whole is first =
    let laid = ap laid_of c.layout.view_is ∙ is in
    let firsts : c.args.firsts.now ≡ locked_starts state.lines (rows_in state) state.pages = first ∙ sym (locked-keys state state.pages) in
    let breaks : rows_before c.layout.inside.body.elements c.deref.result.now ≡ (layout_in state).breaks =
    ap₂ rows_before (ap (λ (l : LayoutOf). l.body.elements) laid) (c.deref.ensures.value ∙ ap (λ (l : LayoutOf). l.breaks) laid) ∙ break-rows state.lines (text_elements state.speakers state.lines) in
    stops-made (λ stops. stops.items) state c.merged_stops.result (rows_before c.layout.inside.body.elements c.deref.result.now ++ c.args.firsts.now) whole
    (ap₂ (λ (a b : List ℕ). a ++ b) breaks firsts) c.merged_stops.ensures.same c.merged_stops.ensures.order
