use Rattle.std.proofs.Common.{map, ap, sym, ◌∙◌}
use Rattle.spec_sheets.specs.Shown.{shape_of}
use Rattle.spec_state.specs.Keeping.{state_of}
use Rattle.spec_state.specs.State.{State}
use Rattle.spec_state.specs.StateSheets.{rows_in}
use Rattle.sp_text.specs.Gap.{text_of}
use Rattle.sp_layout.specs.Bodies.{shapes_in}
use Rattle.sp_sheets.proofs.MadePages.{same-shapes}
use Rattle.sp_sheets.proofs.MadeSheets.{body-made}
use Rattle.sp_sheets.proofs.view.StateView.shapes.Goals as goal

pub returns : goal.returns
returns c =
    let state : State = state_of (text_of c.self.inside.text.now.lines) c.self.inside.records.now in
    c.body_shapes.ensures
    ∙ ap shapes_in (body-made state c.self.inside.made.now c.self.invariant.1)
    ∙ sym (same-shapes state)
    ∙ ap (λ (it : State). map shape_of (rows_in it)) c.self.view_is
