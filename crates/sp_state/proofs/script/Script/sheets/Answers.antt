use Rattle.std.proofs.Common.{length, ap, sym, ◌∙◌}
use Rattle.spec_state.specs.Keeping.{state_of}
use Rattle.spec_state.specs.State.{State}
use Rattle.spec_state.specs.StateSheets.{sheets_of_state}
use Rattle.sp_text.specs.Gap.{text_of}
use Rattle.sp_sheets.proofs.SheetPlaces.{made-count}
use Rattle.sp_state.proofs.script.Script.sheets.Goals as goal

pub returns : goal.returns
returns c =
    let state : State = state_of (text_of c.self.inside.text.lines) c.self.inside.records in
    c.sheet_count.ensures ∙ sym (made-count state c.self.inside.made c.self.invariant.1) ∙ ap (λ (it : State). length (sheets_of_state it)) c.self.view_is
