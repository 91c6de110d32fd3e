use Rattle.std.proofs.Common.{◌≡◌, Some, slice_get, ap, sym, ◌∙◌}
use Rattle.spec_state.proofs.SheetTexts.{sheet-at-utf8}
use Rattle.spec_state.specs.StateSheets.{sheets_of_state}
use Rattle.spec_machine.specs.Machine.{Memory}
use Rattle.sp_desk.specs.Answers.{step_to}
use Rattle.sp_desk.proofs.DeskSteps.{sheet-found}
use Rattle.sp_desk.proofs.desk.Desk.sheet_answer.Goals as goal

pub sheet_reply-requires : goal.sheet_reply-requires
sheet_reply-requires c = record { utf8 = sheet-at-utf8 c.self.inside.script c.args.index c.in-Some.page ((c.self.invariant.whole).state) c.in-Some.ensures.some }

pub returns-in_ok-sheet_reply-in-Some-clause-step : goal.returns-in_ok-sheet_reply-in-Some-clause-step
returns-in_ok-sheet_reply-in-Some-clause-step c =
    let at : slice_get (sheets_of_state (c.args.self.now).state) c.args.index ≡ Some c.in-Some.page =
    ap (λ (m : Memory). slice_get (sheets_of_state m.state) c.args.index) (sym c.self.view_is) ∙ c.in-Some.ensures.some in
    ap (step_to c.args.self.now) c.in_ok-sheet_reply-in-Some.ensures ∙ sheet-found c.args.self.now c.args.index c.in-Some.page at
