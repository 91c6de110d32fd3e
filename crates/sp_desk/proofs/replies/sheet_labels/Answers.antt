use Rattle.std.proofs.Common.{◌≡◌, length, string_bytes, slice_get, Some, ap, sym, subst, ◌∙◌, arith}
use Rattle.std.proofs.lemmas.Grind.{common_steps}
use Rattle.spec_state.specs.StateSheets.{sheets_of_state}
use Rattle.spec_machine.specs.Answers.{label_of_sheet}
use Rattle.sp_desk.proofs.Labels.{AreFirst, first-more}
use Rattle.sp_desk.proofs.replies.sheet_labels.Goals as goal

pub loop-page-preserved : goal.loop-page-preserved
loop-page-preserved c =
    let sheets = sheets_of_state c.args.script.now in
    let now : AreFirst string_bytes label_of_sheet c.loop-page.texts.items sheets = record { few = c.loop-page.invariant.few; same = c.loop-page.invariant.labels } in
    let count : length c.loop-page.texts.items ≡ c.len.result = grind (arith, common_steps) in
    let at : slice_get sheets (length c.loop-page.texts.items) ≡ Some c.in-Some.page = ap (slice_get sheets) count ∙ c.in-Some.ensures.some in
    let more = first-more string_bytes label_of_sheet c.loop-page.texts.items sheets c.in_ok-sheet_label.field-0 c.in-Some.page now at c.in_ok-sheet_label.ensures in
    let items : AreFirst string_bytes label_of_sheet c.push.new.self.items sheets = subst (λ texts. AreFirst string_bytes label_of_sheet texts sheets) (sym c.in_ok-push.ensures.items) more in
    record { few = items.few; labels = items.same }
