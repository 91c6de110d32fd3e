-- What is saved of a state, opened with its text, is the state; and what any record file makes of its text is whole.
use Rattle.std.proofs.Common.{◌≡◌, ℕ, Option, Some, None, List, length, refl, sym, ap₂, subst, ◌∙◌}
use Rattle.spec_text.specs.Lines.{LineState, IsText, line_texts}
use Rattle.spec_text.specs.Edits.{relabelled}
use Rattle.spec_text.proofs.RelabelLaws.{FitLines, length-relabelled, relabelled-ids, relabelled-marks, relabelled-own, IsText-relabelled}
use Rattle.spec_labels.specs.PageRecords.{PageRecordOf}
use Rattle.spec_records.specs.Kept.{KeptOf, KeepsLines, AreKeptPages, KeepsPages, KeepsRules}
use Rattle.spec_records.proofs.LengthBound.{written-is_read}
use Rattle.spec_records.proofs.SameTexts.{IsRecordFile-texts}
use Rattle.spec_state.specs.State.{State}
use Rattle.spec_state.specs.Keeping.{state_kept, IsWhole}
use Rattle.spec_state.specs.SavedStates.{state_of_file, IsSaved}

-- A state is made again of its own texts and what is kept beside them.
pub file-state : (state : State) (text : List LineState) → line_texts text ≡ line_texts state.lines → state_of_file text (state_kept state) ≡ state
file-state state text same =
    let it = state_kept state in
    let lines : relabelled text it.ids it.marks ≡ state.lines = relabelled-own state.lines text same in
    λ i. record { lines = lines i; next = state.next; round = state.round; speakers = state.speakers; paper = state.paper; scenes = state.scenes; pages = state.pages }

-- What is written of a whole state is a record file of every text with its texts, and makes the state of it.
pub saved-opens : (state : State) (text : List LineState) → IsWhole state → line_texts text ≡ line_texts state.lines → IsSaved state text
saved-opens state text whole same =
    let is = whole.text in
    record {
      file = IsRecordFile-texts _ state.lines text (state_kept state) (sym same) (written-is_read state.lines (state_kept state) is.count whole.rules);
      back = file-state state text same;
    }

-- A text and what a record file keeps beside it make a whole state.
pub made-whole : (text : List LineState) (it : KeptOf) → IsText (record { lines = text; next = length text }) → KeepsRules text it → IsWhole (state_of_file text it)
made-whole text it is rules =
    let kept = rules.lines in
    let fit : FitLines it.ids it.marks text = record { all_ids = kept.ids; all_marks = kept.marks } in
    let lines = relabelled text it.ids it.marks in
    let ids = relabelled-ids it.ids it.marks text fit in
    let marks = relabelled-marks it.ids it.marks text fit in
    let count : length lines ≡ length text = length-relabelled it.ids it.marks text fit in
    let own : IsText (record { lines = lines; next = it.next }) = IsText-relabelled it.ids it.marks (record { lines = text; next = length text }) it.next fit kept.distinct kept.below kept.next is in
    let same : state_kept (state_of_file text it) ≡ it =
    λ i. record { ids = ids i; marks = marks i; next = it.next; records = it.records } in
    let again : relabelled lines it.ids it.marks ≡ lines =
    ap₂ (λ (a b : List ℕ). relabelled lines a b) (sym ids) (sym marks) ∙ relabelled-own lines lines refl in
    record {
      text = own;
      rules = subst (KeepsRules lines) (sym same) (record {
        lines = subst (λ n. KeepsLines n it) (sym count) kept;
        scenes = rules.scenes;
        pages = pages it.records.pages again rules.pages;
      });
    }
  where
    pages : (them : Option (List PageRecordOf)) → relabelled (relabelled text it.ids it.marks) it.ids it.marks ≡ relabelled text it.ids it.marks
        → KeepsPages text it them → KeepsPages (relabelled text it.ids it.marks) it them
    pages None again are = are
    pages (Some records) again are = (are.0, subst (λ (ls : List LineState). AreKeptPages it.records.round ls records) (sym again) are.1)
