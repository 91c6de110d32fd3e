use Rattle.std.proofs.Common.{◌≡◌, ◌+◌, ◌<◌, false, List, [], ◌∷◌, ◌++◌, length, get_or, sym, ap, ◌∙◌, subst, arith}
use Rattle.spec_labels.specs.declared.Moved.{Moved}
use Rattle.spec_labels.specs.PageRecords.{PageRecordOf, moved_of}
use Rattle.spec_sheets.specs.Shown.{shown_rows}
use Rattle.spec_sheets.proofs.ShownLaws.{length-shown_rows}
use Rattle.spec_state.specs.Changes.{raised, segment_rows}
use Rattle.sp_compare.specs.Raised.{raises}
use Rattle.sp_compare.proofs.RaisedSteps.{left_from, raises-other, raises-same, same-at}
use Rattle.sp_compare.proofs.raising.raises.Goals as goal
use Rattle.sp_compare.proofs.raising.raises.Goals.{then-not-same_segment+in_ok-push, else-not-same_segment}

pub loop-index-preserved : goal.loop-index-preserved
loop-index-preserved c = λ olds news.
    let i = c.loop-index.index in
    let texts = c.args.texts.now in
    let before = c.args.before.now in
    let after = c.args.after.now in
    let records = c.args.records.now in
    let here : i < length records = omega arith in
    let in_before : i < length before = omega arith in
    let in_after : i < length after = omega arith in
    let old = shown_rows texts.old olds texts.olds in
    let new = shown_rows texts.new news texts.news in
    let all = raises c.args.round 0 (segment_rows old before) (segment_rows new after) records in
    let it = c.index-records-index.result in
    let own = get_or records i it in
    let moved = c.loop-index.moved.items in
    let same = same-at i old new before after c.same_segment.result (length-shown_rows texts.old olds texts.olds) (length-shown_rows texts.new news texts.news) (c.same_segment.ensures olds news) in
    elim c.if-not-same_segment.branch [
      | then-not-same_segment+in_ok-push w ↦
          let at = c.index-records-index.is in
          let more : c.if-not-same_segment.moved.items ≡ moved ++ moved_of i (raised c.args.round false own) ∷ [] =
          rw w.moved-is (w.in_ok-push.ensures.items ∙ ap (λ (r : PageRecordOf). moved ++ moved_of i (raised c.args.round false r) ∷ []) (c.record.view_is ∙ at)) in
          subst (λ (ms : List Moved). ms ++ left_from c.args.round (i + 1) old new before after records ≡ all) (sym more)
          (raises-other c.args.round i old new before after records it moved all in_before in_after here (same ∙ w.if-not-same_segment.true) (c.loop-index.invariant olds news))
      | else-not-same_segment w ↦
          let kept : c.if-not-same_segment.moved.items ≡ moved = cc (w.moved-is) in
          subst (λ (ms : List Moved). ms ++ left_from c.args.round (i + 1) old new before after records ≡ all) (sym kept)
          (raises-same c.args.round i old new before after records it moved all in_before in_after here (same ∙ w.if-not-same_segment.false) (c.loop-index.invariant olds news))
    ]
