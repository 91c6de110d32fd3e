use Rattle.std.proofs.Common.{◌≡◌, ◌++◌, ◌∷◌, [], true, false, not, ap, sym, ◌∙◌, append-nil}
use Rattle.spec_labels.specs.Labels.{LabelOf}
use Rattle.spec_labels.specs.Scenes.{SceneRecordOf}
use Rattle.spec_machine.specs.Outlines.{is_gone}
use Rattle.sp_contents.proofs.Pushes.{gone-step}
use Rattle.sp_contents.proofs.gone.gone_among.Goals as goal
use Rattle.sp_contents.proofs.gone.gone_among.Goals.{then-is_gone+in_ok-copy+in_ok-push, else-is_gone}

pub loop-record-preserved : goal.loop-record-preserved
loop-record-preserved c =
    let headings = c.args.headings.now in
    let records = c.args.records.now in
    let i = c.loop-record.record-index in
    let item : SceneRecordOf = c.record-item.result in
    let old = c.loop-record.gone.items in
    let tested : c.is_gone.result ≡ is_gone headings item = c.is_gone.ensures ∙ ap not (c.in_ok-lines.ensures item.line) in
    elim c.if-is_gone.branch [
      | then-is_gone+in_ok-copy+in_ok-push w ↦
          gone-step headings records i item old c.if-is_gone.gone.items true c.loop-record-test.true c.record-item.is c.loop-record.invariant (sym w.if-is_gone.true ∙ tested)
          (ap (λ v. v.items) w.gone-is ∙ w.in_ok-push.ensures.items ∙ ap (λ (label : LabelOf). old ++ label ∷ []) (w.in_ok-copy.ensures ∙ ap (λ (it : SceneRecordOf). it.label) c.record.view_is))
      | else-is_gone w ↦
          gone-step headings records i item old c.if-is_gone.gone.items false c.loop-record-test.true c.record-item.is c.loop-record.invariant (sym w.if-is_gone.false ∙ tested)
          (ap (λ v. v.items) w.gone-is ∙ sym (append-nil old))
    ]
