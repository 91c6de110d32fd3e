use Rattle.std.proofs.Common.{◌∷◌, ◌++◌, [], true, false, ap, sym, ◌∙◌, append-nil}
use Rattle.sp_contents.proofs.SaidSteps.{sheets-step}
use Rattle.sp_contents.proofs.placed_speeches.speech_sheets.Goals as goal
use Rattle.sp_contents.proofs.placed_speeches.speech_sheets.Goals.{then-begins_speech+in_ok-first_label+in_ok-push, else-begins_speech}

pub loop-row-preserved : goal.loop-row-preserved
loop-row-preserved c =
    let sheets = c.args.sheets.now in
    let shapes = c.args.shapes.now.items in
    let row = c.loop-row.row in
    let old = c.loop-row.labels.items in
    elim c.if-begins_speech.branch [
      | then-begins_speech+in_ok-first_label+in_ok-push w ↦
          sheets-step sheets shapes row _ old c.if-begins_speech.labels.items _ true c.at.ensures (sym w.if-begins_speech.true ∙ c.begins_speech.ensures)
          (ap (λ v. v.items) w.labels-is ∙ w.in_ok-push.ensures.items ∙ ap (λ label. old ++ label ∷ []) w.in_ok-first_label.ensures) c.loop-row.invariant
      | else-begins_speech w ↦
          sheets-step sheets shapes row _ old c.if-begins_speech.labels.items _ false c.at.ensures (sym w.if-begins_speech.false ∙ c.begins_speech.ensures)
          (ap (λ v. v.items) w.labels-is ∙ sym (append-nil old)) c.loop-row.invariant
    ]
