use Rattle.std.proofs.Common.{true, false, ap, sym, ◌∙◌, append-nil}
use Rattle.sp_contents.proofs.Pushes.{rows-step}
use Rattle.sp_contents.proofs.heading_sheets.heading_rows.Goals as goal
use Rattle.sp_contents.proofs.heading_sheets.heading_rows.Goals.{then-begins_heading+in_ok-push, else-begins_heading}

pub loop-row-preserved : goal.loop-row-preserved
loop-row-preserved c =
    let shapes = c.args.shapes.now.items in
    let row = c.loop-row.row in
    let old = c.loop-row.rows.items in
    elim c.if-begins_heading.branch [
      | then-begins_heading+in_ok-push w ↦
          rows-step shapes row _ old c.if-begins_heading.rows.items true c.at.ensures c.loop-row.invariant (sym w.if-begins_heading.true ∙ c.begins_heading.ensures) (ap (λ v. v.items) w.rows-is ∙ w.in_ok-push.ensures.items)
      | else-begins_heading w ↦
          rows-step shapes row _ old c.if-begins_heading.rows.items false c.at.ensures c.loop-row.invariant (sym w.if-begins_heading.false ∙ c.begins_heading.ensures) (ap (λ v. v.items) w.rows-is ∙ sym (append-nil old))
    ]
