use Rattle.std.proofs.Common.{◌≡◌, ◌∙◌, ap}
use Rattle.std.proofs.lemmas.Bool.{OnTrue_at, OnTrue_from}
use Rattle.spec_labels.specs.declared.RowKey.{RowKey}
use Rattle.spec_labels.specs.PageRecords.{PageRecordOf, record_start}
use Rattle.sp_locks.proofs.PlaceLaws.{first-with-key, start-inside}
use Rattle.sp_locks.proofs.anchors.is_anchored_at.Goals as goal

pub returns : goal.returns
returns c =
    let key : RowKey = record { line = c.locked.inside.line; row = c.locked.inside.row } in
    OnTrue_from c.has_key.result (c.args.row ≡ record_start c.args.lines.now.lines c.args.rows.now.items c.args.locked.now) (λ yes.
    first-with-key c.args.lines.now.lines c.args.rows.now.items key c.args.row c.requires (OnTrue_at yes c.has_key.ensures)
    ∙ start-inside c.args.lines.now.lines c.args.rows.now.items c.args.locked.now key (ap (λ (it : PageRecordOf). it.line) c.locked.view_is) (ap (λ (it : PageRecordOf). it.row) c.locked.view_is) c.if-locked-eq-END.false)
