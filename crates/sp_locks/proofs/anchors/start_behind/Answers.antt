use Rattle.std.proofs.Common.{ap, sym, ◌∙◌}
use Rattle.spec_labels.specs.PageRecords.{PageRecordOf}
use Rattle.sp_locks.proofs.PlaceLaws.{one-anchor}
use Rattle.sp_locks.proofs.anchors.start_behind.Goals as goal

pub returns-in-Some : goal.returns-in-Some
returns-in-Some c =
    let one : PageRecordOf = c.in-Some.other.now in
    let line = sym (ap (λ (it : PageRecordOf). it.line) c.other.view_is) ∙ c.if-other-locked.true ∙ ap (λ (it : PageRecordOf). it.line) c.locked.view_is in
    let row = sym (ap (λ (it : PageRecordOf). it.row) c.other.view_is) ∙ c.if-other-locked-2.true ∙ ap (λ (it : PageRecordOf). it.row) c.locked.view_is in
    c.requires.before c.in-Some.other c.in-Some.is
    ∙ one-anchor c.args.lines.now.lines c.args.rows.now.items one c.args.locked.now line row
