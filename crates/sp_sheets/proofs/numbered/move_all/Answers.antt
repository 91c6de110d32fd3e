use Rattle.std.proofs.Common.{set, ap, ◌∙◌, arith}
use Rattle.spec_labels.specs.PageRecords.{SheetOf}
use Rattle.sp_gap.proofs.MoveLaws.{shift-step}
use Rattle.sp_sheets.specs.Numbered.{moved_sheet}
use Rattle.sp_sheets.proofs.numbered.move_all.Goals as goal

pub loop-sheet-preserved : goal.loop-sheet-preserved
loop-sheet-preserved c =
    let move = moved_sheet c.args.less c.args.more in
    let here = c.sheet-item.result in
    ap (λ (it : SheetOf). set c.loop-sheet.sheets c.loop-sheet.sheet-index (move it)) c.sheet.view_is
    ∙ shift-step move here c.args.sheets.now c.loop-sheet.sheets c.loop-sheet.sheet-index (omega (arith, c.loop-sheet-test.true, c.loop-sheet.auto.sheets)) c.loop-sheet.invariant
