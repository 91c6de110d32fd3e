use Rattle.std.proofs.Common.{◌∙◌, sym, ap}
use Rattle.std.proofs.Math.ListN.{set}
use Rattle.std.proofs.lemmas.List.Edits.{map_over_more}
use Rattle.spec_labels.specs.PageRecords.{SheetOf}
use Rattle.sp_locks.specs.Rounds.{in_round}
use Rattle.sp_locks.proofs.rounds.set_rounds.Goals as goal

pub loop-sheet-preserved : goal.loop-sheet-preserved
loop-sheet-preserved c =
    let i = c.loop-sheet.sheet-index in
    ap (λ (it : SheetOf). set c.loop-sheet.sheets i it) (ap (in_round c.args.round) (c.sheet.view_is ∙ sym c.sheet-item.is))
    ∙ map_over_more (in_round c.args.round) c.args.sheets.now c.loop-sheet.sheets i c.sheet-item.result c.loop-sheet-test.true c.loop-sheet.invariant c.sheet-item.is
