use Rattle.std.proofs.Common.{◌-◌, List, length, ap, sym, subst, ◌∙◌}
use Rattle.std.specs.Prelude.{slice_index_or}
use Rattle.std.proofs.lemmas.Bool.{OnTrue_at}
use Rattle.spec_labels.specs.PageRecords.{SheetOf, sheets_of_records}
use Rattle.sp_locks.specs.Rounds.{AreButForRounds}
use Rattle.sp_sheets.proofs.LockedSheets.{kept-sheets}
use Rattle.sp_sheets.proofs.locked.renew_locked.Goals as goal

pub renew_rounds-requires-clause-sheets : goal.renew_rounds-requires-clause-sheets
renew_rounds-requires-clause-sheets c =
    let sheets = c.args.sheets.now.items in
    let given = c.deref.result.now in
    let kept : AreButForRounds sheets (sheets_of_records c.args.rows c.args.records.now c.args.firsts.now c.args.pages.now) =
    kept-sheets c.args.rows c.args.records.now c.args.firsts.now c.args.pages.now sheets (c.requires.kept c.if-keeps.true)
    (λ other. ap (λ (those : List SheetOf). (slice_index_or those (length those - 1) other).end) (sym c.deref.ensures.value) ∙ OnTrue_at c.if-ends_at.true c.ends_at.ensures other) in
    subst (λ (those : List SheetOf). AreButForRounds those (sheets_of_records c.args.rows c.args.records.now c.args.firsts.now c.args.pages.now)) (sym c.deref_mut.ensures.value) kept
