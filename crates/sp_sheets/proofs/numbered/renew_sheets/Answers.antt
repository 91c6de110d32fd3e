use Rattle.std.proofs.Common.{length, take, sym, ap, ◌∙◌, subst}
use Rattle.sp_sheets.specs.Numbered.{marked_sheets, AreMovedOutside}
use Rattle.sp_sheets.proofs.SheetMoves.{length-marked}
use Rattle.sp_sheets.proofs.StaleSheets.{moved-cut}
use Rattle.sp_sheets.proofs.numbered.renew_sheets.Goals as goal

pub renew_first-requires-clause-stale : goal.renew_first-requires-clause-stale
renew_first-requires-clause-stale c =
    let pages = c.args.pages.now in
    let all = marked_sheets c.args.marks.now.items 1 pages in
    subst (λ those. AreMovedOutside those all c.args.stale) (sym (c.truncate.ensures.items ∙ ap (take (length pages)) c.make_room.ensures.items))
    (moved-cut c.args.sheets.now.items all c.args.stale (length pages) c.requires.stale (sym (length-marked c.args.marks.now.items 1 pages)))
