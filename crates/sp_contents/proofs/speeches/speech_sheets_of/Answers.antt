use Rattle.std.proofs.Common.{sym, subst}
use Rattle.sp_sheets.proofs.MadeSheets.{body-lie}
use Rattle.sp_contents.specs.Sheets.{AreInTurn}
use Rattle.sp_contents.proofs.SheetFinds.{body-turn}
use Rattle.sp_contents.proofs.speeches.speech_sheets_of.Goals as goal

pub speech_sheets-requires : goal.speech_sheets-requires
speech_sheets-requires c =
    let whole = c.body_sheets-sheets.ensures.whole in
    subst AreInTurn (sym c.body_sheets-sheets.ensures.sheets) (body-turn c.args.view.now whole (body-lie c.args.view.now whole))
