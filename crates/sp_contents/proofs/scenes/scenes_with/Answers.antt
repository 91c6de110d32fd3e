use Rattle.std.proofs.Common.{rules, sym, subst}
use Rattle.spec_labels.specs.Scenes.{AreHeadings}
use Rattle.spec_state.proofs.StateKeys.{text-headings}
use Rattle.sp_sheets.proofs.MadeSheets.{body-lie}
use Rattle.sp_contents.specs.Sheets.{AreInTurn}
use Rattle.sp_contents.proofs.SheetFinds.{body-turn}
use Rattle.sp_contents.proofs.scenes.scenes_with.Goals as goal

pub labels_of-requires-clause-headings : goal.labels_of-requires-clause-headings
labels_of-requires-clause-headings c = subst AreHeadings (sym c.requires) (text-headings c.args.view.now c.body_sheets-sheets.ensures.whole.text)

pub sheet_texts-requires : goal.sheet_texts-requires
sheet_texts-requires c =
    let whole = c.body_sheets-sheets.ensures.whole in
    subst AreInTurn (sym c.body_sheets-sheets.ensures.sheets) (body-turn c.args.view.now whole (body-lie c.args.view.now whole))

pub returns : goal.returns
returns c = search rules
