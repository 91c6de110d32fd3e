use Rattle.std.proofs.Common.{ap, sym, ◌∙◌}
use Rattle.sp_contents.specs.Sheets.{if_begun}
use Rattle.sp_contents.proofs.SheetFinds.{find-place}
use Rattle.sp_contents.proofs.heading_sheets.sheet_of.Goals as goal

pub returns : goal.returns
returns c =
    let row = c.args.row in
    let sheets = c.args.sheets.now in
    c.if_begun.ensures ∙ ap (if_begun row) c.sheet_at.ensures ∙ sym (find-place row sheets c.sheets_before.result c.requires c.sheets_before.ensures)
