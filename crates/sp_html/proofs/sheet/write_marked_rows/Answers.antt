use Rattle.sp_kit.proofs.Writing.{writes_as}
use Rattle.sp_html.proofs.MarkedRows.{lines-marked}
use Rattle.sp_html.proofs.sheet.write_marked_rows.Goals as goal

pub returns : goal.returns
returns g c = writes_as (lines-marked c.args.page.now.rows) c.write_rows.ensures
