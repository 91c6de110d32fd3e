use Rattle.sp_kit.proofs.Writing.{writes_as}
use Rattle.sp_print.proofs.PlainRows.{lines-plain}
use Rattle.sp_print.proofs.sheet.write_plain_rows.Goals as goal

pub returns : goal.returns
returns g c = writes_as (lines-plain c.args.page.now.rows) c.write_rows.ensures
