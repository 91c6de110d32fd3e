use Rattle.std.proofs.Common.{rules}
use Rattle.sp_run.proofs.sheets.add_sheet.Goals as goal

pub returns-in-Err : goal.returns-in-Err
returns-in-Err c = search rules
