use Rattle.std.proofs.Common.{rules}
use Rattle.sp_contents.proofs.heading_sheets.begun.Goals as goal

pub returns-else-sheet-row : goal.returns-else-sheet-row
returns-else-sheet-row c = search rules
