use Rattle.std.proofs.Common.{rules}
use Rattle.sp_packet.proofs.sheets.SheetList.goes_on_with.Goals as goal

pub returns-in-Some : goal.returns-in-Some
returns-in-Some c = search rules
