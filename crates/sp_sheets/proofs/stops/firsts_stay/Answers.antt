use Rattle.std.proofs.Common.{rules}
use Rattle.sp_sheets.proofs.stops.firsts_stay.Goals as goal

pub returns-in-Some : goal.returns-in-Some
returns-in-Some c = search rules
