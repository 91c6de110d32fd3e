use Rattle.std.proofs.Common.{rules}
use Rattle.sp_sheets.proofs.numbered.ends_at.Goals as goal

pub returns-in-Some : goal.returns-in-Some
returns-in-Some c = search rules
