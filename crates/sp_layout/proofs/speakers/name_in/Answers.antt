use Rattle.std.proofs.Common.{rules}
use Rattle.sp_layout.proofs.speakers.name_in.Goals as goal

pub returns-in-Some : goal.returns-in-Some
returns-in-Some c = search rules
