use Rattle.std.proofs.Common.{rules}
use Rattle.sp_gap.proofs.runs.make_room.Goals as goal

pub returns-clause-ok : goal.returns-clause-ok
returns-clause-ok g c = search rules
