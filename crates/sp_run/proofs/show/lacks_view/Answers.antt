use Rattle.std.proofs.Common.{rules}
use Rattle.sp_run.proofs.show.lacks_view.Goals as goal

pub returns-in-Packet-clause-lacks : goal.returns-in-Packet-clause-lacks
returns-in-Packet-clause-lacks c = search rules
