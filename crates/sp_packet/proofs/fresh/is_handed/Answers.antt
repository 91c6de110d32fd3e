use Rattle.std.proofs.Common.{rules}
use Rattle.sp_packet.proofs.fresh.is_handed.Goals as goal

pub returns-then-facts-eq0 : goal.returns-then-facts-eq0
returns-then-facts-eq0 c = search rules
