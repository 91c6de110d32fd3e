use Rattle.std.proofs.Common.{rules}
use Rattle.sp_refill.proofs.blocks.relays_front.Goals as goal

pub returns-else-are_dual : goal.returns-else-are_dual
returns-else-are_dual c = search rules
