use Rattle.std.proofs.Common.{rules}
use Rattle.sp_locks.proofs.moves.exchange.Goals as goal

pub returns-clause-given : goal.returns-clause-given
returns-clause-given c = search rules
