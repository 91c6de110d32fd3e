use Rattle.std.proofs.Common.{rules}
use Rattle.sp_refill.proofs.finder.with_next.Goals as goal

pub returns-clause-old : goal.returns-clause-old
returns-clause-old c = search rules

pub returns-clause-new : goal.returns-clause-new
returns-clause-new c = search rules
