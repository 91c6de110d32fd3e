use Rattle.std.proofs.Common.{rules}
use Rattle.sp_exchange.proofs.text.reread.Goals as goal

pub update-requires : goal.update-requires
update-requires g c = search rules

pub returns-clause-window : goal.returns-clause-window
returns-clause-window g c = search rules

pub returns-clause-at_most : goal.returns-clause-at_most
returns-clause-at_most g c = search rules

pub returns-clause-reads : goal.returns-clause-reads
returns-clause-reads g c = search rules
