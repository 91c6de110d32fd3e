use Rattle.std.proofs.Common.{rules}
use Rattle.sp_reread.proofs.staying.ends.Goals as goal

pub returns-clause-yes : goal.returns-clause-yes
returns-clause-yes c = search rules
