use Rattle.std.proofs.Common.{rules}
use Rattle.sp_clean.proofs.boneyards.sort.Goals as goal

pub returns-then-all_blank : goal.returns-then-all_blank
returns-then-all_blank c = search rules
