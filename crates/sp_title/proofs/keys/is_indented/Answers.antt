use Rattle.std.proofs.Common.{rules}
use Rattle.sp_title.proofs.keys.is_indented.Goals as goal

pub returns-else-text-eq9 : goal.returns-else-text-eq9
returns-else-text-eq9 c = search rules
