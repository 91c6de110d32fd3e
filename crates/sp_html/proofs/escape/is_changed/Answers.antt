use Rattle.std.proofs.Common.{rules}
use Rattle.sp_html.proofs.escape.is_changed.Goals as goal

pub returns-else-byte-eq60 : goal.returns-else-byte-eq60
returns-else-byte-eq60 c = search rules
