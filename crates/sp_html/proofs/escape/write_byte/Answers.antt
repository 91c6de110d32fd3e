use Rattle.std.proofs.Common.{rules}
use Rattle.sp_html.proofs.escape.write_byte.Goals as goal

pub returns-then-byte-eq9 : goal.returns-then-byte-eq9
returns-then-byte-eq9 c = search rules
