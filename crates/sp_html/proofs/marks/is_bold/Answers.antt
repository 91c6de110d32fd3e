use Rattle.std.proofs.Common.{rules}
use Rattle.sp_html.proofs.marks.is_bold.Goals as goal

pub returns : goal.returns
returns c = search rules
