use Rattle.std.proofs.Common.{rules}
use Rattle.sp_outline.proofs.outlines.outline_text.Goals as goal

pub returns : goal.returns
returns c = search rules
