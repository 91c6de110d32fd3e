use Rattle.std.proofs.Common.{rules}
use Rattle.sp_outline.proofs.casting.cast_from.Goals as goal

pub returns : goal.returns
returns c = search rules
