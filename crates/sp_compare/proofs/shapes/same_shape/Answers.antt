use Rattle.std.proofs.Common.{rules}
use Rattle.sp_compare.proofs.shapes.same_shape.Goals as goal

pub returns-then-one-other-3 : goal.returns-then-one-other-3
returns-then-one-other-3 c = search rules
