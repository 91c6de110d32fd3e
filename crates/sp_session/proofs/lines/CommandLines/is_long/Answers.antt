use Rattle.std.proofs.Common.{arith}
use Rattle.std.proofs.lemmas.Grind.{common_steps}
use Rattle.sp_session.proofs.lines.CommandLines.is_long.Goals as goal

pub returns : goal.returns
returns c = grind (arith, common_steps)
