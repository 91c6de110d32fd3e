use Rattle.std.proofs.Common.{arith}
use Rattle.std.proofs.lemmas.Grind.{common_steps}
use Rattle.sp_print.proofs.header.write_round_name.Goals as goal

pub returns-then-round-le9 : goal.returns-then-round-le9
returns-then-round-le9 g c = grind (arith, common_steps)
