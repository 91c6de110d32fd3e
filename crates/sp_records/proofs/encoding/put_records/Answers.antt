use Rattle.std.proofs.Common.{arith}
use Rattle.std.proofs.lemmas.Grind.{common_steps}
use Rattle.sp_records.proofs.encoding.put_records.Goals as goal

pub returns : goal.returns
returns c = grind (arith, common_steps)
