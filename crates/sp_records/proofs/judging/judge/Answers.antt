use Rattle.std.proofs.Common.{rules}
use Rattle.sp_records.proofs.judging.judge.Goals as goal

pub returns : goal.returns
returns c = search rules
