use Rattle.std.proofs.Common.{rules}
use Rattle.sp_records.proofs.records.Records.round_after.Goals as goal

pub returns : goal.returns
returns c = search rules
