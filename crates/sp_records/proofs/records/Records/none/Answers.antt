use Rattle.std.proofs.Common.{rules}
use Rattle.sp_records.proofs.records.Records.none.Goals as goal

pub returns : goal.returns
returns c = search rules
