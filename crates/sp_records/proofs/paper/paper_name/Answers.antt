use Rattle.std.proofs.Common.{rules}
use Rattle.sp_records.proofs.paper.paper_name.Goals as goal

pub returns-in-A4 : goal.returns-in-A4
returns-in-A4 c = search rules
