use Rattle.std.proofs.Common.{rules}
use Rattle.sp_columns.proofs.joins.join_row.Goals as goal

pub returns : goal.returns
returns c = search rules
