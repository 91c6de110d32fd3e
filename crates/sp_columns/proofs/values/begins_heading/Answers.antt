use Rattle.std.proofs.Common.{rules}
use Rattle.sp_columns.proofs.values.begins_heading.Goals as goal

pub returns-then-matches : goal.returns-then-matches
returns-then-matches c = search rules
