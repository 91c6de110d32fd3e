use Rattle.std.proofs.Common.{rules}
use Rattle.sp_records.proofs.rules.is_anchored.Goals as goal

pub returns-then-entry-le4095 : goal.returns-then-entry-le4095
returns-then-entry-le4095 c = search rules
