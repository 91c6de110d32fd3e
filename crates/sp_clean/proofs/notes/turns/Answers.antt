use Rattle.std.proofs.Common.{rules}
use Rattle.sp_clean.proofs.notes.turns.Goals as goal

pub returns-then-bytes-at : goal.returns-then-bytes-at
returns-then-bytes-at c = search rules

pub returns-else-bytes-at : goal.returns-else-bytes-at
returns-else-bytes-at c = search rules
