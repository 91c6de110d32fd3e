use Rattle.std.proofs.Common.{rules}
use Rattle.sp_print.proofs.cue.is_continued.Goals as goal

pub returns-then-has_fixed : goal.returns-then-has_fixed
returns-then-has_fixed c = search rules

pub returns-else-has_fixed : goal.returns-else-has_fixed
returns-else-has_fixed c = search rules
