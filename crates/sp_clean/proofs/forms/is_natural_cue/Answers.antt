use Rattle.std.proofs.Common.{rules}
use Rattle.sp_clean.proofs.forms.is_natural_cue.Goals as goal

pub returns-then-not-is_natural_heading : goal.returns-then-not-is_natural_heading
returns-then-not-is_natural_heading c = search rules

pub returns-else-not-is_natural_heading : goal.returns-else-not-is_natural_heading
returns-else-not-is_natural_heading c = search rules
