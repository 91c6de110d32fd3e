use Rattle.sp_clean.proofs.FormLaws.{is_forced_heading-none}
use Rattle.sp_clean.proofs.forms.is_forced_heading.Goals as goal

pub returns-in-None : goal.returns-in-None
unfolding lib.Utf8.encode
returns-in-None c = is_forced_heading-none c.args.text.now c.in-None.ensures.cases
