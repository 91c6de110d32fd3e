use Rattle.std.proofs.Common.{◌∙◌}
use Rattle.sp_clean.proofs.FormLaws.{without_caret-none}
use Rattle.sp_clean.proofs.forms.without_caret.Goals as goal

pub returns-in-None : goal.returns-in-None
unfolding lib.Utf8.encode
returns-in-None c = c.trim-in-None.ensures ∙ without_caret-none c.args.text.now c.in-None.ensures.cases
