use Rattle.std.proofs.Common.{ap, ◌∙◌}
use Rattle.spec_script.specs.Trim.{trim}
use Rattle.spec_script.specs.Forms.{is_natural_cue}
use Rattle.sp_clean.proofs.forms.is_cue.Goals as goal

pub returns-in-None : goal.returns-in-None
returns-in-None c = c.is_natural_cue-in-None.ensures ∙ ap is_natural_cue (c.trim-in-None.ensures ∙ ap trim c.joined_text.ensures)
