use Rattle.std.proofs.Common.{ap, ◌∙◌, position}
use Rattle.spec_text.specs.Lines.{is_end}
use Rattle.sp_text.proofs.FirstPlaces.{first-position}
use Rattle.sp_text.proofs.cut.first_end.Goals as goal

pub returns : goal.returns
returns c = first-position is_end c.as_bytes.result.now c.memchr2.result c.memchr2.ensures ∙ ap (position is_end) c.as_bytes.ensures.value
