use Rattle.std.proofs.Common.{◌∙◌}
use Rattle.sp_locks.proofs.PlaceLaws.{none-is-end}
use Rattle.sp_locks.proofs.places.line_at.Goals as goal

pub returns-in-None : goal.returns-in-None
returns-in-None c = c.len.ensures.len ∙ none-is-end c.args.lines.now.lines c.args.id c.in-None.ensures
