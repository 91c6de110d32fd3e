use Rattle.spec_cast.proofs.Counts.{sides-add}
use Rattle.sp_cast.proofs.writing.sides.Goals as goal

pub returns-clause-total : goal.returns-clause-total
returns-clause-total c = sides-add c.args.said.now
