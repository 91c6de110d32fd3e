use Rattle.std.proofs.Common.{refl}
use Rattle.sp_run.proofs.OpenedStates.{fresh-opens}
use Rattle.sp_run.proofs.opening.without_records.Goals as goal

pub returns : goal.returns
returns c = fresh-opens c.args.lines c.args.lines c.none.result c.requires c.len-count.ensures.keeps refl c.none.ensures
