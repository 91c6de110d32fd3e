use Rattle.sp_layout.proofs.Halves.{last-found}
use Rattle.sp_layout.proofs.search.last_start.Goals as goal

pub overflow_sub-result : goal.overflow_sub-result
overflow_sub-result c = (last-found c.args.starts.now.items c.args.place c.starts_below.result c.starts_below.ensures c.requires.some c.requires.first).some

pub returns : goal.returns
returns c = (last-found c.args.starts.now.items c.args.place c.starts_below.result c.starts_below.ensures c.requires.some c.requires.first).last
