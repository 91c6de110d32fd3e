use Rattle.sp_sheets.proofs.Sorting.{sorted-rises}
use Rattle.sp_sheets.proofs.stops.merged_stops.Goals as goal

pub returns-clause-order : goal.returns-clause-order
returns-clause-order c = sorted-rises c.sort.new.self.items c.in_ok-sort.ensures.sorted
