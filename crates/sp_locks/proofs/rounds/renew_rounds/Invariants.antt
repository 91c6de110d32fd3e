use Rattle.std.proofs.Common.{◌-◌, length}
use Rattle.sp_locks.proofs.RoundWalk.{RoundsTo}
use Rattle.sp_locks.proofs.rounds.renew_rounds.Given as goal

abbrev pub invariant-loop-index : goal.invariant-loop-index
invariant-loop-index l = RoundsTo l.rows l.records l.starts l.pages l.index l.page l.place l.sheets

abbrev pub decreases-loop-index : goal.decreases-loop-index
decreases-loop-index l = length l.records - l.index
