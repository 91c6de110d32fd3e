use Rattle.std.proofs.Common.{length, ◌-◌}
use Rattle.sp_clean.proofs.YardWalk.{Walked}
use Rattle.sp_clean.proofs.boneyards.outside_yards.Given as goal

abbrev pub invariant-loop-at : goal.invariant-loop-at
invariant-loop-at l = Walked l.bytes l.fn.inside l.inside l.touched l.from l.at l.kept.items

abbrev pub decreases-loop-at : goal.decreases-loop-at
decreases-loop-at l = length l.bytes - l.at
