use Rattle.std.proofs.Common.{◌-◌}
use Rattle.sp_layout.proofs.Halves.{AreHalved}
use Rattle.sp_layout.proofs.search.starts_below.Given as goal

abbrev pub invariant-loop-from : goal.invariant-loop-from
invariant-loop-from l = AreHalved l.starts.items l.bound l.from l.to

abbrev pub decreases-loop-from : goal.decreases-loop-from
decreases-loop-from l = l.to - l.from
