use Rattle.std.proofs.Common.{◌≡◌, ◌-◌, ◌≤◌, drop}
use Rattle.spec_pages.specs.Wrapping.{trim_start}
use Rattle.sp_measure.proofs.cuts.trim_start.Given as goal

abbrev pub invariant-loop-from : goal.invariant-loop-from
invariant-loop-from g l = record {
  within : l.from ≤ l.count;
  left : trim_start (drop l.from (g.C.ClusterList.clusters l.clusters)) ≡ trim_start (g.C.ClusterList.clusters l.clusters);
}

abbrev pub decreases-loop-from : goal.decreases-loop-from
decreases-loop-from g l = l.count - l.from
