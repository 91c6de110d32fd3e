use Rattle.std.proofs.Common.{◌≡◌, ◌≤◌, length, take}
use Rattle.spec_pages.specs.Wrapping.{trim_end}
use Rattle.sp_measure.proofs.cuts.trim_end.Given as goal

abbrev pub invariant-loop-end : goal.invariant-loop-end
invariant-loop-end g l = (l.end ≤ length (g.C.ClusterList.clusters l.clusters)) × (trim_end (take l.end (g.C.ClusterList.clusters l.clusters)) ≡ trim_end (g.C.ClusterList.clusters l.clusters))

abbrev pub decreases-loop-end : goal.decreases-loop-end
decreases-loop-end g l = l.end
