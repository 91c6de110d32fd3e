use Rattle.std.proofs.Common.{◌≡◌, ◌+◌, ◌≤◌}
use Rattle.spec_pages.specs.Greatest.{greatest}
use Rattle.spec_pages.specs.Wrapping.{is_break}
use Rattle.sp_measure.proofs.cuts.last_break.Given as goal

abbrev pub invariant-loop-end : goal.invariant-loop-end
invariant-loop-end g l =
    (l.end ≤ l.place) × (greatest (is_break (g.C.ClusterList.clusters l.clusters)) (l.end + 1) ≡ greatest (is_break (g.C.ClusterList.clusters l.clusters)) (l.place + 1))

abbrev pub decreases-loop-end : goal.decreases-loop-end
decreases-loop-end g l = l.end
