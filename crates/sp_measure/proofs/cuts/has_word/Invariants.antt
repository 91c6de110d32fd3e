use Rattle.std.proofs.Common.{◌≡◌, ◌-◌, ◌≤◌, drop}
use Rattle.spec_pages.specs.Wrapping.{has_word}
use Rattle.sp_measure.proofs.cuts.has_word.Given as goal

abbrev pub invariant-loop-place : goal.invariant-loop-place
invariant-loop-place g l = record {
  within : l.place ≤ l.count;
  left : has_word (drop l.place (g.C.ClusterList.clusters l.clusters)) ≡ has_word (g.C.ClusterList.clusters l.clusters);
}

abbrev pub decreases-loop-place : goal.decreases-loop-place
decreases-loop-place g l = l.count - l.place
