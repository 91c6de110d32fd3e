use Rattle.std.proofs.Common.{◌≡◌, ◌+◌, ◌-◌, ◌*◌, ◌≤◌, ◌++◌, true, length, drop}
use Rattle.std.specs.Str.{IsCharBoundary}
use Rattle.unicode_segmentation.specs.Grapheme.{graphemes}
use Rattle.spec_pages.specs.Clusters.{clusters_at}
use Rattle.spec_pages.specs.Wrapping.{total_width}
use Rattle.sp_measure.proofs.clusters.add_clusters.Given as goal

abbrev pub invariant-loop-at : goal.invariant-loop-at
invariant-loop-at l = record {
  start : IsCharBoundary l.text l.at;
  items : l.out.items ++ clusters_at l.style (l.from + l.at) (graphemes true (drop l.at l.text))
      ≡ l.fn.out.items ++ clusters_at l.style l.from (graphemes true l.text);
  wide : total_width l.out.items ≤ total_width l.fn.out.items + 4 * l.at;
}

abbrev pub decreases-loop-at : goal.decreases-loop-at
decreases-loop-at l = length l.text - l.at
