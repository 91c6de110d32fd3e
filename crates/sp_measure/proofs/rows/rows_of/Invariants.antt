use Rattle.std.proofs.Common.{◌<◌, ◌^◌, length, map}
use Rattle.spec_pages.specs.Wrapping.{total_width, rows_of, row_of}
use Rattle.spec_pages.proofs.WrapLemmas.{IsUnderWay}
use Rattle.sp_measure.proofs.rows.rows_of.Given as goal

abbrev pub invariant-loop-rest : goal.invariant-loop-rest
invariant-loop-rest g l = record {
  small : total_width (g.C.ClusterList.clusters l.rest) < 2 ^ 32;
  under_way : IsUnderWay l.width l.rows.items (g.C.ClusterList.clusters l.rest) (map row_of (rows_of l.width (g.C.ClusterList.clusters l.fn.clusters)));
}

abbrev pub decreases-loop-rest : goal.decreases-loop-rest
decreases-loop-rest g l = length (g.C.ClusterList.clusters l.rest)
