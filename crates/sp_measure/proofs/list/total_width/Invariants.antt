use Rattle.std.proofs.Common.{◌≡◌, take}
use Rattle.spec_pages.specs.Wrapping.{total_width}
use Rattle.sp_measure.proofs.list.total_width.Given as goal

abbrev pub invariant-loop-cluster : goal.invariant-loop-cluster
invariant-loop-cluster l = l.total ≡ total_width (take l.cluster-index l.clusters)
