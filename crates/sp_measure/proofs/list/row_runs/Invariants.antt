use Rattle.std.proofs.Common.{◌≡◌, ◌++◌, drop}
use Rattle.spec_pages.specs.Wrapping.{runs_from, runs_of}
use Rattle.sp_measure.proofs.list.row_runs.Given as goal

abbrev pub invariant-loop-cluster : goal.invariant-loop-cluster
invariant-loop-cluster l = l.runs.items ++ runs_from l.run (drop l.cluster-index l.rest) ≡ runs_of l.clusters
