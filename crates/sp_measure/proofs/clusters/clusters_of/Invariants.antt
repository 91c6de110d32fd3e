use Rattle.std.proofs.Common.{◌≡◌, ◌++◌, drop, flat_map}
use Rattle.spec_pages.specs.Clusters.{clusters_in, clusters_of}
use Rattle.sp_measure.proofs.Reading.{IsReading}
use Rattle.sp_measure.proofs.clusters.clusters_of.Given as goal

abbrev pub invariant-loop-run : goal.invariant-loop-run
invariant-loop-run l = record {
  reading : IsReading l.text l.out.items (drop l.run-index l.runs);
  items : l.out.items ++ flat_map (clusters_in l.text) (drop l.run-index l.runs) ≡ clusters_of l.text l.runs;
}
