use Rattle.std.proofs.Common.{◌≡◌, ◌++◌, drop}
use Rattle.spec_pages.specs.Clusters.{byte_clusters}
use Rattle.sp_measure.specs.Shown.{shown_bytes}
use Rattle.sp_measure.proofs.Reading.{IsReading}
use Rattle.sp_measure.proofs.shown.shown_bytes.Given as goal

abbrev pub invariant-loop-run : goal.invariant-loop-run
invariant-loop-run l = record {
  reading : IsReading l.text (byte_clusters 0 0 l.bytes.items) (drop l.run-index l.runs);
  items : l.bytes.items ++ shown_bytes l.text (drop l.run-index l.runs) ≡ shown_bytes l.text l.runs;
}
