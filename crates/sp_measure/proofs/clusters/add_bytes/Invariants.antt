use Rattle.std.proofs.Common.{◌≡◌, ◌+◌, ◌++◌, drop}
use Rattle.spec_pages.specs.Clusters.{byte_clusters}
use Rattle.spec_pages.specs.Wrapping.{total_width}
use Rattle.sp_measure.proofs.clusters.add_bytes.Given as goal

abbrev pub invariant-loop-byte : goal.invariant-loop-byte
invariant-loop-byte l = record {
  at : l.at ≡ l.from + l.byte-index;
  items : l.out.items ++ byte_clusters l.style l.at (drop l.byte-index l.bytes)
      ≡ l.fn.out.items ++ byte_clusters l.style l.from l.bytes;
  width : total_width l.out.items ≡ total_width l.fn.out.items + l.byte-index;
}
