use Rattle.std.proofs.Common.{◌≡◌, ◌≤◌, ◌++◌, ◌∷◌, drop, map}
use Rattle.sp_packet.specs.Fresh.{count_of, counts_behind, is_of_round}
use Rattle.sp_packet.proofs.fresh.fresh_counts.Given as goal

abbrev pub invariant-loop-record : goal.invariant-loop-record
invariant-loop-record l = record {
  counts : l.counts.items ++ counts_behind l.total (map (is_of_round l.round) (drop l.record-index l.records)) ≡ 0 ∷ counts_behind 0 (map (is_of_round l.round) l.records);
  total : count_of l.total (map (is_of_round l.round) (drop l.record-index l.records)) ≡ count_of 0 (map (is_of_round l.round) l.records);
  low : l.total ≤ l.record-index;
}
