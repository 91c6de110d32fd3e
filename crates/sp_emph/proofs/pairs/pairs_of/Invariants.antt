use Rattle.std.proofs.Common.{◌≤◌, length}
use Rattle.sp_emph.proofs.PairWalk.{IsUnderWay}
use Rattle.sp_emph.proofs.pairs.pairs_of.Given as goal

abbrev pub invariant-loop-index : goal.invariant-loop-index
invariant-loop-index l = record {
  within : l.used ≤ length l.markers;
  under_way : IsUnderWay l.layer l.line l.markers l.pairs.items l.index l.used;
}
