use Rattle.std.proofs.Common.{◌≡◌, ◌+◌, ◌++◌, take, drop, slice_range, vec_len, vec_capacity}
use Rattle.std.specs.VecDeque.{deque_len, deque_capacity}
use Rattle.sp_gap.specs.Runs.{exchanged}
use Rattle.sp_gap.specs.Gaps.{turned}
use Rattle.sp_gap.proofs.gap_list.swap_run.Given as goal

abbrev pub invariant-loop-k : goal.invariant-loop-k
invariant-loop-k g l = record {
  list : turned l.behind l.ring.items ≡ exchanged (turned l.behind l.initial.ring.items) l.from (l.from + l.k) (take l.k l.initial.items.items);
  others : l.items.items ≡ slice_range (turned l.behind l.initial.ring.items) l.from (l.from + l.k) ++ drop l.k l.initial.items.items;
  len : deque_len l.ring ≡ deque_len l.initial.ring;
  others_len : vec_len l.items ≡ vec_len l.initial.items;
  room : deque_capacity l.ring ≡ deque_capacity l.initial.ring;
  others_room : vec_capacity l.items ≡ vec_capacity l.initial.items;
}
