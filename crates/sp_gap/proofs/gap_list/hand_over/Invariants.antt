use Rattle.std.proofs.Common.{◌≡◌, ◌+◌}
use Rattle.std.specs.VecDeque.{deque_len, deque_capacity}
use Rattle.sp_gap.specs.Runs.{HandedOver}
use Rattle.sp_gap.proofs.gap_list.hand_over.Given as goal

abbrev pub invariant-loop : goal.invariant-loop
invariant-loop g l = record {
  handed : HandedOver l.initial.from.items l.initial.to.items l.from.items l.to.items l.counter;
  from_len : deque_len l.from + l.counter ≡ deque_len l.initial.from;
  to_len : deque_len l.to ≡ deque_len l.initial.to + l.counter;
  from_room : deque_capacity l.from ≡ deque_capacity l.initial.from;
  to_room : deque_capacity l.to ≡ deque_capacity l.initial.to;
}
