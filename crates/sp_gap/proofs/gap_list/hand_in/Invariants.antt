use Rattle.std.proofs.Common.{◌≡◌, ◌+◌, vec_len, vec_capacity}
use Rattle.std.specs.VecDeque.{deque_len, deque_capacity}
use Rattle.sp_gap.specs.Runs.{HandedOver}
use Rattle.sp_gap.proofs.gap_list.hand_in.Given as goal

abbrev pub invariant-loop : goal.invariant-loop
invariant-loop g l = record {
  handed : HandedOver l.initial.items.items l.initial.ring.items l.items.items l.ring.items l.counter;
  items_len : vec_len l.items + l.counter ≡ vec_len l.initial.items;
  ring_len : deque_len l.ring ≡ deque_len l.initial.ring + l.counter;
  items_room : vec_capacity l.items ≡ vec_capacity l.initial.items;
  ring_room : deque_capacity l.ring ≡ deque_capacity l.initial.ring;
}
