use Rattle.std.proofs.Common.{◌≡◌, ◌+◌, vec_len, vec_capacity}
use Rattle.std.specs.VecDeque.{deque_len, deque_capacity}
use Rattle.sp_gap.specs.Runs.{Poured}
use Rattle.sp_gap.proofs.gap_list.hand_out.Given as goal

abbrev pub invariant-loop : goal.invariant-loop
invariant-loop g l = record {
  poured : Poured l.initial.ring.items l.initial.items.items l.ring.items l.items.items l.counter;
  ring_len : deque_len l.ring + l.counter ≡ deque_len l.initial.ring;
  items_len : vec_len l.items ≡ vec_len l.initial.items + l.counter;
  ring_room : deque_capacity l.ring ≡ deque_capacity l.initial.ring;
  items_room : vec_capacity l.items ≡ vec_capacity l.initial.items;
}
