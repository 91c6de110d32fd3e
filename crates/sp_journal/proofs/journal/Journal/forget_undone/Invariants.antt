use Rattle.std.proofs.Common.{◌≡◌, drop}
use Rattle.std.specs.VecDeque.{deque_capacity}
use Rattle.sp_journal.proofs.journal.Journal.forget_undone.Given as goal

abbrev pub invariant-loop : goal.invariant-loop
invariant-loop g l =
    let now = l.self-inside in
    let was = l.initial.self-inside in
    (now.entries.items ≡ drop l.counter was.entries.items) × (now.undone ≡ was.undone) × (deque_capacity now.entries ≡ deque_capacity was.entries)
