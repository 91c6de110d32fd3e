use Rattle.std.proofs.Common.{◌≡◌, drop}
use Rattle.sp_print.proofs.slots.slot_at.Given as goal

abbrev pub invariant-loop : goal.invariant-loop
invariant-loop l = l.slots ≡ drop l.counter l.fn.slots
