use Rattle.std.proofs.Common.{◌≡◌, ◌++◌, length, take, drop}
use Rattle.spec_text.specs.Edits.{relabelled}
use Rattle.sp_text.proofs.gap.relabel_ring.Given as goal

abbrev pub invariant-loop-at : goal.invariant-loop-at
invariant-loop-at l =
    (l.ring.items ≡ relabelled (take l.at l.initial.ring.items) (take l.at l.ids) (take l.at l.marks) ++ drop l.at l.initial.ring.items)
    × (l.ring.room ≡ l.initial.ring.room) × (length l.ring.items ≡ length l.initial.ring.items)
