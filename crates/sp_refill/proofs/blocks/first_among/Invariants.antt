use Rattle.std.proofs.Common.{◌≡◌, ◌-◌, ◌≤◌, take, drop}
use Rattle.sp_refill.specs.Neighbours.{first_in}
use Rattle.sp_refill.proofs.blocks.first_among.Given as goal

abbrev pub invariant-loop-place : goal.invariant-loop-place
invariant-loop-place l =
    (l.place ≤ l.to) × (first_in (take (l.to - l.from) (drop l.from l.stanzas.stanzas)) ≡ first_in (take (l.to - l.place) (drop l.place l.stanzas.stanzas)))

abbrev pub decreases-loop-place : goal.decreases-loop-place
decreases-loop-place l = l.to - l.place
