use Rattle.std.proofs.Common.{◌≡◌, ◌≤◌, take}
use Rattle.sp_refill.specs.Neighbours.{last_in}
use Rattle.sp_refill.proofs.blocks.last_before.Given as goal

abbrev pub invariant-loop-place : goal.invariant-loop-place
invariant-loop-place l = (l.place ≤ l.to) × (last_in (take l.to l.stanzas.stanzas) ≡ last_in (take l.place l.stanzas.stanzas))

abbrev pub decreases-loop-place : goal.decreases-loop-place
decreases-loop-place l = l.place
