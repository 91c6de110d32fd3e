use Rattle.std.proofs.Common.{◌≡◌, ◌≤◌, length, take}
use Rattle.sp_refill.specs.Neighbours.{last_in}
use Rattle.sp_refill.proofs.blocks.last_of.Given as goal

abbrev pub invariant-loop-place : goal.invariant-loop-place
invariant-loop-place l = (l.place ≤ length l.stanzas) × (last_in l.stanzas ≡ last_in (take l.place l.stanzas))

abbrev pub decreases-loop-place : goal.decreases-loop-place
decreases-loop-place l = l.place
