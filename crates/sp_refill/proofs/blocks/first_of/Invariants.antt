use Rattle.std.proofs.Common.{◌≡◌, ◌-◌, length, drop}
use Rattle.sp_refill.specs.Neighbours.{first_in}
use Rattle.sp_refill.proofs.blocks.first_of.Given as goal

abbrev pub invariant-loop-place : goal.invariant-loop-place
invariant-loop-place l = first_in l.stanzas ≡ first_in (drop l.place l.stanzas)

abbrev pub decreases-loop-place : goal.decreases-loop-place
decreases-loop-place l = length l.stanzas - l.place
