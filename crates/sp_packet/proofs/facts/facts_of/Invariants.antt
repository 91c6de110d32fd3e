use Rattle.std.proofs.Common.{◌-◌, length}
use Rattle.sp_packet.proofs.FactWalk.{Walked}
use Rattle.sp_packet.proofs.facts.facts_of.Given as goal

abbrev pub invariant-loop-index : goal.invariant-loop-index
invariant-loop-index l = Walked l.view l.index l.sheet l.facts.items

abbrev pub decreases-loop-index : goal.decreases-loop-index
decreases-loop-index l = length l.starts - l.index
