use Rattle.std.proofs.Common.{◌≡◌, take, drop}
use Rattle.sp_reread.specs.Piles.{summaries}
use Rattle.sp_reread.proofs.stanzas.Stanzas.are_alike.Given as goal

abbrev pub invariant-loop-k : goal.invariant-loop-k
invariant-loop-k l = take l.k (summaries l.stanzas) ≡ take l.k (drop l.at (summaries l.self.stanzas))
