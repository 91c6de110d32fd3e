use Rattle.std.proofs.Common.{◌≡◌, vec_len, vec_capacity}
use Rattle.sp_text.specs.Paired.{IsPaired}
use Rattle.sp_reread.specs.Piles.{summaries}
use Rattle.sp_reread.proofs.stanzas.Stanzas.swap_all.Given as goal

abbrev pub invariant-loop-k : goal.invariant-loop-k
invariant-loop-k l =
    IsPaired l.initial.self.stanzas l.initial.stanzas.items l.self.stanzas l.stanzas.items l.at l.k
    × (summaries l.self.stanzas ≡ summaries l.initial.self.stanzas) × (summaries l.stanzas.items ≡ summaries l.initial.stanzas.items)
    × (l.self.room ≡ l.initial.self.room) × (vec_len l.stanzas ≡ vec_len l.initial.stanzas) × (vec_capacity l.stanzas ≡ vec_capacity l.initial.stanzas)
