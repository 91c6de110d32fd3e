use Rattle.std.proofs.Common.{◌+◌, ◌++◌, ◌∷◌, [], length, sym, subst, ◌∙◌}
use Rattle.spec_edit.specs.Settling.{IsSettledBefore}
use Rattle.sp_reread.proofs.SettlingLaws.{settled-with, settled-without}
use Rattle.sp_reread.proofs.pile.Pile.settled_with.Goals as goal

pub returns-then-settles : goal.returns-then-settles
returns-then-settles c = λ stanza told.
    let stanzas = c.args.self.now.stanzas in
    subst (λ n. IsSettledBefore (stanzas ++ stanza ∷ []) (length stanzas + 1) (n + 1)) (sym c.len-count.ensures.len) (settled-with stanzas stanza (sym told ∙ c.if-settles.true))

pub returns-else-settles : goal.returns-else-settles
returns-else-settles c = λ stanza told.
    let stanzas = c.args.self.now.stanzas in
    settled-without stanzas stanza c.settled_in.result (sym told ∙ c.if-settles.false) (subst (λ n. IsSettledBefore stanzas n c.settled_in.result) c.len-count.ensures.len c.settled_in.ensures)
