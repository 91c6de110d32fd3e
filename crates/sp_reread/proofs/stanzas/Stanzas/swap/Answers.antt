use Rattle.std.proofs.Common.{◌≡◌, ◌+◌, ◌-◌, ◌++◌, length, set, slice_get, reverse, ap, sym, ◌∙◌, arith}
use Rattle.std.proofs.lemmas.List.{length-append, length-reverse, length-set, set-append_left}
use Rattle.spec_text.proofs.ListLaws.{slice_get-front}
use Rattle.sp_text.proofs.Pairs.{set-behind}
use Rattle.sp_reread.specs.Cache.{StanzasState}
use Rattle.sp_reread.specs.Piles.{summaries, summary_of}
use Rattle.sp_reread.proofs.PileLaws.{same-lines, summaries-set, summary-behind, summary-front, get-behind}
use Rattle.sp_reread.proofs.stanzas.Stanzas.swap.Goals as goal

pub invariant_of-self : goal.invariant_of-self
invariant_of-self c =
    let front = c.self.inside.front.stanzas in
    let many : length c.swap.new.self.stanzas ≡ length front = ap length c.swap.ensures.stanzas ∙ length-set front c.args.i c.args.stanza.now in (
      omega (arith, c.self.invariant.0, many, c.swap.ensures.room),
      omega (arith, c.self.invariant.1, many),
      omega (arith, c.self.invariant.2, same-lines c.swap.new.self.stanzas front c.swap.ensures.summaries),
    )

pub swap-requires : goal.swap-requires
swap-requires c =
    let front = c.self.inside.front.stanzas in
    let back = c.self.inside.back.stanzas in
    let view = ap (λ (x : StanzasState). x.stanzas) c.self.view_is in
    summary-front front back c.args.i (summary_of c.args.stanza.now) (omega (arith, c.if-i-before.true, c.len-before.ensures.len)) (ap (λ xs. slice_get (summaries xs) c.args.i) view ∙ c.requires.alike)

pub swap-requires-else-i-before : goal.swap-requires-else-i-before
swap-requires-else-i-before c =
    let front = c.self.inside.front.stanzas in
    let back = c.self.inside.back.stanzas in
    let view = ap (λ (x : StanzasState). x.stanzas) c.self.view_is in
    let total : length front + length back ≡ length c.args.self.now.stanzas = omega (arith, ap length view, length-append front (reverse back), length-reverse back) in
    summary-behind front back c.args.i (c.len.result - 1 - (c.args.i - c.len-before.result)) c.args.stanza.now (summary_of c.args.stanza.now) (omega (arith, c.if-i-before.false, c.len-before.ensures.len)) (omega (arith, c.requires.place, total)) (omega (arith, c.len.ensures.len, c.len-before.ensures.len))
    (ap (λ xs. slice_get (summaries xs) c.args.i) view ∙ c.requires.alike)

pub invariant_of-self-else-i-before : goal.invariant_of-self-else-i-before
invariant_of-self-else-i-before c =
    let back = c.self.inside.back.stanzas in
    let new = c.swap-else-i-before.new.self.stanzas in
    let many : length new ≡ length back = ap length c.swap-else-i-before.ensures.stanzas ∙ length-set back (c.len.result - 1 - (c.args.i - c.len-before.result)) c.args.stanza.now in (
      omega (arith, c.self.invariant.0, many),
      omega (arith, c.self.invariant.1, many, c.swap-else-i-before.ensures.room),
      omega (arith, c.self.invariant.2, same-lines new back c.swap-else-i-before.ensures.summaries),
    )

pub returns-then-i-before-clause-stanzas : goal.returns-then-i-before-clause-stanzas
returns-then-i-before-clause-stanzas c =
    let front = c.self.inside.front.stanzas in
    let back = reverse c.self.inside.back.stanzas in
    let view = ap (λ (x : StanzasState). x.stanzas) c.self.view_is in
    ap (λ xs. xs ++ back) c.swap.ensures.stanzas ∙ sym (set-append_left front back c.args.i c.args.stanza.now (omega (arith, c.if-i-before.true, c.len-before.ensures.len)))
    ∙ ap (λ xs. set xs c.args.i c.args.stanza.now) view

pub returns-then-i-before-clause-stanza : goal.returns-then-i-before-clause-stanza
returns-then-i-before-clause-stanza c =
    let front = c.self.inside.front.stanzas in
    let back = reverse c.self.inside.back.stanzas in
    let view = ap (λ (x : StanzasState). x.stanzas) c.self.view_is in
    ap (λ xs. slice_get xs c.args.i) (sym view) ∙ slice_get-front front back c.args.i (omega (arith, c.if-i-before.true, c.len-before.ensures.len)) ∙ c.swap.ensures.stanza

pub returns-else-i-before-clause-stanzas : goal.returns-else-i-before-clause-stanzas
returns-else-i-before-clause-stanzas c =
    let front = c.self.inside.front.stanzas in
    let back = c.self.inside.back.stanzas in
    let view = ap (λ (x : StanzasState). x.stanzas) c.self.view_is in
    let k = c.len.result - 1 - (c.args.i - c.len-before.result) in
    let total : length front + length back ≡ length c.args.self.now.stanzas = omega (arith, ap length view, length-append front (reverse back), length-reverse back) in
    ap (λ xs. front ++ reverse xs) c.swap-else-i-before.ensures.stanzas
    ∙ set-behind front back c.args.i k c.args.stanza.now (omega (arith, c.if-i-before.false, c.len-before.ensures.len)) (omega (arith, c.requires.place, total)) (omega (arith, c.len.ensures.len, c.len-before.ensures.len, c.if-i-before.false))
    ∙ ap (λ xs. set xs c.args.i c.args.stanza.now) view

pub returns-else-i-before-clause-stanza : goal.returns-else-i-before-clause-stanza
returns-else-i-before-clause-stanza c =
    let front = c.self.inside.front.stanzas in
    let back = c.self.inside.back.stanzas in
    let view = ap (λ (x : StanzasState). x.stanzas) c.self.view_is in
    let total : length front + length back ≡ length c.args.self.now.stanzas = omega (arith, ap length view, length-append front (reverse back), length-reverse back) in
    ap (λ xs. slice_get xs c.args.i) (sym view)
    ∙ get-behind front back c.args.i (c.len.result - 1 - (c.args.i - c.len-before.result)) c.swap-else-i-before.new.stanza (omega (arith, c.if-i-before.false, c.len-before.ensures.len)) (omega (arith, c.requires.place, total)) (omega (arith, c.len.ensures.len, c.len-before.ensures.len)) c.swap-else-i-before.ensures.stanza

pub returns-else-i-before-clause-summaries : goal.returns-else-i-before-clause-summaries
returns-else-i-before-clause-summaries c =
    let front = c.self.inside.front.stanzas in
    let back = c.self.inside.back.stanzas in
    let view = ap (λ (x : StanzasState). x.stanzas) c.self.view_is in
    let k = c.len.result - 1 - (c.args.i - c.len-before.result) in
    let total : length front + length back ≡ length c.args.self.now.stanzas = omega (arith, ap length view, length-append front (reverse back), length-reverse back) in
    ap summaries
    (ap (λ xs. front ++ reverse xs) c.swap-else-i-before.ensures.stanzas
    ∙ set-behind front back c.args.i k c.args.stanza.now (omega (arith, c.if-i-before.false, c.len-before.ensures.len)) (omega (arith, c.requires.place, total)) (omega (arith, c.len.ensures.len, c.len-before.ensures.len, c.if-i-before.false))
    ∙ ap (λ xs. set xs c.args.i c.args.stanza.now) view) ∙ summaries-set c.args.self.now.stanzas c.args.i c.args.stanza.now c.requires.alike
