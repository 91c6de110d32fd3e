use Rattle.std.proofs.Common.{◌≡◌, ◌+◌, ◌≤◌, ◌++◌, ◌∷◌, [], length, arith, ap, subst, ◌∙◌, map}
use Rattle.std.proofs.lemmas.List.{length-map, take_all}
use Rattle.spec_script.specs.BlockValues.{StanzaOf}
use Rattle.spec_edit.specs.Settling.{IsSettledBefore}
use Rattle.spec_edit.specs.Windows.{stanza_lines_in}
use Rattle.sp_reread.specs.Piles.{EntryOf, stanza_in}
use Rattle.sp_reread.proofs.PileLaws.{summed-push, told-push}
use Rattle.sp_reread.proofs.pile.Pile.push_told.Goals as goal

pub invariant_of-self : goal.invariant_of-self
invariant_of-self c =
    let old = c.args.self.now.stanzas in
    let entries = c.self.inside.entries.items in
    let more = c.stanza.inside.lines in
    let settled = c.settled_with-settled.result in
    let entry : EntryOf = record { end = c.lines_in.result + more; settled = settled; stanza = c.args.stanza } in
    let same : more ≡ c.args.stanza.lines = ap (λ (s : StanzaOf). s.lines) c.stanza.view_is in
    let whole : c.lines_in.result ≡ stanza_lines_in old = c.lines_in.ensures ∙ ap stanza_lines_in (take_all c.len.result old (omega (arith, c.len.ensures.len))) in
    let sum : c.lines_in.result ≡ stanza_lines_in (map stanza_in entries) = rw (← c.self.view_is) at whole in
    let bound : c.lines_in.result + more ≤ 18446744073709551615 = omega (arith, whole, same, c.requires.low) in
    let told : IsSettledBefore (map stanza_in entries ++ c.args.stanza ∷ []) (length (map stanza_in entries) + 1) settled =
    rw (← c.self.view_is) at (c.settled_with-settled.ensures c.args.stanza c.requires.told)
    in
    let last = subst (λ n. IsSettledBefore (map stanza_in entries ++ c.args.stanza ∷ []) (n + 1) settled) (length-map entries stanza_in) told in
    rw c.push_reserved.ensures.items (
      summed-push entries entry c.self.invariant.0 (omega (arith, sum, same)) (omega (arith, sum, same, bound)),
      told-push entries entry c.self.invariant.1 last,
    )
