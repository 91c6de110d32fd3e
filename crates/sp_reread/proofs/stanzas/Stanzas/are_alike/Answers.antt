use Rattle.std.proofs.Common.{◌≡◌, ◌+◌, ◌<◌, length, get_or, sym, ap, ◌∙◌, arith}
use Rattle.std.proofs.lemmas.Bool.{OnTrue_at}
use Rattle.std.proofs.lemmas.Option.{get_or_from_slice_get}
use Rattle.std.proofs.lemmas.List.{length-map, get_or-map}
use Rattle.sp_reread.specs.Piles.{summaries, summary_of}
use Rattle.sp_reread.proofs.Exchanges.{alike-more}
use Rattle.sp_reread.proofs.stanzas.Stanzas.are_alike.Goals as goal

pub loop-k-preserved : goal.loop-k-preserved
loop-k-preserved c =
    let all = c.args.self.now.stanzas in
    let stanzas = c.args.stanzas.now in
    let at = c.args.at in
    let k = c.loop-k.k in
    let old = c.stanza-old.result.now in
    let new = c.index-stanzas-k.result in
    let d = summary_of old in
    let inside : k < length stanzas = omega (arith, c.loop-k-test.true) in
    let within : at + k < length all = omega (arith, inside, c.requires.place) in
    let was : get_or (summaries all) (at + k) d ≡ summary_of old = get_or-map summary_of all (at + k) old d within ∙ ap summary_of (get_or_from_slice_get all (at + k) old old c.stanza-old.ensures) in
    let is : get_or (summaries stanzas) k d ≡ summary_of (get_or stanzas k new) = get_or-map summary_of stanzas k new d inside in
    alike-more (summaries stanzas) (summaries all) at k d c.loop-k.invariant (omega (arith, inside, length-map stanzas summary_of)) (omega (arith, within, length-map all summary_of))
    (was ∙ OnTrue_at c.if-not-is_like.false c.is_like.ensures ∙ ap summary_of c.index-stanzas-k.is ∙ sym is)
