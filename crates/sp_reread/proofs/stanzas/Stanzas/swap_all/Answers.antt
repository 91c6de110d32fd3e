use Rattle.std.proofs.Common.{◌≡◌, ◌+◌, ◌<◌, List, Some, length, option_map, refl, set, slice_get, ap, sym, ◌∙◌, subst, arith}
use Rattle.std.proofs.lemmas.Option.{slice_get-map, slice_get_read}
use Rattle.std.proofs.lemmas.List.{length-map}
use Rattle.spec_script.specs.BlockValues.{StanzaOf}
use Rattle.sp_text.specs.Paired.{IsPaired}
use Rattle.sp_text.proofs.Pairs.{IsPaired-more}
use Rattle.sp_reread.specs.Piles.{summaries, summary_of}
use Rattle.sp_reread.proofs.PileLaws.{summaries-set}
use Rattle.sp_reread.proofs.Exchanges.{summary-at}
use Rattle.sp_reread.proofs.stanzas.Stanzas.swap_all.Goals as goal

pub loop-k-preserved : goal.loop-k-preserved
loop-k-preserved c =
    let all = c.loop-k.self.stanzas in
    let items = c.loop-k.stanzas.items in
    let all₀ = c.args.self.now.stanzas in
    let items₀ = c.args.stanzas.now.items in
    let at = c.args.at in
    let k = c.loop-k.k in
    let x = c.index_mut.result.now in
    let y = c.swap.new.stanza in
    let so_far = c.loop-k.invariant in
    let many : length all ≡ length all₀ = sym (length-map all summary_of) ∙ ap length so_far.1 ∙ length-map all₀ summary_of in
    let inside : k < length items = omega (arith, c.loop-k-test.true, c.len-k-end.ensures, c.args.stanzas.now.ok.0, so_far.4, c.loop-k.stanzas.ok.0) in
    let within : at + k < length all = omega (arith, many, c.requires.place, c.loop-k-test.true, c.len-k-end.ensures, c.args.stanzas.now.ok.0) in
    let x_is = c.index_mut.ensures.value in
    let there : slice_get items k ≡ Some x = slice_get_read items (length items) k x refl inside x_is in
    let same : slice_get (summaries items) k ≡ Some (summary_of y) =
    slice_get-map summary_of items k ∙ ap (option_map summary_of) there ∙ sym (summary-at all items all₀ items₀ at k x so_far.1 so_far.2 c.requires.alike inside within there)
    ∙ slice_get-map summary_of all (at + k) ∙ ap (option_map summary_of) c.swap.ensures.stanza
    in
    let P : List StanzaOf → Type 0 = λ xs. IsPaired all₀ items₀ xs (set items k y) at (k + 1) in (
      subst P (sym c.swap.ensures.stanzas) (IsPaired-more all₀ items₀ all items at k x y so_far.0 inside within x_is c.swap.ensures.stanza),
      c.swap.ensures.summaries ∙ so_far.1,
      summaries-set items k y same ∙ so_far.2,
      c.swap.ensures.room ∙ so_far.3,
      so_far.4,
      so_far.5,
    )
