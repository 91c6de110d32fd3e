-- The blocks of stanzas, stanza by stanza.
use Rattle.std.proofs.Common.{◌≡◌, ℕ, suc, ◌+◌, ◌-◌, ◌<◌, List, [], ◌∷◌, ◌++◌, map, take, drop, slice_get, slice_range, Some, sym, ap, ◌∙◌, arith, append_assoc}
use Rattle.std.proofs.lemmas.List.{drop_more, take_more}
use Rattle.std.proofs.lemmas.List.Sums.{sum_by_push}
use Rattle.std.proofs.lemmas.Option.{slice_get_within, get_or_from_slice_get}
use Rattle.spec_script.specs.BlockValues.{StanzaOf}
use Rattle.spec_script.specs.Elements.{placed_at}
use Rattle.spec_script.specs.Stanzas.{PlacedBlock, blocks_from}
use Rattle.spec_edit.specs.Windows.{stanza_lines_in}

-- The next stanza's blocks, and those of the stanzas behind it, up to a place.
pub blocks_from-next : (placed : List PlacedBlock) (stanzas : List StanzaOf) (i to : ℕ) (stanza : StanzaOf) → slice_get stanzas i ≡ Some stanza → i < to
    → (placed ++ map (placed_at (stanza_lines_in (take i stanzas))) stanza.blocks) ++ blocks_from (stanza_lines_in (take (i + 1) stanzas)) (slice_range stanzas (i + 1) to)
    ≡ placed ++ blocks_from (stanza_lines_in (take i stanzas)) (slice_range stanzas i to)
blocks_from-next placed stanzas i to stanza at order =
    let inside = slice_get_within stanzas i stanza at in
    let is = get_or_from_slice_get stanzas i stanza stanza at in
    let first = stanza_lines_in (take i stanzas) in
    let own = map (placed_at first) stanza.blocks in
    let behind = slice_range stanzas (i + 1) to in
    let later : drop i stanzas ≡ stanza ∷ drop (i + 1) stanzas = drop_more stanzas i stanza inside ∙ ap (λ (it : StanzaOf). it ∷ drop (i + 1) stanzas) is in
    let count : to - i ≡ suc (to - (i + 1)) = omega (arith, order) in
    let front : slice_range stanzas i to ≡ stanza ∷ behind = ap (take (to - i)) later ∙ ap (λ n. take n (stanza ∷ drop (i + 1) stanzas)) count in
    let before : take (i + 1) stanzas ≡ take i stanzas ++ stanza ∷ [] = take_more stanzas i stanza inside ∙ ap (λ (it : StanzaOf). take i stanzas ++ it ∷ []) is in
    let lines : stanza_lines_in (take (i + 1) stanzas) ≡ first + stanza.lines = ap stanza_lines_in before ∙ sum_by_push (λ (it : StanzaOf). it.lines) (take i stanzas) stanza in
    append_assoc placed own (blocks_from (stanza_lines_in (take (i + 1) stanzas)) behind)
    ∙ ap (λ n. placed ++ (own ++ blocks_from n behind)) lines
    ∙ sym (ap (λ those. placed ++ blocks_from first those) front)
