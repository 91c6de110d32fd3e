-- The blocks on both sides of a window are the same before and after an edit.
use Rattle.std.proofs.Common.{◌≡◌, ℕ, ◌+◌, ◌-◌, ◌≤◌, List, [], ◌∷◌, ◌++◌, map, refl, sym, ap, ap₂, ◌∙◌, inl, arith, append_assoc}
use Rattle.std.proofs.lemmas.List.{map-append}
use Rattle.std.proofs.lemmas.List.Sums.{sum_by-cons}
use Rattle.spec_script.specs.BlockValues.{StanzaOf, BlockOf}
use Rattle.spec_script.specs.Stanzas.{PlacedBlock, blocks_from, blocks_of, stanzas_from}
use Rattle.spec_script.specs.Elements.{placed_at}
use Rattle.spec_edit.specs.Windows.{IsEdited, IsWindow, stanza_lines_in, stanzas_between}
use Rattle.spec_edit.specs.WindowBlocks.{pushed, old_blocks, new_blocks, window_blocks}
use Rattle.spec_edit.proofs.Splits.{split}
use Rattle.spec_edit.proofs.Counts.{count-between}
use Rattle.spec_edit.proofs.Resync.{resync, window-cuts, window-rest, old-cuts}

abbrev lines_of : StanzaOf → ℕ
lines_of s = s.lines

placed-further : (n first : ℕ) (blocks : List BlockOf) → map (placed_at (n + first)) blocks ≡ map (pushed n) (map (placed_at first) blocks)
placed-further n first [] = refl
placed-further n first (b ∷ bs) = ap (λ (ps : List PlacedBlock). placed_at (n + first) b ∷ ps) (placed-further n first bs)

pub blocks-pushed : (n first : ℕ) (stanzas : List StanzaOf) → blocks_from (n + first) stanzas ≡ map (pushed n) (blocks_from first stanzas)
blocks-pushed n first [] = refl
blocks-pushed n first (s ∷ ss) =
    let further : n + first + s.lines ≡ n + (first + s.lines) = omega arith in
    ap₂ (λ (x y : List PlacedBlock). x ++ y) (placed-further n first s.blocks) (ap (λ m. blocks_from m ss) further ∙ blocks-pushed n (first + s.lines) ss)
    ∙ sym (map-append (pushed n) (map (placed_at first) s.blocks) (blocks_from (first + s.lines) ss))

pub blocks-append : (first : ℕ) (xs ys : List StanzaOf) → blocks_from first (xs ++ ys) ≡ blocks_from first xs ++ blocks_from (first + stanza_lines_in xs) ys
blocks-append first [] ys = let same : first ≡ first + 0 = omega arith in ap (λ n. blocks_from n ys) same
blocks-append first (x ∷ xs) ys =
    let further : first + x.lines + stanza_lines_in xs ≡ first + stanza_lines_in (x ∷ xs) = omega (arith, sum_by-cons lines_of x xs) in
    ap (λ bs. map (placed_at first) x.blocks ++ bs) (blocks-append (first + x.lines) xs ys ∙ ap (λ n. blocks_from (first + x.lines) xs ++ blocks_from n ys) further)
    ∙ sym (append_assoc (map (placed_at first) x.blocks) (blocks_from (first + x.lines) xs) (blocks_from (first + stanza_lines_in (x ∷ xs)) ys))

-- The blocks of stanzas that stand up to a place and from there on.
blocks-parts : (a c : ℕ) (front middle rest : List StanzaOf) → stanza_lines_in front ≡ a → stanza_lines_in middle ≡ c - a → a ≤ c → blocks_from 0 (front ++ (middle ++ rest)) ≡ blocks_from 0 front ++ (blocks_from a middle ++ map (pushed c) (blocks_from 0 rest))
blocks-parts a c front middle rest one two order =
    let start : 0 + stanza_lines_in front ≡ a = omega (arith, one) in
    let end : a + stanza_lines_in middle ≡ c + 0 = omega (arith, two, order) in
    blocks-append 0 front (middle ++ rest)
    ∙ ap (λ n. blocks_from 0 front ++ blocks_from n (middle ++ rest)) start
    ∙ ap (λ bs. blocks_from 0 front ++ bs) (blocks-append a middle rest ∙ ap (λ n. blocks_from a middle ++ blocks_from n rest) end ∙ ap (λ bs. blocks_from a middle ++ bs) (blocks-pushed c 0 rest))

-- The blocks of both texts, by the window.
pub window-blocks : (before after : List (List ℕ)) (first old new a b : ℕ) → IsEdited before after first old new → IsWindow before after first old new a b → (blocks_of before ≡ old_blocks (window_blocks before after a b (b + old - new))) × (blocks_of after ≡ new_blocks (window_blocks before after a b (b + old - new)))
window-blocks before after first old new a b e w =
    let was = b + old - new in
    let cuts = window-cuts before after first old new a b e w in
    let olds = old-cuts before after first old new a b e w in
    let rest = window-rest before after first old new b e w.end in
    let front : stanza_lines_in (stanzas_between before 0 a) ≡ a = count-between before 0 a (omega (arith, olds.0, olds.3)) ∙ omega arith in (
      ap (blocks_from 0) (split before 0 a (omega arith) (inl olds.1) ∙ ap (λ ss. stanzas_between before 0 a ++ ss) (split before a was olds.0 olds.2))
          ∙ blocks-parts a was (stanzas_between before 0 a) (stanzas_between before a was) (stanzas_from before was) front (count-between before a was olds.3) olds.0
          ∙ ap (λ ss. blocks_from 0 (stanzas_between before 0 a) ++ (blocks_from a (stanzas_between before a was) ++ map (pushed was) (blocks_from 0 ss))) (sym rest),
      ap (blocks_from 0) (resync before after first old new a b e w ∙ ap (λ ss. stanzas_between before 0 a ++ (stanzas_between after a b ++ ss)) (sym rest))
          ∙ blocks-parts a b (stanzas_between before 0 a) (stanzas_between after a b) (stanzas_from after b) front (count-between after a b cuts.3) cuts.0,
    )
