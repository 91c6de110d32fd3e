-- The blocks of a stanza lie in its text.
use Rattle.std.proofs.Common.{◌≡◌, ℕ, zero, suc, ◌+◌, ◌-◌, ◌<◌, ◌≤◌, Bool, true, false, List, [], ◌∷◌, ◌++◌, length, map, get_or, refl, sym, subst, arith}
use Rattle.std.specs.Prelude.{All, nat_lt}
use Rattle.std.specs.Str.{IsUtf8}
use Rattle.std.proofs.lemmas.Bool.{ltb-true, ltb-false}
use Rattle.std.proofs.lemmas.List.Elements.{All-nil, All-cons, All-head, All-tail, All-append, All-map}
use Rattle.spec_text.specs.Limits.{line_count_limit}
use Rattle.spec_script.specs.BlockValues.{BlockOf, StanzaOf}
use Rattle.spec_script.specs.BlockParts.{Rise, line_from, line_to, block_from, block_to, BlockParts, StanzaParts, BlockLies}
use Rattle.spec_script.specs.Stanzas.{PlacedBlock, blocks_from, blocks_of, stanza_at, stanzas_from}
use Rattle.spec_script.specs.Elements.{placed_at, PlacedLies, PlacesRise}
use Rattle.spec_script.proofs.BlockParts.{stanza-parts}
use Rattle.spec_script.proofs.StanzaList.{stanza-leads_on, stanzas-end}

-- Things that rise from a place to another are no more than the places between.
rise-length : {X : Type 0} (from to : X → ℕ) (low high : ℕ) (xs : List X) → Rise from to low high xs → low + length xs ≤ high
rise-length from to low high [] rise = omega (arith, rise)
rise-length from to low high (x ∷ xs) rise =
    let later = rise-length from to (to x) high xs rise.2 in
    omega (arith, rise.0, rise.1, later)

blocks-lie : (texts : List (List ℕ)) (first count low : ℕ) (blocks : List BlockOf) → length texts ≤ line_count_limit → first + count ≤ length texts
    → All (BlockParts texts first count) blocks → Rise block_from block_to low count blocks → All (BlockLies texts first) blocks
blocks-lie texts first count low [] few within parts rise = All-nil (BlockLies texts first)
blocks-lie texts first count low (block ∷ blocks) few within parts rise =
    let here = All-head (BlockParts texts first count) block blocks parts in
    let lines = rise-length line_from line_to block.first (block.last + 1) block.lines here.rise in
    let later = rise-length block_from block_to (block_to block) count blocks rise.2 in
    All-cons (BlockLies texts first) block blocks
    (record {
      low = few;
      few = omega (arith, lines, later, few, within);
      place = omega (arith, later, within, rise.1);
      number = here.number;
      lines = λ k d h. let line = here.lines k d h in record { place = omega (arith, line.within, within); runs = line.runs };
    })
    (blocks-lie texts first count (block_to block) blocks few within (All-tail (BlockParts texts first count) block blocks parts) rise.2)

-- The blocks of a stanza that lies in a text lie in it.
pub stanza-lies : (texts : List (List ℕ)) (first : ℕ) (stanza : StanzaOf) → length texts ≤ line_count_limit → StanzaParts texts first stanza
    → All (BlockLies texts first) stanza.blocks
stanza-lies texts first stanza few parts = blocks-lie texts first stanza.lines 0 stanza.blocks few parts.within parts.blocks parts.rise

-- What holds of the places of blocks from a place on holds from an earlier one on.
PlacesRise-lower : (low high : ℕ) (blocks : List PlacedBlock) → low ≤ high → PlacesRise high blocks → PlacesRise low blocks
PlacesRise-lower low high [] below rise = tt
PlacesRise-lower low high (placed ∷ blocks) below rise = (omega (arith, below, rise.0), rise.1)

-- The blocks of one stanza, before those of later ones.
pub stanza-rises : (first low : ℕ) (blocks : List BlockOf) (later : List PlacedBlock) → low ≤ first → PlacesRise first later → PlacesRise low (map (placed_at first) blocks ++ later)
stanza-rises first low [] later below rise = PlacesRise-lower low first later below rise
stanza-rises first low (block ∷ blocks) later below rise = (below, stanza-rises first first blocks later (omega arith) rise)

-- The blocks of the stanzas from a place on.
pub record FromPlace (texts : List (List ℕ)) (first : ℕ) (blocks : List PlacedBlock) : Type 0 where
  pub lie : All (PlacedLies texts) blocks
  pub rise : PlacesRise first blocks

none-from : (texts : List (List ℕ)) (first : ℕ) → length texts ≤ first → FromPlace texts first (blocks_from first (stanzas_from texts first))
none-from texts first past =
    subst (λ ss. FromPlace texts first (blocks_from first ss)) (sym (stanzas-end texts first past)) (record { lie = All-nil (PlacedLies texts); rise = tt })

-- By whether the place is in the text.
stanzas-step : (texts : List (List ℕ)) (most first : ℕ) → All IsUtf8 texts → length texts ≤ line_count_limit
    → ((stanza : StanzaOf) → length texts - (first + stanza.lines) ≤ most → FromPlace texts (first + stanza.lines) (blocks_from (first + stanza.lines) (stanzas_from texts (first + stanza.lines))))
    → (t : Bool) → nat_lt first (length texts) ≡ t → length texts - first ≤ suc most → FromPlace texts first (blocks_from first (stanzas_from texts first))
stanzas-step texts most first utf8 few later false test low = none-from texts first (ltb-false first (length texts) test)
stanzas-step texts most first utf8 few later true test low =
    let inside = ltb-true first (length texts) test in
    let stanza = stanza_at texts first in
    let leads = stanza-leads_on texts first inside in
    let behind = later stanza (omega (arith, low, leads.some)) in
    let rest = blocks_from (first + stanza.lines) (stanzas_from texts (first + stanza.lines)) in
    subst (λ ss. FromPlace texts first (blocks_from first ss)) (sym leads.rest)
    (record {
      lie = All-append (PlacedLies texts) (map (placed_at first) stanza.blocks) rest
          (All-map (PlacedLies texts) (placed_at first) stanza.blocks (stanza-lies texts first stanza few (stanza-parts texts first utf8 inside)))
          behind.lie;
      rise = stanza-rises first first stanza.blocks rest (omega arith) (PlacesRise-lower first (first + stanza.lines) rest (omega arith) behind.rise);
    })

stanzas-lie : (texts : List (List ℕ)) (most first : ℕ) → All IsUtf8 texts → length texts ≤ line_count_limit → length texts - first ≤ most
    → FromPlace texts first (blocks_from first (stanzas_from texts first))
stanzas-lie texts zero first utf8 few low = none-from texts first (omega (arith, low))
stanzas-lie texts (suc most) first utf8 few low =
    stanzas-step texts most first utf8 few (λ stanza. stanzas-lie texts most (first + stanza.lines) utf8 few) (nat_lt first (length texts)) refl low

-- The blocks of a text lie in it, and their places rise.
pub blocks_of-lie : (texts : List (List ℕ)) → All IsUtf8 texts → length texts ≤ line_count_limit → FromPlace texts 0 (blocks_of texts)
blocks_of-lie texts utf8 few = stanzas-lie texts (length texts) 0 utf8 few (omega arith)

-- A block's place isn't behind that of the next.
next-order : (low : ℕ) (blocks : List PlacedBlock) (place : ℕ) (one other : PlacedBlock) → PlacesRise low blocks → suc place < length blocks
    → (get_or blocks place one).first ≤ (get_or blocks (suc place) other).first
next-order low [] place one other rise inside = absurd (omega (arith, inside))
next-order low (block ∷ []) place one other rise inside = absurd (omega (arith, inside))
next-order low (block ∷ next ∷ blocks) zero one other rise inside = rise.1.0
next-order low (block ∷ next ∷ blocks) (suc place) one other rise inside = next-order block.first (next ∷ blocks) place one other rise.1 (omega (arith, inside))

pub PlacesRise-order : (low : ℕ) (blocks : List PlacedBlock) (place : ℕ) (one other : PlacedBlock) → PlacesRise low blocks → place + 1 < length blocks
    → (get_or blocks place one).first ≤ (get_or blocks (place + 1) other).first
PlacesRise-order low blocks place one other rise inside =
    let same : suc place ≡ place + 1 = omega arith in
    subst (λ n. (get_or blocks place one).first ≤ (get_or blocks n other).first) same (next-order low blocks place one other rise (omega (arith, inside)))
