-- The blocks of a text stand in it one behind another, and so do its elements.
use Rattle.std.proofs.Common.{◌≡◌, ℕ, zero, suc, ◌+◌, ◌-◌, ◌≤◌, Bool, true, false, List, [], ◌∷◌, ◌++◌, length, map, Option, refl, sym, subst, arith}
use Rattle.std.specs.Prelude.{All, nat_lt}
use Rattle.std.specs.Str.{IsUtf8}
use Rattle.std.proofs.lemmas.Bool.{ltb-true, ltb-false}
use Rattle.std.proofs.lemmas.List.Elements.{All-nil, All-head, All-tail, All-append, All-map}
use Rattle.spec_text.specs.Limits.{line_count_limit}
use Rattle.spec_text.specs.Lines.{LineState, line_texts}
use Rattle.spec_script.specs.LongestRuns.{Group}
use Rattle.spec_script.specs.BlockValues.{BlockOf, StanzaOf}
use Rattle.spec_script.specs.BlockParts.{Rise, line_from, line_to, block_from, block_to}
use Rattle.spec_script.specs.Stanzas.{PlacedBlock, blocks_from, blocks_of, stanza_at, stanzas_from}
use Rattle.spec_script.specs.Elements.{placed_at, is_dual, PlacedLies, PlacesRise}
use Rattle.spec_script.proofs.BlockParts.{stanza-parts}
use Rattle.spec_script.proofs.BlockPlaces.{blocks_of-lie}
use Rattle.spec_script.proofs.RunSteps.{one_alone, two_together}
use Rattle.spec_script.proofs.SpeechParts.{IsUniform, blocks-uniform}
use Rattle.spec_script.proofs.StanzaList.{stanza-leads_on, stanzas-end}
use Rattle.spec_sheets.specs.Speakers.{Spoken, speaker_after, spoken_elements}
use Rattle.spec_sheets.proofs.SpokenLaws.{spoken_alone, spoken_pair, spoken_elements-alone, spoken_elements-pair}

-- Where a block begins in the text, and the place behind it.
abbrev pub placed_from : PlacedBlock → ℕ
placed_from placed = placed.first + block_from placed.block

abbrev pub placed_to : PlacedBlock → ℕ
placed_to placed = placed.first + block_to placed.block

-- The lines of a block stand in it, in order.
abbrev pub LinesRise : PlacedBlock → Type 0
LinesRise placed = Rise line_from line_to placed.block.first (placed.block.last + 1) placed.block.lines

-- Blocks stand in the text from a place on, in order, and so do their lines.
record Standing (texts : List (List ℕ)) (first : ℕ) (blocks : List PlacedBlock) : Type 0 where
  lines : All LinesRise blocks
  rise : Rise placed_from placed_to first (length texts) blocks

rise-lower : (low at high : ℕ) (blocks : List PlacedBlock) → low ≤ at → Rise placed_from placed_to at high blocks → Rise placed_from placed_to low high blocks
rise-lower low at high [] below rise = omega (arith, below, rise)
rise-lower low at high (block ∷ blocks) below rise = (omega (arith, below, rise.0), rise.1, rise.2)

-- The blocks of a stanza, and those of the stanzas behind it.
stanza-rises : (first low count high : ℕ) (blocks : List BlockOf) (later : List PlacedBlock) → Rise block_from block_to low count blocks → Rise placed_from placed_to (first + count) high later
    → Rise placed_from placed_to (first + low) high (map (placed_at first) blocks ++ later)
stanza-rises first low count high [] later here behind = rise-lower (first + low) (first + count) high later (omega (arith, here)) behind
stanza-rises first low count high (block ∷ blocks) later here behind =
    (omega (arith, here.0), omega (arith, here.1), stanza-rises first (block_to block) count high blocks later here.2 behind)

stanzas-step : (texts : List (List ℕ)) (most first : ℕ) → All IsUtf8 texts → first ≤ length texts
    → ((stanza : StanzaOf) → first + stanza.lines ≤ length texts → length texts - (first + stanza.lines) ≤ most → Standing texts (first + stanza.lines) (blocks_from (first + stanza.lines) (stanzas_from texts (first + stanza.lines))))
    → (t : Bool) → nat_lt first (length texts) ≡ t → length texts - first ≤ suc most → Standing texts first (blocks_from first (stanzas_from texts first))
stanzas-step texts most first utf8 inside later false test low =
    subst (λ ss. Standing texts first (blocks_from first ss)) (sym (stanzas-end texts first (ltb-false first (length texts) test))) (record { lines = All-nil LinesRise; rise = inside })
stanzas-step texts most first utf8 inside later true test low =
    let some = ltb-true first (length texts) test in
    let stanza = stanza_at texts first in
    let leads = stanza-leads_on texts first some in
    let behind = later stanza leads.within (omega (arith, low, leads.some)) in
    let parts = stanza-parts texts first utf8 some in
    let rest = blocks_from (first + stanza.lines) (stanzas_from texts (first + stanza.lines)) in
    let start : first + 0 ≡ first = omega arith in
    subst (λ ss. Standing texts first (blocks_from first ss)) (sym leads.rest)
    (record {
      lines = All-append LinesRise (map (placed_at first) stanza.blocks) rest
          (All-map LinesRise (placed_at first) stanza.blocks (λ k d h. (parts.blocks k d h).rise))
          behind.lines;
      rise = subst (λ n. Rise placed_from placed_to n (length texts) (map (placed_at first) stanza.blocks ++ rest)) start
          (stanza-rises first 0 stanza.lines (length texts) stanza.blocks rest parts.rise behind.rise);
    })

stanzas-stand : (texts : List (List ℕ)) (most first : ℕ) → All IsUtf8 texts → first ≤ length texts → length texts - first ≤ most → Standing texts first (blocks_from first (stanzas_from texts first))
stanzas-stand texts zero first utf8 inside low =
    subst (λ ss. Standing texts first (blocks_from first ss)) (sym (stanzas-end texts first (omega (arith, low)))) (record { lines = All-nil LinesRise; rise = inside })
stanzas-stand texts (suc most) first utf8 inside low =
    stanzas-step texts most first utf8 inside (λ stanza within few. stanzas-stand texts most (first + stanza.lines) utf8 within few) (nat_lt first (length texts)) refl low

-- A block lies in the text, its lines stand in it, in order, and all of them are spoken or none is.
pub record Stands (texts : List (List ℕ)) (placed : PlacedBlock) : Type 0 where
  pub lies : PlacedLies texts placed
  pub lines : LinesRise placed
  pub speech : IsUniform placed.block

-- Blocks stand in a text between two places, in order, and their stanzas begin at a place or behind it.
pub record BlocksStand (texts : List (List ℕ)) (low high place : ℕ) (blocks : List PlacedBlock) : Type 0 where
  pub each : All (Stands texts) blocks
  pub rise : Rise placed_from placed_to low high blocks
  pub places : PlacesRise place blocks

-- The blocks of a text.
pub blocks_of-stand : (texts : List (List ℕ)) → All IsUtf8 texts → length texts ≤ line_count_limit → BlocksStand texts 0 (length texts) 0 (blocks_of texts)
blocks_of-stand texts utf8 few =
    let lie = blocks_of-lie texts utf8 few in
    let stand = stanzas-stand texts (length texts) 0 utf8 (omega arith) (omega arith) in
    let speech = blocks-uniform texts in
    record {
      each = λ k d h. record { lies = lie.lie k d h; lines = stand.lines k d h; speech = speech k d h };
      rise = stand.rise;
      places = lie.rise;
    }

-- What leads from the elements behind a place of the text to those from an earlier place on.
pub record Steps (texts : List (List ℕ)) (P : ℕ → ℕ → List (Group Spoken) → Type 0) : Type 0 where
  pub none : (low high : ℕ) → low ≤ high → P low high []
  pub single : (low high : ℕ) (it : Spoken) (others : List (Group Spoken)) → Stands texts it.placed → low ≤ placed_from it.placed → P (placed_to it.placed) high others
      → P low high (one_alone it ∷ others)
  pub double : (low high : ℕ) (left right : Spoken) (others : List (Group Spoken)) → Stands texts left.placed → Stands texts right.placed → is_dual left.placed right.placed ≡ true
      → left.placed.first ≤ right.placed.first → low ≤ placed_from left.placed → placed_to left.placed ≤ placed_from right.placed → P (placed_to right.placed) high others
      → P low high (two_together left right ∷ others)

-- By whether the first two blocks are dual dialogue.
elements-step : (P : ℕ → ℕ → List (Group Spoken) → Type 0) (speakers : Bool) (lines : List LineState) (last : Option (List ℕ)) (low high : ℕ) (block next : PlacedBlock) (blocks : List PlacedBlock)
    → let behind = speaker_after (line_texts lines) last block in (t : Bool) → is_dual block next ≡ t
    → P low high (spoken_alone speakers lines last block ∷ spoken_elements speakers lines behind (next ∷ blocks))
    → (is_dual block next ≡ true → P low high (spoken_pair speakers lines last block next ∷ spoken_elements speakers lines (speaker_after (line_texts lines) behind next) blocks))
    → P low high (spoken_elements speakers lines last (block ∷ next ∷ blocks))
elements-step P speakers lines last low high block next blocks true dual apart both = subst (P low high) (sym (spoken_elements-pair speakers lines last block next blocks dual)) (both dual)
elements-step P speakers lines last low high block next blocks false other apart both = subst (P low high) (sym (spoken_elements-alone speakers lines last block next blocks other)) apart

-- What such steps lead to holds of the elements of blocks behind a last speaker.
pub spoken_elements-rise : (speakers : Bool) (lines : List LineState) (P : ℕ → ℕ → List (Group Spoken) → Type 0) → Steps (line_texts lines) P → (last : Option (List ℕ)) (low high place : ℕ)
    (blocks : List PlacedBlock) → BlocksStand (line_texts lines) low high place blocks → P low high (spoken_elements speakers lines last blocks)
spoken_elements-rise speakers lines P steps last low high place [] stand = steps.none low high stand.rise
spoken_elements-rise speakers lines P steps last low high place (block ∷ []) stand =
    let rise = stand.rise in
    steps.single low high _ [] (All-head (Stands (line_texts lines)) block [] stand.each) rise.0 (steps.none (placed_to block) high rise.2)
spoken_elements-rise speakers lines P steps last low high place (block ∷ next ∷ blocks) stand =
    let texts = line_texts lines in
    let here = All-head (Stands texts) block (next ∷ blocks) stand.each in
    let behind = All-tail (Stands texts) block (next ∷ blocks) stand.each in
    let there = All-head (Stands texts) next blocks behind in
    let rise = stand.rise in
    let places = stand.places in
    let after = speaker_after texts last block in
    elements-step P speakers lines last low high block next blocks (is_dual block next) refl
    (steps.single low high _ _ here rise.0
    (spoken_elements-rise speakers lines P steps after (placed_to block) high block.first (next ∷ blocks) (record { each = behind; rise = rise.2; places = places.1 })))
    (λ dual. steps.double low high _ _ _ here there dual places.1.0 rise.0 rise.2.0
    (spoken_elements-rise speakers lines P steps (speaker_after texts after next) (placed_to next) high next.first blocks
    (record { each = All-tail (Stands texts) next blocks behind; rise = rise.2.2; places = places.1.1 })))
