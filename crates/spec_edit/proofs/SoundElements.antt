-- The elements of a text, one behind another, with what is known of their blocks.
use Rattle.std.proofs.Common.{◌≡◌, ℕ, ◌+◌, ◌<◌, ◌≤◌, Bool, true, false, List, [], ◌∷◌, length, refl, sym, subst, arith}
use Rattle.std.specs.Prelude.{All}
use Rattle.std.specs.Str.{IsUtf8}
use Rattle.std.proofs.lemmas.List.Elements.{All-head, All-tail}
use Rattle.spec_text.specs.Limits.{line_count_limit}
use Rattle.spec_script.specs.LongestRuns.{Group}
use Rattle.spec_script.specs.BlockParts.{Rise}
use Rattle.spec_script.specs.Stanzas.{PlacedBlock, blocks_of}
use Rattle.spec_script.specs.Elements.{is_dual, alone, pair, elements_in, elements_of, PlacesRise}
use Rattle.spec_script.proofs.BlockPlaces.{blocks_of-lie}
use Rattle.spec_script.proofs.ElementLaws.{elements_in-alone, elements_in-pair}
use Rattle.spec_sheets.proofs.ElementPlaces.{placed_from, placed_to, LinesRise, blocks_of-stand}

-- A block stands at lines, and its lines in it.
pub record IsSound (placed : PlacedBlock) : Type 0 where
  pub lines : LinesRise placed
  pub some : placed.block.first < placed.block.last + 1

-- What leads from the elements behind a place of the text to those from an earlier place on, where blocks meet a condition.
pub record SoundSteps (Q : PlacedBlock → Type 0) (P : ℕ → ℕ → List (Group PlacedBlock) → Type 0) : Type 0 where
  pub none : (low high : ℕ) → low ≤ high → P low high []
  pub single : (low high : ℕ) (block : PlacedBlock) (others : List (Group PlacedBlock)) → IsSound block → Q block → low ≤ placed_from block → P (placed_to block) high others
      → P low high (alone block ∷ others)
  pub double : (low high : ℕ) (left right : PlacedBlock) (others : List (Group PlacedBlock)) → IsSound left → IsSound right → is_dual left right ≡ true → left.first ≤ right.first
      → low ≤ placed_from left → placed_to left ≤ placed_from right → P (placed_to right) high others → P low high (pair left right ∷ others)

sound : (block : PlacedBlock) → LinesRise block → placed_from block < placed_to block → IsSound block
sound block lines some = record { lines = lines; some = omega (arith, some) }

-- By whether the first two blocks are dual dialogue.
step-by : (P : ℕ → ℕ → List (Group PlacedBlock) → Type 0) (low high : ℕ) (block next : PlacedBlock) (blocks : List PlacedBlock) (t : Bool) → is_dual block next ≡ t
    → P low high (alone block ∷ elements_in (next ∷ blocks)) → (is_dual block next ≡ true → P low high (pair block next ∷ elements_in blocks)) → P low high (elements_in (block ∷ next ∷ blocks))
step-by P low high block next blocks true dual apart both = subst (P low high) (sym (elements_in-pair block next blocks dual)) (both dual)
step-by P low high block next blocks false other apart both = subst (P low high) (sym (elements_in-alone block next blocks other)) apart

elements-each : (Q : PlacedBlock → Type 0) (P : ℕ → ℕ → List (Group PlacedBlock) → Type 0) → SoundSteps Q P → (low high place : ℕ) (blocks : List PlacedBlock) → All LinesRise blocks → All Q blocks
    → Rise placed_from placed_to low high blocks → PlacesRise place blocks → P low high (elements_in blocks)
elements-each Q P steps low high place [] lines each rise places = steps.none low high rise
elements-each Q P steps low high place (block ∷ []) lines each rise places =
    steps.single low high block [] (sound block (All-head LinesRise block [] lines) rise.1) (All-head Q block [] each) rise.0 (steps.none (placed_to block) high rise.2)
elements-each Q P steps low high place (block ∷ next ∷ blocks) lines each rise places =
    let behind = All-tail LinesRise block (next ∷ blocks) lines in
    let later = All-tail Q block (next ∷ blocks) each in
    let here = sound block (All-head LinesRise block (next ∷ blocks) lines) rise.1 in
    let there = sound next (All-head LinesRise next blocks behind) rise.2.1 in
    step-by P low high block next blocks (is_dual block next) refl
    (steps.single low high block (elements_in (next ∷ blocks)) here (All-head Q block (next ∷ blocks) each) rise.0 (elements-each Q P steps (placed_to block) high block.first (next ∷ blocks) behind later rise.2 places.1))
    (λ dual. steps.double low high block next (elements_in blocks) here there dual places.1.0 rise.0 rise.2.0
    (elements-each Q P steps (placed_to next) high next.first blocks (All-tail LinesRise next blocks behind) (All-tail Q next blocks later) rise.2.2 places.1.1))

-- The blocks of a text stand in it, in order.
pub record BlocksRise (texts : List (List ℕ)) (blocks : List PlacedBlock) : Type 0 where
  pub lines : All LinesRise blocks
  pub rise : Rise placed_from placed_to 0 (length texts) blocks

pub blocks-rise : (texts : List (List ℕ)) → All IsUtf8 texts → length texts ≤ line_count_limit → BlocksRise texts (blocks_of texts)
blocks-rise texts utf8 few =
    let stand = blocks_of-stand texts utf8 few in
    record { lines = λ k d h. (stand.each k d h).lines; rise = stand.rise }

-- What such steps lead to holds of the elements of a text.
pub elements-sound : (texts : List (List ℕ)) (Q : PlacedBlock → Type 0) (P : ℕ → ℕ → List (Group PlacedBlock) → Type 0) → SoundSteps Q P → All Q (blocks_of texts) → All IsUtf8 texts → length texts ≤ line_count_limit
    → P 0 (length texts) (elements_of texts)
elements-sound texts Q P steps each utf8 few =
    let stand = blocks-rise texts utf8 few in
    elements-each Q P steps 0 (length texts) 0 (blocks_of texts) stand.lines each stand.rise (blocks_of-lie texts utf8 few).rise
