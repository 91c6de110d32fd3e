-- The headings of a text.
use Rattle.std.proofs.Common.{◌≡◌, ℕ, ◌+◌, ◌<◌, ◌≤◌, Bool, true, false, ◌&&◌, cond, leb, Option, Some, None, List, [], ◌∷◌, length, map, get_or, refl, sym, ◌∙◌, arith}
use Rattle.std.specs.Prelude.{All, AllPairs, IfSome, OnSome, IsTrue, filter, option_and_then}
use Rattle.std.specs.List.{list_all}
use Rattle.std.specs.Str.{IsUtf8}
use Rattle.std.proofs.lemmas.Bool.{and_parts, leb-true}
use Rattle.std.proofs.lemmas.List.{length-map}
use Rattle.std.proofs.lemmas.List.Elements.{All-nil, All-cons, All-map}
use Rattle.std.proofs.lemmas.List.Kept.{AllPairs-cons}
use Rattle.spec_text.specs.Limits.{line_count_limit}
use Rattle.spec_text.specs.Lines.{LineState, line_texts}
use Rattle.spec_script.specs.BlockParts.{Rise}
use Rattle.spec_script.specs.Stanzas.{PlacedBlock, blocks_of}
use Rattle.spec_labels.specs.Labels.{LabelOf}
use Rattle.spec_labels.specs.LabelReading.{label_read, IsReading}
use Rattle.spec_labels.specs.Scenes.{HeadingOf, IsSceneLabel, IsNumbered, AreHeadings, scene_number_limit, scene_step_limit}
use Rattle.spec_labels.proofs.LabelReadings.{label_read-IsReading}
use Rattle.spec_sheets.proofs.ElementPlaces.{placed_from, placed_to, blocks_of-stand}
use Rattle.spec_text.specs.EditedLines.{no_line, line_of, HasIds}
use Rattle.spec_state.specs.Headings.{is_heading_block, is_numbered, number_text, letter_limit, as_scene_label, heading_of, headings_of}

-- ---- headings

-- A number that was read is a scene label, and written.
numbered : (lines : List LineState) (placed : PlacedBlock) → IsNumbered (heading_of lines placed)
numbered lines placed = record { is_label = label (is_numbered placed); is_written = written (is_numbered placed) }
  where
    text : List ℕ
    text = number_text (line_texts lines) placed

    within : (o : Option LabelOf) → IsReading text o → IfSome (option_and_then as_scene_label o) IsSceneLabel
    within None reads = tt
    within (Some it) reads = by (leb it.number scene_number_limit && (leb (length it.path) scene_step_limit && list_all (λ step. leb step letter_limit) it.path)) refl
      where
        by : (b : Bool) → (leb it.number scene_number_limit && (leb (length it.path) scene_step_limit && list_all (λ step. leb step letter_limit) it.path)) ≡ b → IfSome (cond b (Some it) None) IsSceneLabel
        by false is = tt
        by true is =
            let parts = and_parts (leb it.number scene_number_limit) (leb (length it.path) scene_step_limit && list_all (λ step. leb step letter_limit) it.path) is in
            let others = and_parts (leb (length it.path) scene_step_limit) (list_all (λ step. leb step letter_limit) it.path) parts.1 in
            record { is_label = reads.is_label; low = leb-true it.number scene_number_limit parts.0; short = leb-true (length it.path) scene_step_limit others.0; steps = reads.steps }

    label : (b : Bool) → IfSome (cond b (option_and_then as_scene_label (label_read text)) None) IsSceneLabel
    label true = within (label_read text) (label_read-IsReading text)
    label false = tt

    written : (b : Bool) → OnSome (cond b (option_and_then as_scene_label (label_read text)) None) (IsTrue b)
    written true = truly (option_and_then as_scene_label (label_read text))
      where
        truly : (o : Option LabelOf) → OnSome o (IsTrue true)
        truly None = tt
        truly (Some it) = refl
    written false = tt

-- Its steps are low.
pub record HasLetters (heading : HeadingOf) : Type 0 where
  pub low : IfSome heading.number (λ label. All (λ step. step ≤ letter_limit) label.path)

lettered : (lines : List LineState) (placed : PlacedBlock) → HasLetters (heading_of lines placed)
lettered lines placed = record { low = label (is_numbered placed) }
  where
    text : List ℕ
    text = number_text (line_texts lines) placed

    steps : (path : List ℕ) → list_all (λ step. leb step letter_limit) path ≡ true → All (λ step. step ≤ letter_limit) path
    steps [] is = All-nil (λ step. step ≤ letter_limit)
    steps (step ∷ path) is =
        let parts = and_parts (leb step letter_limit) (list_all (λ s. leb s letter_limit) path) is in
        All-cons (λ s. s ≤ letter_limit) step path (leb-true step letter_limit parts.0) (steps path parts.1)

    within : (o : Option LabelOf) → IfSome (option_and_then as_scene_label o) (λ label. All (λ step. step ≤ letter_limit) label.path)
    within None = tt
    within (Some it) = by (leb it.number scene_number_limit && (leb (length it.path) scene_step_limit && list_all (λ step. leb step letter_limit) it.path)) refl
      where
        by : (b : Bool) → (leb it.number scene_number_limit && (leb (length it.path) scene_step_limit && list_all (λ step. leb step letter_limit) it.path)) ≡ b
            → IfSome (cond b (Some it) None) (λ label. All (λ step. step ≤ letter_limit) label.path)
        by false is = tt
        by true is =
            let parts = and_parts (leb it.number scene_number_limit) (leb (length it.path) scene_step_limit && list_all (λ step. leb step letter_limit) it.path) is in
            steps it.path (and_parts (leb (length it.path) scene_step_limit) (list_all (λ step. leb step letter_limit) it.path) parts.1).1

    label : (b : Bool) → IfSome (cond b (option_and_then as_scene_label (label_read text)) None) (λ label. All (λ step. step ≤ letter_limit) label.path)
    label true = within (label_read text)
    label false = tt

pub headings-letters : (lines : List LineState) → All HasLetters (headings_of lines)
headings-letters lines = All-map HasLetters (heading_of lines) (filter is_heading_block (blocks_of (line_texts lines))) (λ k d h. lettered lines (get_or (filter is_heading_block (blocks_of (line_texts lines))) k d))

-- Headings between two places of a text.
record Headed (lines : List LineState) (low high : ℕ) (headings : List HeadingOf) : Type 0 where
  few : low + length headings ≤ high
  above : All (λ (h : HeadingOf). low ≤ h.place) headings
  below : All (λ (h : HeadingOf). h.place < high) headings
  rise : AllPairs (λ (one other : HeadingOf). one.place < other.place) headings
  own : All (λ (h : HeadingOf). h.id ≡ (line_of lines h.place).id) headings
  number : All IsNumbered headings

head-blocks : (lines : List LineState) (low high : ℕ) (blocks : List PlacedBlock) → Rise placed_from placed_to low high blocks → Headed lines low high (map (heading_of lines) (filter is_heading_block blocks))
head-blocks lines low high [] rise = record {
  few = omega (arith, rise);
  above = All-nil (λ (h : HeadingOf). low ≤ h.place);
  below = All-nil (λ (h : HeadingOf). h.place < high);
  rise = λ i j d less inside. absurd (omega (arith, less, inside));
  own = All-nil (λ (h : HeadingOf). h.id ≡ (line_of lines h.place).id);
  number = All-nil IsNumbered;
}
head-blocks lines low high (block ∷ blocks) rise = by (is_heading_block block) (head-blocks lines (placed_to block) high blocks rise.2)
  where
    by : (b : Bool) → Headed lines (placed_to block) high (map (heading_of lines) (filter is_heading_block blocks))
        → Headed lines low high (map (heading_of lines) (cond b (block ∷ filter is_heading_block blocks) (filter is_heading_block blocks)))
    by false rest =
        let few = rest.few in
        let above = rest.above in
        record {
          few = omega (arith, few, rise.0, rise.1);
          above = λ k d h. (let a = above k d h in omega (arith, a, rise.0, rise.1));
          below = rest.below;
          rise = rest.rise;
          own = rest.own;
          number = rest.number;
        }
    by true rest =
        let few = rest.few in
        let above = rest.above in
        let it = heading_of lines block in
        let later = map (heading_of lines) (filter is_heading_block blocks) in
        record {
          few = omega (arith, few, rise.0, rise.1);
          above = All-cons (λ (h : HeadingOf). low ≤ h.place) it later rise.0 (λ k d h. (let a = above k d h in omega (arith, a, rise.0, rise.1)));
          below = All-cons (λ (h : HeadingOf). h.place < high) it later (omega (arith, few, rise.1)) rest.below;
          rise = AllPairs-cons (λ (one other : HeadingOf). one.place < other.place) it later (λ k d h. (let a = above k d h in omega (arith, a, rise.1))) rest.rise;
          own = All-cons (λ (h : HeadingOf). h.id ≡ (line_of lines h.place).id) it later refl rest.own;
          number = All-cons IsNumbered it later (numbered lines block) rest.number;
        }

-- What the headings of a text keep.
pub headings-are : (next : ℕ) (lines : List LineState) → HasIds next lines → All IsUtf8 (line_texts lines) → length (line_texts lines) ≤ line_count_limit → AreHeadings (headings_of lines)
headings-are next lines ids utf8 few =
    let texts = line_texts lines in
    let stand = blocks_of-stand texts utf8 few in
    let is = head-blocks lines 0 (length texts) (blocks_of texts) stand.rise in
    let count = length-map lines (λ (line : LineState). line.text) in
    let most = is.few in
    let below = is.below in
    record {
      few = omega (arith, most, few);
      rising = is.rise;
      distinct = λ i j d less inside same.
          let here = below i d (omega (arith, less, inside)) in
          let there = below j d inside in
          let order = is.rise i j d less inside in
          ids.distinct (get_or (headings_of lines) i d).place (get_or (headings_of lines) j d).place no_line order (omega (arith, there, count))
          (sym (is.own i d (omega (arith, less, inside))) ∙ same ∙ is.own j d inside);
      numbered = is.number;
    }

-- Each heading's id is that of its line, which is in the text.
pub record OfLines (lines : List LineState) (headings : List HeadingOf) : Type 0 where
  pub within : All (λ (h : HeadingOf). h.place < length lines) headings
  pub own : All (λ (h : HeadingOf). h.id ≡ (line_of lines h.place).id) headings

pub headings-OfLines : (lines : List LineState) → All IsUtf8 (line_texts lines) → length (line_texts lines) ≤ line_count_limit → OfLines lines (headings_of lines)
headings-OfLines lines utf8 few =
    let texts = line_texts lines in
    let stand = blocks_of-stand texts utf8 few in
    let is = head-blocks lines 0 (length texts) (blocks_of texts) stand.rise in
    let count = length-map lines (λ (line : LineState). line.text) in
    let below = is.below in
    record { within = λ k d h. (let b = below k d h in omega (arith, b, count)); own = is.own }
