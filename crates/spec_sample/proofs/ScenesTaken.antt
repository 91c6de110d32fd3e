-- A text without a `#` can have its scenes locked.
use Rattle.std.proofs.Common.{◌≡◌, ℕ, zero, suc, ◌+◌, ◌-◌, ◌<◌, ◌≤◌, Bool, true, false, not, ◌&&◌, ◌==◌, cond, Option, Some, None, List, [], ◌∷◌, length, map, drop, refl, ap, ◌∙◌, arith}
use Rattle.std.specs.Prelude.{All, AllPairs, filter, find, zip, unwrap_or, option_map, option_and_then, slice_get}
use Rattle.std.specs.List.{position_from}
use Rattle.std.specs.Option.{option_map_or}
use Rattle.std.specs.Ordering.{is_lt}
use Rattle.std.proofs.lemmas.Iterator.Adapters.{position_from-zero}
use Rattle.std.proofs.lemmas.List.Elements.{All-nil, All-cons, All-head, All-tail}
use Rattle.spec_text.specs.Lines.{LineState, IsText, line_texts}
use Rattle.spec_script.specs.Stanzas.{PlacedBlock, blocks_of}
use Rattle.spec_script.proofs.EachBlock.{Placed}
use Rattle.spec_labels.specs.Labels.{LabelOf, label_cmp, plain_label}
use Rattle.spec_labels.specs.LabelReading.{label_read}
use Rattle.spec_labels.specs.Scenes.{HeadingOf, scene_record_limit, is_unlockable, unlockable_place, first_fall, disordered_place, numbers_after, unlocked_labels}
use Rattle.spec_state.specs.State.{State, text_of}
use Rattle.spec_state.specs.Headings.{is_heading_block, is_numbered, number_text, as_scene_label, heading_of, headings_of}
use Rattle.spec_state.proofs.OpeningLaw.{plain-Below}
use Rattle.spec_state.proofs.StateKeys.{text-headings, text-OfLines}
use Rattle.spec_machine.specs.Machine.{CanLockScenes}
use Rattle.spec_sample.proofs.Unnumbered.{HasNone, Unnumbered, none-text}

-- A heading without a number.
record IsPlainHeading (heading : HeadingOf) : Type 0 where
  written : heading.written ≡ false
  number : heading.number ≡ None

plain-heading : (lines : List LineState) (placed : PlacedBlock) → Placed Unnumbered placed → IsPlainHeading (heading_of lines placed)
plain-heading lines placed is =
    let not_written : is_numbered placed ≡ false = ap (λ (spans : List _). not (length spans == 0)) is.none in
    record { written = not_written; number = ap (λ b. cond b (option_and_then as_scene_label (label_read (number_text (line_texts lines) placed))) None) not_written }

plain-filtered : (lines : List LineState) (blocks : List PlacedBlock) → All (Placed Unnumbered) blocks → All IsPlainHeading (map (heading_of lines) (filter is_heading_block blocks))
plain-filtered lines [] all = All-nil IsPlainHeading
plain-filtered lines (block ∷ blocks) all = by (is_heading_block block) (plain-filtered lines blocks (All-tail (Placed Unnumbered) block blocks all))
  where
    by : (b : Bool) → All IsPlainHeading (map (heading_of lines) (filter is_heading_block blocks))
        → All IsPlainHeading (map (heading_of lines) (cond b (block ∷ filter is_heading_block blocks) (filter is_heading_block blocks)))
    by false rest = rest
    by true rest = All-cons IsPlainHeading (heading_of lines block) (map (heading_of lines) (filter is_heading_block blocks)) (plain-heading lines block (All-head (Placed Unnumbered) block blocks all)) rest

none-found : (headings : List HeadingOf) → All IsPlainHeading headings → find is_unlockable headings ≡ None
none-found [] all = refl
none-found (it ∷ headings) all =
    let zero_label = option_map_or (λ (label : LabelOf). (label.number == 0) && (length label.path == 0)) it.number true in
    ap (λ b. cond (b && zero_label) (Some it) (find is_unlockable headings)) (All-head IsPlainHeading it headings all).written ∙ none-found headings (All-tail IsPlainHeading it headings all)

none-unlockable : (headings : List HeadingOf) → All IsPlainHeading headings → unlockable_place headings ≡ None
none-unlockable headings all = ap (option_map (λ (it : HeadingOf). it.place)) (none-found headings all)

-- Their labels rise.
abbrev falls : LabelOf × LabelOf → Bool
falls pair = not (is_lt (label_cmp pair.0 pair.1))

abbrev plain_from : ℕ → ℕ → List LabelOf
plain_from before zero = []
plain_from before (suc count) = plain_label (before + 1) ∷ plain_from (before + 1) count

no-fall : (at before count : ℕ) → position_from falls at (zip (plain_from before count) (drop 1 (plain_from before count))) ≡ None
no-fall at before zero = refl
no-fall at before (suc zero) = refl
no-fall at before (suc (suc count)) =
    let less = plain-Below (before + 1) (before + 1 + 1) (omega arith) in
    let rest = plain_from (before + 1) (suc count) in
    ap (λ o. cond (not (is_lt o)) (Some at) (position_from falls (at + 1) (zip rest (drop 1 rest)))) less.less ∙ no-fall (at + 1) (before + 1) (suc count)

plain-labels : (before : ℕ) (headings : List HeadingOf) → All IsPlainHeading headings → numbers_after before headings ≡ plain_from before (length headings)
plain-labels before [] all = refl
plain-labels before (it ∷ headings) all =
    ap (λ (o : Option LabelOf). let own = unwrap_or o (plain_label (before + 1)) in own ∷ numbers_after own.number headings) (All-head IsPlainHeading it headings all).number
    ∙ ap (λ (ls : List LabelOf). plain_label (before + 1) ∷ ls) (plain-labels (before + 1) headings (All-tail IsPlainHeading it headings all))

none-disordered : (headings : List HeadingOf) → All IsPlainHeading headings → disordered_place headings ≡ None
none-disordered headings all =
    let labels = plain_from 0 (length headings) in
    let none = position_from-zero falls (zip labels (drop 1 labels)) ∙ no-fall 0 0 (length headings) in
    let rising : first_fall (unlocked_labels headings) ≡ None = ap first_fall (plain-labels 0 headings all) ∙ ap (option_map (λ place. place + 1)) none in
    ap (λ (o : Option ℕ). option_map (λ (it : HeadingOf). it.place) (option_and_then (λ place. slice_get headings place) o)) rising

-- Headings are no more than the places between which they stand.
few-between : (low high : ℕ) (headings : List HeadingOf) → low ≤ high → All (λ (h : HeadingOf). low ≤ h.place) headings → All (λ (h : HeadingOf). h.place < high) headings
    → AllPairs (λ (a b : HeadingOf). a.place < b.place) headings → low + length headings ≤ high
few-between low high [] order above below rise = omega (arith, order)
few-between low high (it ∷ headings) order above below rise =
    let first = above 0 it (omega arith) in
    let inside = below 0 it (omega arith) in
    let rest = few-between (it.place + 1) high headings (omega (arith, inside)) (λ k d within. let r = rise 0 (suc k) d (omega arith) (omega (arith, within)) in omega (arith, r))
    (λ k d within. below (suc k) d (omega (arith, within))) (λ i j d less within. rise (suc i) (suc j) d (omega (arith, less)) (omega (arith, within))) in
    omega (arith, first, rest)

-- A text has no more headings than lines.
pub headings-few : (state : State) → IsText (text_of state) → length (headings_of state.lines) ≤ length state.lines
headings-few state text =
    let within = (text-OfLines state text).within in
    let few = few-between 0 (length state.lines) (headings_of state.lines) (omega arith) (λ k d h. omega arith) within (text-headings state text).rising in
    omega (arith, few)

-- A state whose lines have none can have its scenes locked.
pub can-lock-scenes : (state : State) → state.scenes ≡ None → IsText (text_of state) → length state.lines ≤ scene_record_limit → All HasNone (line_texts state.lines) → CanLockScenes state
can-lock-scenes state unlocked text low none =
    let all = plain-filtered state.lines (blocks_of (line_texts state.lines)) (none-text (line_texts state.lines) none) in
    let few = headings-few state text in
    record {
      unlocked = unlocked;
      form = none-unlockable (headings_of state.lines) all;
      order = none-disordered (headings_of state.lines) all;
      few = omega (arith, few, low);
    }
