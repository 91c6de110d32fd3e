-- Blocks before a window and behind it, in both texts.
use Rattle.std.proofs.Common.{◌≡◌, ◌⊎◌, ℕ, ◌+◌, ◌<◌, ◌≤◌, Bool, true, false, ◌&&◌, ◌||◌, cond, ltb, leb, List, [], ◌∷◌, ◌++◌, map, inl, inr, refl, sym, ap, ap₂, ◌∙◌, arith}
use Rattle.std.specs.Prelude.{All}
use Rattle.std.specs.List.{list_any}
use Rattle.std.proofs.lemmas.Bool.{le-ltb, lt-leb}
use Rattle.std.proofs.lemmas.List.Elements.{All-nil, All-cons, All-head, All-tail}
use Rattle.spec_script.specs.BlockParts.{Rise}
use Rattle.spec_script.specs.LongestRuns.{Group, members}
use Rattle.spec_script.specs.Stanzas.{PlacedBlock}
use Rattle.spec_script.specs.Elements.{line_of_block, is_dual, elements_in}
use Rattle.spec_sheets.proofs.ElementPlaces.{placed_from, placed_to}
use Rattle.spec_edit.specs.WindowBlocks.{pushed, WindowBlocks, front_relaid, but_last, front_kept}
use Rattle.spec_edit.proofs.WindowElements.{pushed_group}
use Rattle.spec_text.specs.Ranges.{RangeOf, place_after}
use Rattle.spec_edit.specs.Touched.{EditBlocks, place_before, changes_partner, changes_speaker, is_touched_old, is_touched_new}
use Rattle.spec_script.proofs.RunSteps.{longest_runs-map}
use Rattle.spec_edit.proofs.ElementMoves.{after-front, after-behind, block_after, element_after, BlockLeft, LeftBeside, ElementLeft, line-after}
use Rattle.spec_edit.proofs.WindowSides.{EndsBy}
use Rattle.spec_edit.proofs.SoundElements.{IsSound}
use Rattle.spec_edit.proofs.FairElements.{SoundBeside, ElementSound, AllIn}
use Rattle.spec_edit.proofs.WindowPartners.{Around}

-- A block stands before the window, or behind it.
abbrev pub IsAside : EditBlocks → PlacedBlock → Type 0
IsAside edit placed = ((placed.first < edit.from) × (placed_to placed ≤ edit.from)) ⊎ (edit.old_to ≤ placed.first)

abbrev pub IsBefore : EditBlocks → PlacedBlock → Type 0
IsBefore edit placed = placed.first < edit.from

module _ (edit : EditBlocks) (w : WindowBlocks) (it : Around edit w) where
  left-block : (placed : PlacedBlock) → IsSound placed → IsAside edit placed → BlockLeft edit.range placed
  left-block placed sound aside = record {
    lines = sound.lines;
    some = sound.some;
    side = elim aside [
      | inl front ↦ inl (let x = it.begin in let y = front.1 in omega (arith, x, y))
      | inr behind ↦ inr (let x = it.was_past in omega (arith, x, behind))
    ];
  }

  left-beside : (placed : PlacedBlock) (more : List PlacedBlock) → SoundBeside placed more → All (IsAside edit) (placed ∷ more) → LeftBeside edit.range placed more
  left-beside placed [] beside all = tt
  left-beside placed (right ∷ []) beside all =
      (left-block right beside.0 (All-head (IsAside edit) right [] (All-tail (IsAside edit) placed (right ∷ []) all)), beside.1)
  left-beside placed (right ∷ other ∷ more) beside all = beside

  pub left-element : (element : Group PlacedBlock) → ElementSound element → AllIn (IsAside edit) element → ElementLeft edit.range element
  left-element element sound all = record {
    first = left-block element.first sound.first (All-head (IsAside edit) element.first element.more all);
    beside = left-beside element.first element.more sound.beside all;
  }

  -- A block aside is in neither window.
  pub out-old : (placed : PlacedBlock) → IsAside edit placed → (leb edit.from placed.first && ltb placed.first edit.old_to) ≡ false
  out-old placed (inl front) = ap (λ b. b && ltb placed.first edit.old_to) (lt-leb edit.from placed.first front.0)
  out-old placed (inr behind) = ap (λ b. leb edit.from placed.first && b) (le-ltb placed.first edit.old_to behind) ∙ none (leb edit.from placed.first)
    where
      none : (b : Bool) → (b && false) ≡ false
      none true = refl
      none false = refl

  out-new : (placed : PlacedBlock) → IsAside edit placed → (leb edit.from (place_after edit.range placed.first) && ltb (place_after edit.range placed.first) edit.new_to) ≡ false
  out-new placed (inl front) =
      let here = after-front edit.range placed.first (let x = it.begin in let y = front.0 in omega (arith, x, y)) in
      ap (λ p. leb edit.from p && ltb p edit.new_to) here ∙ ap (λ b. b && ltb placed.first edit.new_to) (lt-leb edit.from placed.first front.0)
  out-new placed (inr behind) =
      let x = it.was_past in
      let y = it.shift in
      let here = after-behind edit.range placed.first (omega (arith, x, behind)) in
      ap (λ b. leb edit.from (place_after edit.range placed.first) && b) (le-ltb (place_after edit.range placed.first) edit.new_to (omega (arith, here, x, y, behind)))
      ∙ none (leb edit.from (place_after edit.range placed.first))
    where
      none : (b : Bool) → (b && false) ≡ false
      none true = refl
      none false = refl

  back-again : (placed : PlacedBlock) → BlockLeft edit.range placed → IsAside edit placed → place_before edit.range (line_of_block (block_after edit.range placed)) ≡ line_of_block placed
  back-again placed left aside =
      let line = line-after edit.range placed left in
      let other : RangeOf = record { first = edit.range.first; old = edit.range.new; new = edit.range.old } in
      let begin = it.begin in
      let past = it.was_past in
      let some = left.some in
      elim aside [
        | inl front ↦
            let ends = front.1 in
            let here = after-front edit.range (line_of_block placed) (omega (arith, begin, ends, some)) in
            let there = after-front other (line_of_block (block_after edit.range placed)) (omega (arith, line, here, begin, ends, some)) in
            omega (arith, there, line, here)
        | inr behind ↦
            let here = after-behind edit.range (line_of_block placed) (omega (arith, past, behind)) in
            let there = after-behind other (line_of_block (block_after edit.range placed)) (omega (arith, line, here, past, behind)) in
            omega (arith, there, line, here, past, behind)
      ]

  -- It is touched in the new text just where it is in the old one.
  pub old-touch : (placed : PlacedBlock) → IsAside edit placed → is_touched_old edit placed ≡ (changes_partner edit (line_of_block placed) || changes_speaker edit (line_of_block placed))
  old-touch placed aside = ap (λ b. (b || changes_partner edit (line_of_block placed)) || changes_speaker edit (line_of_block placed)) (out-old placed aside)

  new-touch : (placed : PlacedBlock) → BlockLeft edit.range placed → IsAside edit placed
      → is_touched_new edit (block_after edit.range placed) ≡ (changes_partner edit (line_of_block placed) || changes_speaker edit (line_of_block placed))
  new-touch placed left aside =
      ap₂ (λ a n. (a || changes_partner edit n) || changes_speaker edit n) (out-new placed aside) (back-again placed left aside)

  pub touch-same : (those : List PlacedBlock) → All (BlockLeft edit.range) those → All (IsAside edit) those
      → list_any (is_touched_new edit) (map (block_after edit.range) those) ≡ list_any (is_touched_old edit) those
  touch-same [] left all = refl
  touch-same (placed ∷ those) left all =
      let here = All-head (BlockLeft edit.range) placed those left in
      let aside = All-head (IsAside edit) placed those all in
      ap₂ (λ a b. a || b) (new-touch placed here aside ∙ sym (old-touch placed aside)) (touch-same those (All-tail (BlockLeft edit.range) placed those left) (All-tail (IsAside edit) placed those all))

  pub all-left : (element : Group PlacedBlock) → ElementLeft edit.range element → All (BlockLeft edit.range) (members element)
  all-left element left = All-cons (BlockLeft edit.range) element.first element.more left.first (more element.first element.more left.beside)
    where
      more : (placed : PlacedBlock) (those : List PlacedBlock) → LeftBeside edit.range placed those → All (BlockLeft edit.range) those
      more placed [] beside = All-nil (BlockLeft edit.range)
      more placed (right ∷ []) beside = All-cons (BlockLeft edit.range) right [] beside.0 (All-nil (BlockLeft edit.range))
      more placed (right ∷ other ∷ those) beside = absurd beside

  -- Blocks before the window, and behind it.
  rise-front : (low high : ℕ) (blocks more : List PlacedBlock) → Rise placed_from placed_to low high (blocks ++ more) → All (EndsBy edit.from) blocks → All (IsAside edit) blocks
  rise-front low high [] more rise ends = All-nil (IsAside edit)
  rise-front low high (block ∷ blocks) more rise ends =
      let end = All-head (EndsBy edit.from) block blocks ends in
      let some = rise.1 in
      All-cons (IsAside edit) block blocks (inl (omega (arith, some, end), end)) (rise-front (placed_to block) high blocks more rise.2 (All-tail (EndsBy edit.from) block blocks ends))

  pub front-aside : All (IsAside edit) w.front
  front-aside = rise-front 0 it.old_high w.front (w.gone ++ map (pushed w.old_end) w.rest) it.old_rise it.front

  pub pushed-aside : (blocks : List PlacedBlock) → All (IsAside edit) (map (pushed w.old_end) blocks)
  pushed-aside [] = All-nil (IsAside edit)
  pushed-aside (block ∷ blocks) = All-cons (IsAside edit) (pushed w.old_end block) (map (pushed w.old_end) blocks) (inr (let x = it.old_end in omega (arith, x))) (pushed-aside blocks)

  all-but : (blocks : List PlacedBlock) → All (IsAside edit) blocks → All (IsAside edit) (but_last blocks)
  all-but [] all = all
  all-but (block ∷ []) all = All-nil (IsAside edit)
  all-but (block ∷ next ∷ blocks) all =
      All-cons (IsAside edit) block (but_last (next ∷ blocks)) (All-head (IsAside edit) block (next ∷ blocks) all) (all-but (next ∷ blocks) (All-tail (IsAside edit) block (next ∷ blocks) all))

  pub kept-aside : All (IsAside edit) (front_kept w)
  kept-aside = by (front_relaid w)
    where
      by : (b : Bool) → All (IsAside edit) (cond b (but_last w.front) w.front)
      by true = all-but w.front front-aside
      by false = front-aside

  -- A block before the window stays, and one behind it is moved with the text's end.
  front-same : (placed : PlacedBlock) → placed.first < edit.from → block_after edit.range placed ≡ placed
  front-same placed low =
      ap (λ p. record { first = p; block = placed.block }) (after-front edit.range placed.first (let x = it.begin in omega (arith, x, low)))

  rest-same : (placed : PlacedBlock) → block_after edit.range (pushed w.old_end placed) ≡ pushed w.new_end placed
  rest-same placed =
      let x = it.old_end in
      let y = it.new_end in
      let z = it.shift in
      let v = it.was_past in
      let there = after-behind edit.range (w.old_end + placed.first) (omega (arith, x, v)) in
      ap (λ p. record { first = p; block = placed.block }) (omega (arith, there, x, y, z, v))

  pub fronts-same : (blocks : List PlacedBlock) → All (IsBefore edit) blocks → map (block_after edit.range) blocks ≡ blocks
  fronts-same [] all = refl
  fronts-same (block ∷ blocks) all =
      ap₂ (λ (b : PlacedBlock) (bs : List PlacedBlock). b ∷ bs) (front-same block (All-head (IsBefore edit) block blocks all)) (fronts-same blocks (All-tail (IsBefore edit) block blocks all))

  pub rests-same : (blocks : List PlacedBlock) → map (block_after edit.range) (map (pushed w.old_end) blocks) ≡ map (pushed w.new_end) blocks
  rests-same [] = refl
  rests-same (block ∷ blocks) = ap₂ (λ (b : PlacedBlock) (bs : List PlacedBlock). b ∷ bs) (rest-same block) (rests-same blocks)

  pub rests-moved : (groups : List (Group PlacedBlock)) → map (element_after edit.range) (map (pushed_group w.old_end) groups) ≡ map (pushed_group w.new_end) groups
  rests-moved [] = refl
  rests-moved (group ∷ groups) =
      ap₂ (λ (g : Group PlacedBlock) (gs : List (Group PlacedBlock)). g ∷ gs)
      (ap₂ (λ (b : PlacedBlock) (bs : List PlacedBlock). record { first = b; more = bs }) (rest-same group.first) (rests-same group.more)) (rests-moved groups)

  pub fronts-moved : (blocks : List PlacedBlock) → All (IsBefore edit) blocks → map (element_after edit.range) (elements_in blocks) ≡ elements_in blocks
  fronts-moved blocks all =
      longest_runs-map (block_after edit.range) is_dual blocks ∙ ap elements_in (fronts-same blocks all)

  before-some : (low high : ℕ) (blocks more : List PlacedBlock) → Rise placed_from placed_to low high (blocks ++ more) → All (EndsBy edit.from) blocks → All (IsBefore edit) blocks
  before-some low high [] more rise ends = All-nil (IsBefore edit)
  before-some low high (block ∷ blocks) more rise ends =
      let end = All-head (EndsBy edit.from) block blocks ends in
      let some = rise.1 in
      All-cons (IsBefore edit) block blocks (omega (arith, some, end)) (before-some (placed_to block) high blocks more rise.2 (All-tail (EndsBy edit.from) block blocks ends))

  pub front-before : All (IsBefore edit) w.front
  front-before = before-some 0 it.old_high w.front (w.gone ++ map (pushed w.old_end) w.rest) it.old_rise it.front

  before-but : (blocks : List PlacedBlock) → All (IsBefore edit) blocks → All (IsBefore edit) (but_last blocks)
  before-but [] all = all
  before-but (block ∷ []) all = All-nil (IsBefore edit)
  before-but (block ∷ next ∷ blocks) all =
      All-cons (IsBefore edit) block (but_last (next ∷ blocks)) (All-head (IsBefore edit) block (next ∷ blocks) all) (before-but (next ∷ blocks) (All-tail (IsBefore edit) block (next ∷ blocks) all))

  pub kept-before : All (IsBefore edit) (front_kept w)
  kept-before = by (front_relaid w)
    where
      by : (b : Bool) → All (IsBefore edit) (cond b (but_last w.front) w.front)
      by true = before-but w.front front-before
      by false = front-before
