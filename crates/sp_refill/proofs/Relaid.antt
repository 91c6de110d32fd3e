-- Where the relaid elements stand among those of both texts.
use Rattle.std.proofs.Common.{◌≡◌, ◌⊎◌, ℕ, ◌+◌, ◌-◌, ◌<◌, ◌≤◌, Bool, true, false, not, ◌&&◌, ◌||◌, cond, Option, Some, None, List, [], ◌∷◌, ◌++◌, length, map, take, get_or, inl, inr, refl, sym, ap, ap₂, subst, ◌∙◌, arith, append_assoc, length-append}
use Rattle.std.specs.Prelude.{All}
use Rattle.std.specs.List.{flat_map, take_while}
use Rattle.std.proofs.lemmas.Bool.{cases_Bool, and_parts, or_cases, or_parts, cond-false, true≢false, lt-ltb, le-ltb}
use Rattle.std.proofs.lemmas.List.{map-append}
use Rattle.std.proofs.lemmas.List.Elements.{All-nil, All-cons, All-head, All-tail, All-append, All-map}
use Rattle.std.proofs.lemmas.List.Sums.{take_while-cons}
use Rattle.spec_text.specs.Lines.{LineState}
use Rattle.spec_text.specs.Ranges.{IsOutside, place_after}
use Rattle.spec_text.proofs.ListLaws.{All-front, All-back}
use Rattle.spec_script.specs.BlockParts.{Rise}
use Rattle.spec_script.specs.LongestRuns.{Group}
use Rattle.spec_script.specs.Stanzas.{PlacedBlock}
use Rattle.spec_script.specs.Elements.{line_of_block, is_speech_kind, is_dual, alone, elements_in}
use Rattle.spec_script.proofs.RunSteps.{longest_runs-map}
use Rattle.spec_sheets.proofs.ElementPlaces.{placed_from, placed_to}
use Rattle.spec_edit.specs.WindowBlocks.{pushed, WindowBlocks, old_blocks, new_blocks, is_nil, joined_by, last_block, first_block, joins, front_relaid, rest_relaid, but_last, only_last, front_kept, front_half, rest_kept, rest_half, old_relaid, new_relaid}
use Rattle.spec_edit.proofs.WindowElements.{pushed_group, elements-apart, elements-pushed}
use Rattle.spec_edit.proofs.RelaidElements.{last-parts, last-only, IsSome, relaid-old, relaid-new}
use Rattle.spec_edit.specs.Touched.{EditBlocks}
use Rattle.spec_edit.specs.TextItems.{Script}
use Rattle.spec_edit.proofs.ItemMoves.{LinesMoved}
use Rattle.spec_edit.proofs.ElementMoves.{after-front, after-behind, block_after, element_after}
use Rattle.spec_edit.proofs.WindowSides.{EndsBy}
use Rattle.spec_edit.proofs.FairElements.{ElementSound, AllIn, elements-all}
use Rattle.spec_edit.proofs.AsideBlocks.{IsAside, front-aside, pushed-aside, kept-aside, fronts-same, rests-same, fronts-moved, front-before, kept-before}
use Rattle.spec_edit.proofs.WindowPartners.{Around}
use Rattle.spec_refill.specs.Exchanges.{body_rows, count_rows, begins_before, relays_none, elements_before}
use Rattle.spec_refill.proofs.Marks.{rows, shapes-moved}
use Rattle.spec_refill.proofs.ElementMarks.{marks_of, count-marks}
use Rattle.spec_refill.proofs.MovedMarks.{all-moved}
use Rattle.sp_layout.specs.Bodies.{row_count}
use Rattle.sp_layout.specs.Places.{CountsBefore}
use Rattle.sp_refill.specs.Counts.{RowsBefore, RowsUpTo}
use Rattle.sp_refill.proofs.NextBlocks.{block_by, last-there, last-append, joins-pair, rest_parted}
use Rattle.sp_refill.proofs.Groups.{Begins, all-begin, PartedElements, parted-elements, first-element, joined-last}
use Rattle.sp_refill.proofs.Bodies.{body_in, Low, High, counts-groups, rows-before, one-more}
use Rattle.sp_refill.specs.Neighbours.{are_dual, nearer}

-- ---- lists

count-append : (lines : List LineState) (xs ys : List (Group PlacedBlock)) → count_rows lines (xs ++ ys) ≡ count_rows lines xs + count_rows lines ys
count-append lines [] ys = omega arith
count-append lines (x ∷ xs) ys =
    let own = body_rows lines x in
    let rest = count-append lines xs ys in
    let all = length-append own (flat_map (body_rows lines) (xs ++ ys)) in
    let front = length-append own (flat_map (body_rows lines) xs) in
    omega (arith, rest, all, front)

while-parts : {X : Type 0} (p : X → Bool) (xs ys : List X) → All (λ x. p x ≡ true) xs → All (λ x. p x ≡ false) ys → take_while p (xs ++ ys) ≡ xs
while-parts p [] [] one other = refl
while-parts p [] (y ∷ ys) one other = take_while-cons p y ys ∙ ap (λ b. cond b (y ∷ take_while p ys) []) (All-head (λ x. p x ≡ false) y ys other)
while-parts p (x ∷ xs) ys one other =
    take_while-cons p x (xs ++ ys) ∙ ap (λ b. cond b (x ∷ take_while p (xs ++ ys)) []) (All-head (λ x. p x ≡ true) x xs one)
    ∙ ap (λ l. x ∷ l) (while-parts p xs ys (All-tail (λ x. p x ≡ true) x xs one) other)

all-lower : (low high : ℕ) (xs : List PlacedBlock) → low ≤ high → All (Low low) xs → All (Low high) xs
all-lower low high xs order all k d h = let x = all k d h in omega (arith, x, order)

pushed-high : (n line : ℕ) (xs : List PlacedBlock) → line ≤ n → All (High line) (map (pushed n) xs)
pushed-high n line [] order = All-nil (High line)
pushed-high n line (x ∷ xs) order = All-cons (High line) (pushed n x) (map (pushed n) xs) (omega (arith, order)) (pushed-high n line xs order)

lines-front : (line low high : ℕ) (blocks more : List PlacedBlock) → Rise placed_from placed_to low high (blocks ++ more) → All (EndsBy line) blocks → All (λ (placed : PlacedBlock). line_of_block placed < line) blocks
lines-front line low high [] more rise ends = All-nil (λ (placed : PlacedBlock). line_of_block placed < line)
lines-front line low high (block ∷ blocks) more rise ends =
    let end = All-head (EndsBy line) block blocks ends in
    let some = rise.1 in
    All-cons (λ (placed : PlacedBlock). line_of_block placed < line) block blocks (omega (arith, some, end)) (lines-front line (placed_to block) high blocks more rise.2 (All-tail (EndsBy line) block blocks ends))

nil-is : (blocks : List PlacedBlock) → is_nil blocks ≡ true → blocks ≡ []
nil-is [] h = refl
nil-is (block ∷ blocks) h = absurd (true≢false (sym h))

-- ---- halves of pairs

-- The last block is a speech.
record LastSpeech (xs : List PlacedBlock) : Type 0 where
  own : PlacedBlock
  only : only_last xs ≡ own ∷ []
  speech : is_speech_kind own.block.kind ≡ true

left-speech : (x y : PlacedBlock) → is_dual x y ≡ true → is_speech_kind x.block.kind ≡ true
left-speech x y dual = by (is_speech_kind x.block.kind) (not x.block.caret) (is_speech_kind y.block.kind) y.block.caret dual
  where
    by : (a b c d : Bool) → (a && b && c && d) ≡ true → a ≡ true
    by true b c d h = refl
    by false b c d h = absurd (true≢false (sym h))

right-speech : (x y : PlacedBlock) → is_dual x y ≡ true → is_speech_kind y.block.kind ≡ true
right-speech x y dual = by (is_speech_kind x.block.kind) (not x.block.caret) (is_speech_kind y.block.kind) y.block.caret dual
  where
    by : (a b c d : Bool) → (a && b && c && d) ≡ true → c ≡ true
    by a b true d h = refl
    by true true false d h = absurd (true≢false (sym h))
    by true false false d h = absurd (true≢false (sym h))
    by false b false d h = absurd (true≢false (sym h))

last-speech : (xs : List PlacedBlock) (o : Option PlacedBlock) → joined_by (last_block xs) o ≡ true → LastSpeech xs
last-speech [] None joined = absurd (true≢false (sym joined))
last-speech [] (Some y) joined = absurd (true≢false (sym joined))
last-speech (x ∷ []) None joined = absurd (true≢false (sym joined))
last-speech (x ∷ []) (Some y) joined = record { own = x; only = refl; speech = left-speech x y joined }
last-speech (x ∷ z ∷ xs) o joined = let rest = last-speech (z ∷ xs) o joined in record { own = rest.own; only = rest.only; speech = rest.speech }

-- The first block is a speech.
record FirstSpeech (xs : List PlacedBlock) : Type 0 where
  own : PlacedBlock
  others : List PlacedBlock
  are : xs ≡ own ∷ others
  speech : is_speech_kind own.block.kind ≡ true

first-speech : (o : Option PlacedBlock) (xs : List PlacedBlock) → joined_by o (first_block xs) ≡ true → FirstSpeech xs
first-speech None [] joined = absurd (true≢false (sym joined))
first-speech (Some x) [] joined = absurd (true≢false (sym joined))
first-speech None (y ∷ ys) joined = absurd (true≢false (sym joined))
first-speech (Some x) (y ∷ ys) joined = record { own = y; others = ys; are = refl; speech = right-speech x y joined }

module _ (edit : EditBlocks) (w : WindowBlocks) (it : Around edit w) (olds news : Script)
    (moved : LinesMoved (IsOutside edit.range) (place_after edit.range) olds.lines news.lines) (sound : All ElementSound (elements_in (old_blocks w))) where
  order-old : edit.from ≤ edit.old_to
  order-old = let x = it.begin in let y = it.was_past in omega (arith, x, y)

  order-new : edit.from ≤ edit.new_to
  order-new = let x = it.begin in let y = it.past in omega (arith, x, y)

  abbrev old_elements : List (Group PlacedBlock)
  old_elements = elements_in (old_blocks w)

  abbrev new_elements : List (Group PlacedBlock)
  new_elements = elements_in (new_blocks w)

  abbrev old_back : List (Group PlacedBlock)
  old_back = map (pushed_group w.old_end) (elements_in (rest_kept w))

  abbrev new_back : List (Group PlacedBlock)
  new_back = map (pushed_group w.new_end) (elements_in (rest_kept w))

  old-back-high : All (Begins (High edit.from)) old_back
  old-back-high =
      let x = it.old_end in
      let y = order-old in
      subst (All (Begins (High edit.from))) (elements-pushed w.old_end (rest_kept w))
      (all-begin (High edit.from) (map (pushed w.old_end) (rest_kept w)) (pushed-high w.old_end edit.from (rest_kept w) (omega (arith, x, y))))

  new-back-high : All (Begins (High edit.new_to)) new_back
  new-back-high =
      let x = it.new_end in
      subst (All (Begins (High edit.new_to))) (elements-pushed w.new_end (rest_kept w))
      (all-begin (High edit.new_to) (map (pushed w.new_end) (rest_kept w)) (pushed-high w.new_end edit.new_to (rest_kept w) (omega (arith, x))))

  abbrev behind_front : List PlacedBlock
  behind_front = w.gone ++ map (pushed w.old_end) (rest_half w)

  behind-high : All (High edit.from) behind_front
  behind-high =
      let x = it.old_end in
      let y = order-old in
      All-append (High edit.from) w.gone (map (pushed w.old_end) (rest_half w)) (λ k d h. (it.gone k d h).above) (pushed-high w.old_end edit.from (rest_half w) (omega (arith, x, y)))

  -- ---- the old text, where a block stands in a window

  abbrev OldFound : Bool → ℕ → Type 0
  OldFound relaid count = RowsBefore (body_in olds old_elements) edit.from relaid count

  old-some : IsSome w → OldFound (front_relaid w) (count_rows olds.lines (elements_in (front_kept w)))
  old-some is = by (front_relaid w) refl
    where
      joined : front_relaid w ≡ true → LastSpeech w.front
      joined relaid =
          elim (or_cases (joins w.front (w.gone ++ w.rest)) (joins w.front (w.come ++ w.rest))
          (sym (cond-false (is_nil w.gone && is_nil w.come) false (joins w.front (w.gone ++ w.rest) || joins w.front (w.come ++ w.rest)) is) ∙ relaid)) [
            | inl old ↦ last-speech w.front (first_block (w.gone ++ w.rest)) old
            | inr new ↦ last-speech w.front (first_block (w.come ++ w.rest)) new
          ]

      by : (f : Bool) → front_relaid w ≡ f → OldFound f (count_rows olds.lines (elements_in (cond f (but_last w.front) w.front)))
      by false apart =
          let kept : front_kept w ≡ w.front = ap (λ b. cond b (but_last w.front) w.front) apart in
          let relaid : old_relaid w ≡ behind_front = ap (λ b. cond b (only_last w.front) [] ++ behind_front) apart in
          let back = elements_in behind_front ++ old_back in
          let are : old_elements ≡ elements_in w.front ++ back = relaid-old w is ∙ ap₂ (λ (x y : List PlacedBlock). elements_in x ++ (elements_in y ++ old_back)) kept relaid in
          let count = length (body_in olds (elements_in w.front)) in
          let same : count - 0 ≡ count = omega arith in
          record {
            place = count;
            is = counts-groups olds edit.from old_elements (elements_in w.front) back are (all-begin (Low edit.from) w.front (front-before edit w it))
                (All-append (Begins (High edit.from)) (elements_in behind_front) old_back (all-begin (High edit.from) behind_front behind-high) old-back-high);
            some = omega arith;
            are = ap (λ n. row_count (take n (body_in olds old_elements))) same ∙ (rows-before olds old_elements (elements_in w.front) back are).are;
          }
      by true relays =
          let last = joined relays in
          let parts : but_last w.front ++ last.own ∷ [] ≡ w.front = ap (λ (l : List PlacedBlock). but_last w.front ++ l) (sym last.only) ∙ last-parts w.front in
          let low = subst (All (Low edit.from)) (sym parts) (front-before edit w it) in
          let kept : front_kept w ≡ but_last w.front = ap (λ b. cond b (but_last w.front) w.front) relays in
          let relaid : old_relaid w ≡ last.own ∷ behind_front =
          ap (λ b. cond b (only_last w.front) [] ++ behind_front) relays ∙ ap (λ (l : List PlacedBlock). l ++ behind_front) last.only in
          let first = first-element (High edit.from) last.own behind_front behind-high in
          let front = elements_in (but_last w.front) in
          let are : old_elements ≡ front ++ (first.own ∷ (first.others ++ old_back)) =
          relaid-old w is ∙ ap₂ (λ (x y : List PlacedBlock). elements_in x ++ (elements_in y ++ old_back)) kept relaid ∙ ap (λ (l : List (Group PlacedBlock)). front ++ (l ++ old_back)) first.are in
          let split : old_elements ≡ (front ++ first.own ∷ []) ++ (first.others ++ old_back) = are ∙ sym (append_assoc front (first.own ∷ []) (first.others ++ old_back)) in
          let speech : is_speech_kind first.own.first.block.kind ≡ true = ap (λ (b : PlacedBlock). is_speech_kind b.block.kind) first.begins ∙ last.speech in
          let count = length (body_in olds front) in
          let same : count + 1 - 1 ≡ count = omega arith in
          let own_low : Low edit.from first.own.first = subst (Low edit.from) (sym first.begins) (All-head (Low edit.from) last.own [] (All-back (Low edit.from) (but_last w.front) (last.own ∷ []) low)) in
          record {
            place = count + 1;
            is = subst (CountsBefore (body_in olds old_elements) edit.from) (one-more olds front first.own speech)
                (counts-groups olds edit.from old_elements (front ++ first.own ∷ []) (first.others ++ old_back) split
                (All-append (Begins (Low edit.from)) front (first.own ∷ []) (all-begin (Low edit.from) (but_last w.front) (All-front (Low edit.from) (but_last w.front) (last.own ∷ []) low))
                (All-cons (Begins (Low edit.from)) first.own [] own_low (All-nil (Begins (Low edit.from)))))
                (All-append (Begins (High edit.from)) first.others old_back first.others_all old-back-high));
            some = omega arith;
            are = ap (λ n. row_count (take n (body_in olds old_elements))) same ∙ (rows-before olds old_elements front (first.own ∷ (first.others ++ old_back)) are).are;
          }

  -- ---- rows that are moved at most

  moved-rows : (groups : List (Group PlacedBlock)) → All ElementSound groups → All (AllIn (IsAside edit)) groups → count_rows news.lines (map (element_after edit.range) groups) ≡ count_rows olds.lines groups
  moved-rows groups each aside =
      sym (count-marks news.lines (map (element_after edit.range) groups)) ∙ ap rows (all-moved edit w it olds.lines news.lines moved groups each aside)
      ∙ ap length (shapes-moved edit.range (marks_of olds.lines groups)) ∙ count-marks olds.lines groups

  kept-rows : IsSome w → count_rows news.lines (elements_in (front_kept w)) ≡ count_rows olds.lines (elements_in (front_kept w))
  kept-rows is =
      ap (count_rows news.lines) (sym (fronts-moved edit w it (front_kept w) (kept-before edit w it)))
      ∙ moved-rows (elements_in (front_kept w)) (All-front ElementSound (elements_in (front_kept w)) (elements_in (old_relaid w) ++ old_back) (subst (All ElementSound) (relaid-old w is) sound))
      (elements-all (IsAside edit) (front_kept w) (kept-aside edit w it))

  -- ---- the new text, where a block stands in a window

  abbrev NewFound : Bool → ℕ → Type 0
  NewFound relaid count = RowsUpTo (body_in news new_elements) edit.new_to relaid count

  abbrev relaid_front : List PlacedBlock
  relaid_front = front_half w ++ w.come

  half-low : All (Low edit.new_to) (front_half w)
  half-low = by (front_relaid w)
    where
      by : (f : Bool) → All (Low edit.new_to) (cond f (only_last w.front) [])
      by true =
          all-lower edit.from edit.new_to (only_last w.front) order-new
          (All-back (Low edit.from) (but_last w.front) (only_last w.front) (subst (All (Low edit.from)) (sym (last-parts w.front)) (front-before edit w it)))
      by false = All-nil (Low edit.new_to)

  relaid-low : All (Low edit.new_to) relaid_front
  relaid-low = All-append (Low edit.new_to) (front_half w) w.come half-low (λ k d h. (it.come k d h).below)

  kept-low : All (Begins (Low edit.new_to)) (elements_in (front_kept w))
  kept-low = all-begin (Low edit.new_to) (front_kept w) (all-lower edit.from edit.new_to (front_kept w) order-new (kept-before edit w it))

  abbrev kept : List (Group PlacedBlock)
  kept = elements_in (front_kept w)

  abbrev relaid_now : List (Group PlacedBlock)
  relaid_now = elements_in (new_relaid w)

  abbrev both_rows : ℕ
  both_rows = count_rows olds.lines kept + count_rows news.lines relaid_now

  sum-rows : IsSome w → count_rows news.lines (kept ++ relaid_now) ≡ both_rows
  sum-rows is = count-append news.lines kept relaid_now ∙ ap (λ n. n + count_rows news.lines relaid_now) (kept-rows is)

  new-split : IsSome w → new_elements ≡ (kept ++ relaid_now) ++ new_back
  new-split is = relaid-new w is ∙ sym (append_assoc kept relaid_now new_back)

  -- All relaid elements begin in the window or before it.
  new-inside : IsSome w → All (Begins (Low edit.new_to)) relaid_now → NewFound false both_rows
  new-inside is low =
      let count = length (body_in news (kept ++ relaid_now)) in
      let same : count + 0 ≡ count = omega arith in
      let found = rows-before news new_elements (kept ++ relaid_now) new_back (new-split is) in
      let inside = found.within in
      record {
        place = count;
        is = counts-groups news edit.new_to new_elements (kept ++ relaid_now) new_back (new-split is) (All-append (Begins (Low edit.new_to)) kept relaid_now kept-low low) new-back-high;
        some = omega (arith, inside);
        are = ap (λ n. row_count (take n (body_in news new_elements))) same ∙ found.are ∙ sum-rows is;
      }

  -- The last of them is the first block behind the window.
  new-behind : IsSome w → (c : PlacedBlock) → is_speech_kind c.block.kind ≡ true → edit.new_to ≤ c.first → relaid_now ≡ elements_in relaid_front ++ alone c ∷ [] → NewFound true both_rows
  new-behind is c speech high are =
      let front = kept ++ elements_in relaid_front in
      let all : kept ++ relaid_now ≡ front ++ alone c ∷ [] = ap (λ (l : List (Group PlacedBlock)). kept ++ l) are ∙ sym (append_assoc kept (elements_in relaid_front) (alone c ∷ [])) in
      let split : new_elements ≡ front ++ (alone c ∷ new_back) = new-split is ∙ ap (λ (l : List (Group PlacedBlock)). l ++ new_back) all ∙ append_assoc front (alone c ∷ []) new_back in
      let size : length (body_in news (kept ++ relaid_now)) ≡ length (body_in news front) + 1 = ap (λ (l : List (Group PlacedBlock)). length (body_in news l)) all ∙ one-more news front (alone c) speech in
      let found = rows-before news new_elements (kept ++ relaid_now) new_back (new-split is) in
      let inside = found.within in
      record {
        place = length (body_in news front);
        is = counts-groups news edit.new_to new_elements front (alone c ∷ new_back) split
            (All-append (Begins (Low edit.new_to)) kept (elements_in relaid_front) kept-low (all-begin (Low edit.new_to) relaid_front relaid-low))
            (All-cons (Begins (High edit.new_to)) (alone c) new_back high new-back-high);
        some = omega (arith, inside, size);
        are = ap (λ n. row_count (take n (body_in news new_elements))) (sym size) ∙ found.are ∙ sum-rows is;
      }

  -- The block before the first one behind the window is the same as among the relaid ones.
  same-last : IsSome w → (c : PlacedBlock) (r : List PlacedBlock) → w.rest ≡ c ∷ r → joins relaid_front (pushed w.new_end c ∷ []) ≡ joins (w.front ++ w.come) w.rest
  same-last is c r rest =
      joins-pair relaid_front (pushed w.new_end c ∷ []) ∙ ap (λ o. are_dual o (Some c.block)) (last-append (front_half w) w.come)
      ∙ by (front_relaid w) refl
      ∙ sym (ap (λ o. are_dual o (Some c.block)) (last-append w.front w.come))
      ∙ sym (joins-pair (w.front ++ w.come) (c ∷ [])) ∙ ap (λ (l : List PlacedBlock). joins (w.front ++ w.come) l) (sym rest)
    where
      by : (f : Bool) → front_relaid w ≡ f → are_dual (nearer (block_by (last_block w.come)) (block_by (last_block (cond f (only_last w.front) [])))) (Some c.block)
          ≡ are_dual (nearer (block_by (last_block w.come)) (block_by (last_block w.front))) (Some c.block)
      by true relays = ap (λ o. are_dual (nearer (block_by (last_block w.come)) (block_by o)) (Some c.block)) (last-only w.front)
      by false apart = each w.come refl
        where
          free : joins w.front (w.come ++ w.rest) ≡ false
          free =
              let one = joins w.front (w.gone ++ w.rest) in
              let other = joins w.front (w.come ++ w.rest) in
              (or_parts one other (sym (cond-false (is_nil w.gone && is_nil w.come) false (one || other) is) ∙ apart)).1

          each : (xs : List PlacedBlock) → w.come ≡ xs → are_dual (nearer (block_by (last_block xs)) None) (Some c.block) ≡ are_dual (nearer (block_by (last_block xs)) (block_by (last_block w.front))) (Some c.block)
          each [] none =
              sym (sym (joins-pair w.front (c ∷ r)) ∙ ap (λ (l : List PlacedBlock). joins w.front l) (sym (ap₂ (λ (p q : List PlacedBlock). p ++ q) none rest)) ∙ free)
          each (m ∷ ms) some = ap (λ o. are_dual o (Some c.block)) (last-there m ms None ∙ sym (last-there m ms (block_by (last_block w.front))))

  abbrev old_joined : Bool
  old_joined = joins (w.front ++ w.gone) w.rest

  abbrev new_joined : Bool
  new_joined = joins (w.front ++ w.come) w.rest

  new-some : IsSome w → NewFound (rest_parted w) both_rows
  new-some is = by (rest_relaid w) refl
    where
      either-joined : rest_relaid w ≡ (old_joined || new_joined)
      either-joined = cond-false (is_nil w.gone && is_nil w.come) false (old_joined || new_joined) is

      and-false : (b : Bool) → (b && false) ≡ false
      and-false true = refl
      and-false false = refl

      by : (r : Bool) → rest_relaid w ≡ r → NewFound (rest_parted w) both_rows
      by false apart =
          let none = or_parts old_joined new_joined (sym either-joined ∙ apart) in
          let flag : rest_parted w ≡ false = ap (λ b. b && not new_joined) none.0 in
          let relaid : new_relaid w ≡ front_half w ++ (w.come ++ []) = ap (λ b. front_half w ++ (w.come ++ map (pushed w.new_end) (cond b (take 1 w.rest) []))) apart in
          let low = all-begin (Low edit.new_to) (front_half w ++ (w.come ++ []))
          (All-append (Low edit.new_to) (front_half w) (w.come ++ []) half-low (All-append (Low edit.new_to) w.come [] (λ k d h. (it.come k d h).below) (All-nil (Low edit.new_to)))) in
          subst (λ b. NewFound b both_rows) (sym flag) (new-inside is (subst (λ (l : List PlacedBlock). All (Begins (Low edit.new_to)) (elements_in l)) (sym relaid) low))
      by true relays = either new_joined refl
        where
          joined : (old_joined ≡ true) ⊎ (new_joined ≡ true)
          joined = or_cases old_joined new_joined (sym either-joined ∙ relays)

          first : FirstSpeech w.rest
          first = elim joined [
            | inl old ↦ first-speech (last_block (w.front ++ w.gone)) w.rest old
            | inr new ↦ first-speech (last_block (w.front ++ w.come)) w.rest new
          ]

          relaid : new_relaid w ≡ relaid_front ++ pushed w.new_end first.own ∷ []
          relaid =
              ap (λ b. front_half w ++ (w.come ++ map (pushed w.new_end) (cond b (take 1 w.rest) []))) relays
              ∙ ap (λ (l : List PlacedBlock). front_half w ++ (w.come ++ map (pushed w.new_end) (take 1 l))) first.are
              ∙ sym (append_assoc (front_half w) w.come (pushed w.new_end first.own ∷ []))

          either : (j : Bool) → new_joined ≡ j → NewFound (rest_parted w) both_rows
          either true there =
              let flag : rest_parted w ≡ false = ap (λ b. old_joined && not b) there ∙ and-false old_joined in
              let low = joined-last (Low edit.new_to) relaid_front (pushed w.new_end first.own) (same-last is first.own first.others first.are ∙ there) relaid-low in
              subst (λ b. NewFound b both_rows) (sym flag) (new-inside is (subst (λ (l : List PlacedBlock). All (Begins (Low edit.new_to)) (elements_in l)) (sym relaid) low))
          either false apart =
              let old : old_joined ≡ true = elim joined [ inl old ↦ old | inr new ↦ absurd (true≢false (sym new ∙ apart)) ] in
              let flag : rest_parted w ≡ true = ap₂ (λ a b. a && not b) old apart in
              let x = it.new_end in
              let are = ap elements_in relaid ∙ elements-apart relaid_front (pushed w.new_end first.own ∷ []) (same-last is first.own first.others first.are ∙ apart) in
              subst (λ b. NewFound b both_rows) (sym flag) (new-behind is (pushed w.new_end first.own) first.speech (omega (arith, x)) are)

  -- ---- where none does

  abbrev Early : PlacedBlock → Type 0
  Early placed = line_of_block placed < edit.from

  parts : relays_none w ≡ true → PartedElements Early (High edit.old_to) old_elements
  parts none =
      let gone = nil-is w.gone (and_parts (is_nil w.gone) (is_nil w.come) none).0 in
      let x = it.old_end in
      parted-elements Early (High edit.old_to) w.front (w.gone ++ map (pushed w.old_end) w.rest)
      (lines-front edit.from 0 it.old_high w.front (w.gone ++ map (pushed w.old_end) w.rest) it.old_rise it.front)
      (subst (λ (l : List PlacedBlock). All (High edit.old_to) (l ++ map (pushed w.old_end) w.rest)) (sym gone) (pushed-high w.old_end edit.old_to w.rest (omega (arith, x))))

  before-none : (none : relays_none w ≡ true) → elements_before edit.from w ≡ (parts none).front
  before-none none =
      let p = parts none in
      let y = order-old in
      ap (λ b. cond b (take_while (begins_before edit.from) old_elements) (elements_in (front_kept w))) none ∙ ap (take_while (begins_before edit.from)) p.are
      ∙ while-parts (begins_before edit.from) p.front p.back (λ k d h. lt-ltb _ edit.from (p.front_all k d h)) (λ k d h. let x = p.back_all k d h in le-ltb _ edit.from (omega (arith, x, y)))

  old-none : relays_none w ≡ true → OldFound (front_relaid w) (count_rows olds.lines (elements_before edit.from w))
  old-none none =
      let p = parts none in
      let y = order-old in
      let flag : front_relaid w ≡ false = ap (λ b. cond b false (joins w.front (w.gone ++ w.rest) || joins w.front (w.come ++ w.rest))) none in
      let count = length (body_in olds p.front) in
      let same : count - 0 ≡ count = omega arith in
      let base : OldFound false (count_rows olds.lines p.front) = record {
        place = count;
        is = counts-groups olds edit.from old_elements p.front p.back p.are (λ k d h. let x = p.front_all k d h in omega (arith, x)) (λ k d h. let x = p.back_all k d h in omega (arith, x, y));
        some = omega arith;
        are = ap (λ n. row_count (take n (body_in olds old_elements))) same ∙ (rows-before olds old_elements p.front p.back p.are).are;
      } in
      subst (λ b. OldFound b (count_rows olds.lines (elements_before edit.from w))) (sym flag) (subst (λ es. OldFound false (count_rows olds.lines es)) (sym (before-none none)) base)

  new-none : relays_none w ≡ true → NewFound (rest_parted w) (count_rows olds.lines (elements_before edit.from w) + count_rows news.lines relaid_now)
  new-none none =
      let p = parts none in
      let both = and_parts (is_nil w.gone) (is_nil w.come) none in
      let no_gone = nil-is w.gone both.0 in
      let no_come = nil-is w.come both.1 in
      let begin = it.begin in
      let was_past = it.was_past in
      let shift = it.shift in
      let order = order-new in
      let half : front_half w ≡ [] = ap (λ b. cond (cond b false (joins w.front (w.gone ++ w.rest) || joins w.front (w.come ++ w.rest))) (only_last w.front) []) none in
      let rest : rest_half w ≡ [] = ap (λ b. cond (cond b false (joins (w.front ++ w.gone) w.rest || joins (w.front ++ w.come) w.rest)) (take 1 w.rest) []) none in
      let empty : new_relaid w ≡ [] = ap₂ (λ (a b : List PlacedBlock). a ++ b) half (ap₂ (λ (a b : List PlacedBlock). a ++ map (pushed w.new_end) b) no_come rest) in
      let flag : rest_parted w ≡ false =
      ap₂ (λ (a b : List PlacedBlock). joins (w.front ++ a) w.rest && not (joins (w.front ++ b) w.rest)) no_gone no_come ∙ and-not (joins (w.front ++ []) w.rest) in
      let move = map (element_after edit.range) in
      let blocks : new_blocks w ≡ map (block_after edit.range) (old_blocks w) =
      ap (λ (l : List PlacedBlock). w.front ++ (l ++ map (pushed w.new_end) w.rest)) no_come
      ∙ ap₂ (λ (a b : List PlacedBlock). a ++ b) (sym (fronts-same edit w it w.front (front-before edit w it))) (sym (rests-same edit w it w.rest))
      ∙ sym (map-append (block_after edit.range) w.front (map (pushed w.old_end) w.rest))
      ∙ ap (λ (l : List PlacedBlock). map (block_after edit.range) (w.front ++ (l ++ map (pushed w.old_end) w.rest))) (sym no_gone) in
      let are : new_elements ≡ move p.front ++ move p.back =
      ap elements_in blocks ∙ sym (longest_runs-map (block_after edit.range) is_dual (old_blocks w)) ∙ ap move p.are ∙ map-append (element_after edit.range) p.front p.back in
      let aside : All (IsAside edit) (old_blocks w) =
      All-append (IsAside edit) w.front (w.gone ++ map (pushed w.old_end) w.rest) (front-aside edit w it)
      (subst (λ (l : List PlacedBlock). All (IsAside edit) (l ++ map (pushed w.old_end) w.rest)) (sym no_gone) (pushed-aside edit w it w.rest)) in
      let front_sound = All-front ElementSound p.front p.back (subst (All ElementSound) p.are sound) in
      let front_aside = All-front (AllIn (IsAside edit)) p.front p.back (subst (All (AllIn (IsAside edit))) p.are (elements-all (IsAside edit) (old_blocks w) aside)) in
      let low = All-map (Begins (Low edit.new_to)) (element_after edit.range) p.front
      (λ k d h. let x = p.front_all k d h in let here = after-front edit.range (get_or p.front k d).first.first (omega (arith, x, begin)) in omega (arith, here, x, order)) in
      let high = All-map (Begins (High edit.new_to)) (element_after edit.range) p.back
      (λ k d h. let x = p.back_all k d h in let here = after-behind edit.range (get_or p.back k d).first.first (omega (arith, x, was_past)) in omega (arith, here, x, was_past, shift)) in
      let found = rows-before news new_elements (move p.front) (move p.back) are in
      let inside = found.within in
      let count = length (body_in news (move p.front)) in
      let same : count + 0 ≡ count = omega arith in
      let none_now : count_rows news.lines relaid_now ≡ 0 = ap (λ (l : List PlacedBlock). count_rows news.lines (elements_in l)) empty in
      let first = ap (count_rows olds.lines) (before-none none) in
      let sum : count_rows news.lines (move p.front) ≡ count_rows olds.lines (elements_before edit.from w) + count_rows news.lines relaid_now =
      (let same_rows = moved-rows p.front front_sound front_aside in omega (arith, same_rows, none_now, first)) in
      subst (λ b. NewFound b (count_rows olds.lines (elements_before edit.from w) + count_rows news.lines relaid_now)) (sym flag) (record {
        place = count;
        is = counts-groups news edit.new_to new_elements (move p.front) (move p.back) are low high;
        some = omega (arith, inside);
        are = ap (λ n. row_count (take n (body_in news new_elements))) same ∙ found.are ∙ sum;
      })
    where
      and-not : (b : Bool) → (b && not b) ≡ false
      and-not true = refl
      and-not false = refl

  -- ---- both

  before-some : IsSome w → elements_before edit.from w ≡ elements_in (front_kept w)
  before-some is = ap (λ b. cond b (take_while (begins_before edit.from) old_elements) (elements_in (front_kept w))) is

  -- The rows before the relaid elements, by how many elements begin before the window.
  pub old-found : RowsBefore (body_in olds (elements_in (old_blocks w))) edit.from (front_relaid w) (count_rows olds.lines (elements_before edit.from w))
  old-found = elim (cases_Bool (relays_none w)) [
    | inl none ↦ old-none none
    | inr some ↦ subst (λ es. OldFound (front_relaid w) (count_rows olds.lines es)) (sym (before-some some)) (old-some some)
  ]

  -- The rows up to their end in the new text.
  pub new-found : RowsUpTo (body_in news (elements_in (new_blocks w))) edit.new_to (rest_parted w) (count_rows olds.lines (elements_before edit.from w) + count_rows news.lines (elements_in (new_relaid w)))
  new-found = elim (cases_Bool (relays_none w)) [
    | inl none ↦ new-none none
    | inr some ↦ subst (λ es. NewFound (rest_parted w) (count_rows olds.lines es + count_rows news.lines relaid_now)) (sym (before-some some)) (new-some some)
  ]
