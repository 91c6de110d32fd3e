-- The elements of both texts that have a relaid block are those of the relaid blocks round the window.
use Rattle.std.proofs.Common.{◌≡◌, ℕ, ◌+◌, ◌≤◌, Bool, true, false, ◌&&◌, ◌||◌, cond, ltb, leb, List, [], ◌∷◌, ◌++◌, map, take, drop, get_or, inl, inr, refl, sym, ap, ap₂, subst, ◌∙◌, arith}
use Rattle.std.specs.Prelude.{All}
use Rattle.std.specs.List.{filter, list_any}
use Rattle.std.proofs.lemmas.Bool.{cases_Bool, and_parts, lt-leb, le-ltb}
use Rattle.std.proofs.lemmas.List.{append_assoc, append-nil}
use Rattle.std.proofs.lemmas.List.Elements.{All-nil, All-cons, All-head, All-tail, All-append, filter-append}
use Rattle.spec_text.specs.Ranges.{RangeOf}
use Rattle.spec_script.specs.LongestRuns.{Group, members}
use Rattle.spec_script.specs.Stanzas.{PlacedBlock}
use Rattle.spec_script.specs.Elements.{line_of_block, elements_in}
use Rattle.spec_edit.specs.WindowBlocks.{pushed, WindowBlocks, old_blocks, new_blocks, is_nil, joins, front_relaid, rest_relaid, but_last, only_last, front_kept, rest_kept, front_half, rest_half, old_relaid, new_relaid}
use Rattle.spec_edit.specs.Touched.{EditBlocks, place_before, changes_partner, is_relaid_old, is_relaid_new}
use Rattle.spec_edit.proofs.Steps.{touches}
use Rattle.spec_edit.proofs.ElementMoves.{after-front}
use Rattle.spec_edit.proofs.WindowElements.{pushed_group, elements-pushed}
use Rattle.spec_edit.proofs.RelaidElements.{IsSome, last-parts, relaid-old, relaid-new}
use Rattle.spec_edit.proofs.FairElements.{AllIn, elements-all}
use Rattle.spec_edit.proofs.TouchedRuns.{HasTouched}
use Rattle.spec_edit.proofs.WindowPartners.{Around, rest-back}
use Rattle.spec_edit.proofs.RelaidTouched.{front-half_of, rest-half_of, old-relaid, new-relaid}
use Rattle.spec_edit.proofs.KeptPartners.{StartsBefore, nil-is, front-starts, front-keeps, rest-keeps}

-- What holds of each block of a list, by those before and behind it.
each : (P : PlacedBlock → Type 0) (whole xs ys : List PlacedBlock) → whole ≡ xs ++ ys
    → ((xs : List PlacedBlock) (block : PlacedBlock) (ys : List PlacedBlock) → whole ≡ xs ++ block ∷ ys → P block) → All P ys
each P whole xs [] is by = All-nil P
each P whole xs (block ∷ ys) is by = All-cons P block ys (by xs block ys is) (each P whole (xs ++ block ∷ []) ys (is ∙ sym (append_assoc xs (block ∷ []) ys)) by)

all-pushed : (P : PlacedBlock → Type 0) (n : ℕ) (blocks : List PlacedBlock) → All (λ (placed : PlacedBlock). P (pushed n placed)) blocks → All P (map (pushed n) blocks)
all-pushed P n [] all = All-nil P
all-pushed P n (block ∷ blocks) all =
    All-cons P (pushed n block) (map (pushed n) blocks) (All-head (λ (placed : PlacedBlock). P (pushed n placed)) block blocks all)
    (all-pushed P n blocks (All-tail (λ (placed : PlacedBlock). P (pushed n placed)) block blocks all))

-- No block of a list is relaid.
abbrev None : (PlacedBlock → Bool) → PlacedBlock → Type 0
None relaid placed = relaid placed ≡ false

none-any : (relaid : PlacedBlock → Bool) (blocks : List PlacedBlock) → All (None relaid) blocks → list_any relaid blocks ≡ false
none-any relaid [] all = refl
none-any relaid (block ∷ blocks) all = ap₂ (λ a b. a || b) (All-head (None relaid) block blocks all) (none-any relaid blocks (All-tail (None relaid) block blocks all))

filter-none : (relaid : PlacedBlock → Bool) (groups : List (Group PlacedBlock)) → All (AllIn (None relaid)) groups → filter (touches relaid) groups ≡ []
filter-none relaid [] all = refl
filter-none relaid (group ∷ groups) all =
    ap (λ b. cond b (group ∷ filter (touches relaid) groups) (filter (touches relaid) groups)) (none-any relaid (members group) (All-head (AllIn (None relaid)) group groups all))
    ∙ filter-none relaid groups (All-tail (AllIn (None relaid)) group groups all)

filter-all : (relaid : PlacedBlock → Bool) (groups : List (Group PlacedBlock)) → All (HasTouched relaid) groups → filter (touches relaid) groups ≡ groups
filter-all relaid [] all = refl
filter-all relaid (group ∷ groups) all =
    ap (λ b. cond b (group ∷ filter (touches relaid) groups) (filter (touches relaid) groups)) (All-head (HasTouched relaid) group groups all)
    ∙ ap (λ (l : List (Group PlacedBlock)). group ∷ l) (filter-all relaid groups (All-tail (HasTouched relaid) group groups all))

blocks-none : (relaid : PlacedBlock → Bool) (blocks : List PlacedBlock) → All (None relaid) blocks → filter (touches relaid) (elements_in blocks) ≡ []
blocks-none relaid blocks all = filter-none relaid (elements_in blocks) (elements-all (None relaid) blocks all)

-- Elements of which those in the middle are relaid, and no others.
filter-middle : (relaid : PlacedBlock → Bool) (n : ℕ) (front rest : List PlacedBlock) (middle : List (Group PlacedBlock)) → All (None relaid) front → All (HasTouched relaid) middle → All (None relaid) (map (pushed n) rest)
    → filter (touches relaid) (elements_in front ++ (middle ++ map (pushed_group n) (elements_in rest))) ≡ middle
filter-middle relaid n front rest middle one two three =
    filter-append (touches relaid) (elements_in front) (middle ++ map (pushed_group n) (elements_in rest))
    ∙ ap₂ (λ (a b : List (Group PlacedBlock)). a ++ b) (blocks-none relaid front one)
    (filter-append (touches relaid) middle (map (pushed_group n) (elements_in rest))
    ∙ ap₂ (λ (a b : List (Group PlacedBlock)). a ++ b) (filter-all relaid middle two)
    (ap (filter (touches relaid)) (sym (elements-pushed n rest)) ∙ blocks-none relaid (map (pushed n) rest) three))
    ∙ append-nil middle

module _ (edit : EditBlocks) (w : WindowBlocks) (it : Around edit w) where
  abbrev KeepsFront : PlacedBlock → Type 0
  KeepsFront placed = StartsBefore edit placed × (changes_partner edit (line_of_block placed) ≡ false)

  abbrev KeepsRest : PlacedBlock → Type 0
  KeepsRest placed = changes_partner edit (line_of_block (pushed w.old_end placed)) ≡ false

  front-by : (kept half : List PlacedBlock) → w.front ≡ kept ++ half → ((ys : List PlacedBlock) → ys ++ half ≡ [] → front_relaid w ≡ false) → All KeepsFront kept
  front-by kept half is apart =
      each KeepsFront kept [] kept refl
      (λ xs block ys cut.
      let whole : w.front ≡ xs ++ block ∷ (ys ++ half) = is ∙ ap (λ (l : List PlacedBlock). l ++ half) cut ∙ append_assoc xs (block ∷ ys) half in
      (starts xs block (ys ++ half) whole, front-keeps edit w it xs block (ys ++ half) whole (apart ys)))
    where
      starts : (xs : List PlacedBlock) (block : PlacedBlock) (ys : List PlacedBlock) → w.front ≡ xs ++ block ∷ ys → StartsBefore edit block
      starts xs block ys whole = at xs (subst (All (StartsBefore edit)) whole (front-starts edit w it))
        where
          at : (xs : List PlacedBlock) → All (StartsBefore edit) (xs ++ block ∷ ys) → StartsBefore edit block
          at [] all = All-head (StartsBefore edit) block ys all
          at (x ∷ xs) all = at xs (All-tail (StartsBefore edit) x (xs ++ block ∷ ys) all)

  rest-by : (kept half : List PlacedBlock) → w.rest ≡ half ++ kept → ((zs : List PlacedBlock) → half ++ zs ≡ [] → rest_relaid w ≡ false) → All KeepsRest kept
  rest-by kept half is apart =
      each KeepsRest kept [] kept refl
      (λ zs block ys cut.
      rest-keeps edit w it (half ++ zs) block ys (is ∙ ap (λ (l : List PlacedBlock). half ++ l) cut ∙ sym (append_assoc half zs (block ∷ ys))) (apart zs))

  -- The blocks that aren't relaid keep their partners.
  front-stays : IsSome w → All KeepsFront (front_kept w)
  front-stays some = elim (cases_Bool (front_relaid w)) [
    | inl relaid ↦
        let h = front-half_of w some relaid in
        subst (All KeepsFront) (sym (ap (λ b. cond b (but_last w.front) w.front) relaid))
        (front-by (but_last w.front) (only_last w.front) (sym (last-parts w.front))
        (λ ys nil. absurd (never ys h.one (sym (ap (λ (l : List PlacedBlock). ys ++ l) h.only) ∙ nil))))
    | inr stays ↦
        subst (All KeepsFront) (sym (ap (λ b. cond b (but_last w.front) w.front) stays)) (front-by w.front [] (sym (append-nil w.front)) (λ ys nil. stays))
  ]
    where
      never : (ys : List PlacedBlock) (one : PlacedBlock) → ys ++ one ∷ [] ≡ [] → ⊥
      never [] one h = cc (h)
      never (y ∷ ys) one h = cc (h)

  rest-stays : IsSome w → All KeepsRest (rest_kept w)
  rest-stays some = elim (cases_Bool (rest_relaid w)) [
    | inl relaid ↦
        let h = rest-half_of w some relaid in
        subst (All KeepsRest) (sym (ap₂ (λ b (l : List PlacedBlock). cond b (drop 1 l) l) relaid h.whole))
        (rest-by h.behind (h.one ∷ []) h.whole (λ zs nil. absurd (let bad : ⊥ = cc (nil) in bad)))
    | inr stays ↦
        subst (All KeepsRest) (sym (ap (λ b. cond b (drop 1 w.rest) w.rest) stays)) (rest-by w.rest [] refl (λ zs nil. stays))
  ]

  -- Such a block is relaid in neither text.
  out-front : (high line : ℕ) (placed : PlacedBlock) → StartsBefore edit placed → changes_partner edit line ≡ false → ((leb edit.from placed.first && ltb placed.first high) || changes_partner edit line) ≡ false
  out-front high line placed low keeps =
      ap₂ (λ a b. (a && ltb placed.first high) || b) (lt-leb edit.from placed.first (omega (arith, low))) keeps

  out-rest : (high line first : ℕ) → high ≤ first → changes_partner edit line ≡ false → ((leb edit.from first && ltb first high) || changes_partner edit line) ≡ false
  out-rest high line first past keeps = ap₂ (λ a b. (leb edit.from first && a) || b) (le-ltb first high past) keeps ∙ none (leb edit.from first)
    where
      none : (b : Bool) → ((b && false) || false) ≡ false
      none true = refl
      none false = refl

  fronts-old : (blocks : List PlacedBlock) → All KeepsFront blocks → All (None (is_relaid_old edit)) blocks
  fronts-old blocks all k d h =
      let one = get_or blocks k d in
      let keeps = all k d h in
      out-front edit.old_to (line_of_block one) one keeps.0 keeps.1

  fronts-new : (blocks : List PlacedBlock) → All KeepsFront blocks → All (None (is_relaid_new edit)) blocks
  fronts-new blocks all k d h =
      let one = get_or blocks k d in
      let keeps = all k d h in
      let low = keeps.0 in
      let begin = it.begin in
      let range : RangeOf = record { first = edit.range.first; old = edit.range.new; new = edit.range.old } in
      let back : place_before edit.range (line_of_block one) ≡ line_of_block one = after-front range (line_of_block one) (omega (arith, begin, low)) in
      out-front edit.new_to (place_before edit.range (line_of_block one)) one low (ap (changes_partner edit) back ∙ keeps.1)

  rests-old : (blocks : List PlacedBlock) → All KeepsRest blocks → All (None (is_relaid_old edit)) (map (pushed w.old_end) blocks)
  rests-old blocks all =
      all-pushed (None (is_relaid_old edit)) w.old_end blocks
      (λ k d h.
      let one = get_or blocks k d in
      out-rest edit.old_to (line_of_block (pushed w.old_end one)) (w.old_end + one.first) (let x = it.old_end in omega (arith, x)) (all k d h))

  rests-new : (blocks : List PlacedBlock) → All KeepsRest blocks → All (None (is_relaid_new edit)) (map (pushed w.new_end) blocks)
  rests-new blocks all =
      all-pushed (None (is_relaid_new edit)) w.new_end blocks
      (λ k d h.
      let one = get_or blocks k d in
      out-rest edit.new_to (place_before edit.range (line_of_block (pushed w.new_end one))) (w.new_end + one.first) (let x = it.new_end in omega (arith, x))
      (ap (changes_partner edit) (rest-back edit w it one) ∙ all k d h))

  -- Where neither window has a block, none is relaid.
  no-halves : (is_nil w.gone && is_nil w.come) ≡ true → (front_relaid w ≡ false) × (rest_relaid w ≡ false)
  no-halves none = (
    ap (λ b. cond b false (joins w.front (w.gone ++ w.rest) || joins w.front (w.come ++ w.rest))) none,
    ap (λ b. cond b false (joins (w.front ++ w.gone) w.rest || joins (w.front ++ w.come) w.rest)) none,
  )

  none-left : (window : List PlacedBlock) (n : ℕ) → window ≡ [] → (front_relaid w ≡ false) × (rest_relaid w ≡ false) → front_half w ++ (window ++ map (pushed n) (rest_half w)) ≡ []
  none-left window n nil halves =
      ap₂ (λ (a b : List PlacedBlock). a ++ (window ++ map (pushed n) b)) (ap (λ b. cond b (only_last w.front) []) halves.0) (ap (λ b. cond b (take 1 w.rest) []) halves.1)
      ∙ ap (λ (l : List PlacedBlock). l ++ []) nil

  -- The elements with a relaid block, in the old text.
  pub relaid-once-old : filter (touches (is_relaid_old edit)) (elements_in (old_blocks w)) ≡ elements_in (old_relaid w)
  relaid-once-old = elim (cases_Bool (is_nil w.gone && is_nil w.come)) [
    | inl none ↦
        let both = and_parts (is_nil w.gone) (is_nil w.come) none in
        let halves = no-halves none in
        let nil = nil-is w.gone both.0 in
        blocks-none (is_relaid_old edit) (old_blocks w)
        (All-append (None (is_relaid_old edit)) w.front (w.gone ++ map (pushed w.old_end) w.rest) (fronts-old w.front (front-by w.front [] (sym (append-nil w.front)) (λ ys h. halves.0)))
        (subst (λ (l : List PlacedBlock). All (None (is_relaid_old edit)) (l ++ map (pushed w.old_end) w.rest)) (sym nil) (rests-old w.rest (rest-by w.rest [] refl (λ zs h. halves.1)))))
        ∙ sym (ap elements_in (none-left w.gone w.old_end nil halves))
    | inr some ↦
        ap (filter (touches (is_relaid_old edit))) (relaid-old w some)
        ∙ filter-middle (is_relaid_old edit) w.old_end (front_kept w) (rest_kept w) (elements_in (old_relaid w))
        (fronts-old (front_kept w) (front-stays some)) (old-relaid edit w it some) (rests-old (rest_kept w) (rest-stays some))
  ]

  -- And in the new one.
  pub relaid-once-new : filter (touches (is_relaid_new edit)) (elements_in (new_blocks w)) ≡ elements_in (new_relaid w)
  relaid-once-new = elim (cases_Bool (is_nil w.gone && is_nil w.come)) [
    | inl none ↦
        let both = and_parts (is_nil w.gone) (is_nil w.come) none in
        let halves = no-halves none in
        let nil = nil-is w.come both.1 in
        blocks-none (is_relaid_new edit) (new_blocks w)
        (All-append (None (is_relaid_new edit)) w.front (w.come ++ map (pushed w.new_end) w.rest) (fronts-new w.front (front-by w.front [] (sym (append-nil w.front)) (λ ys h. halves.0)))
        (subst (λ (l : List PlacedBlock). All (None (is_relaid_new edit)) (l ++ map (pushed w.new_end) w.rest)) (sym nil) (rests-new w.rest (rest-by w.rest [] refl (λ zs h. halves.1)))))
        ∙ sym (ap elements_in (none-left w.come w.new_end nil halves))
    | inr some ↦
        ap (filter (touches (is_relaid_new edit))) (relaid-new w some)
        ∙ filter-middle (is_relaid_new edit) w.new_end (front_kept w) (rest_kept w) (elements_in (new_relaid w))
        (fronts-new (front_kept w) (front-stays some)) (new-relaid edit w it some) (rests-new (rest_kept w) (rest-stays some))
  ]
