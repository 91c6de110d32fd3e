-- Pairing up markers in one pass. At the marker of an index, those of the markers from it on that are used are the ones
-- that close below another index: a marker that closes and stands before a used one was taken before that one.
use Rattle.std.proofs.Common.{◌≡◌, ℕ, zero, suc, ◌+◌, ◌-◌, ◌<◌, ◌≤◌, max, Bool, true, false, not, ◌&&◌, ◌||◌, cond, ltb, eqb, List, [], ◌∷◌, ◌++◌, length, get_or, drop, Option, Some, None, refl, sym, ap, ◌∙◌, inl, inr, append_assoc, arith}
use Rattle.std.specs.List.{find}
use Rattle.std.specs.Option.{option_map_or}
use Rattle.std.proofs.lemmas.Bool.{cases_lt, cases_order, lt-ltb, le-ltb, and_left, and_right, eq-eqb, ne_eqb, or_left}
use Rattle.std.proofs.lemmas.List.{append-nil, at_drop_more, at_drop_all}
use Rattle.spec_script.specs.declared.Layer.{Layer}
use Rattle.spec_script.specs.declared.Pair.{Pair}
use Rattle.spec_script.specs.Emphasis.{opens, closes, is_used, first_close, markers_of, pairs_among, pairs_of}
use Rattle.spec_script.proofs.PairLaws.{AreMarkers, markers-rise, ArePairs-pairs_of, pairs-within, pairs-rise}
use Rattle.sp_emph.specs.Layering.{AreWithin}

-- What doesn't pass is passed over.
find-skip : (p : ℕ → Bool) (xs : List ℕ) (i n : ℕ) → i + n ≤ length xs → ((x : ℕ) → i ≤ x → x < i + n → p (get_or xs x 0) ≡ false) → find p (drop i xs) ≡ find p (drop (i + n) xs)
find-skip p xs i zero low h = let e : i ≡ i + 0 = omega arith in ap (λ k. find p (drop k xs)) e
find-skip p xs i (suc n) low h =
    let e : i + 1 + n ≡ i + suc n = omega arith in
    at_drop_more (find p) xs i 0 (omega arith)
    ∙ ap (λ b. cond b (Some (get_or xs i 0)) (find p (drop (i + 1) xs))) (h i (omega arith) (omega arith))
    ∙ find-skip p xs (i + 1) n (omega arith) (λ x above below. h x (omega arith) (omega arith))
    ∙ ap (λ k. find p (drop k xs)) e

find-none : (p : ℕ → Bool) (xs : List ℕ) (i : ℕ) → i ≤ length xs → ((x : ℕ) → i ≤ x → x < length xs → p (get_or xs x 0) ≡ false) → find p (drop i xs) ≡ None
find-none p xs i low h =
    find-skip p xs i (length xs - i) (omega arith) (λ x above below. h x above (omega arith))
    ∙ at_drop_all (find p) xs (i + (length xs - i)) (omega arith)

find-some : (p : ℕ → Bool) (xs : List ℕ) (i y : ℕ) → i ≤ y → y < length xs → ((x : ℕ) → i ≤ x → x < y → p (get_or xs x 0) ≡ false) → p (get_or xs y 0) ≡ true → find p (drop i xs) ≡ Some (get_or xs y 0)
find-some p xs i y order low h here =
    let e : i + (y - i) ≡ y = omega arith in
    find-skip p xs i (y - i) (omega arith) (λ x above below. h x above (omega arith))
    ∙ ap (λ k. find p (drop k xs)) e
    ∙ at_drop_more (find p) xs y 0 low
    ∙ ap (λ b. cond b (Some (get_or xs y 0)) (find p (drop (y + 1) xs))) here

module _ (layer : Layer) (line ms : List ℕ) where
  -- The marker of an index.
  abbrev marker : ℕ → ℕ
  marker x = get_or ms x 0

  -- Of the markers from the index i on, those that close below the index j are used.
  pub record UsedBelow (used : List ℕ) (i j : ℕ) : Type 0 where
    pub at : (x : ℕ) → i ≤ x → x < length ms → is_used used (marker x) ≡ (closes line (marker x) && ltb x j)

  -- The pairs that are made, and those of the markers from the index i on, are all.
  pub record IsUnderWay (made : List Pair) (i j : ℕ) : Type 0 where
    pub used : List ℕ
    pub below : UsedBelow used i j
    pub rest : made ++ pairs_among layer line used (drop i ms) ≡ pairs_among layer line [] ms

  -- What the test of the marker at hand, and the search behind it, decide.
  abbrev decided : List ℕ → ℕ → Bool → Option ℕ → List Pair
  decided used i skip close =
      cond skip (pairs_among layer line used (drop (i + 1) ms))
      (option_map_or (λ second. record { first = marker i; second = second } ∷ pairs_among layer line (second ∷ used) (drop (i + 1) ms)) close
      (pairs_among layer line used (drop (i + 1) ms)))

  at_hand : (used : List ℕ) (i : ℕ) → i < length ms → pairs_among layer line used (drop i ms) ≡ decided used i (is_used used (marker i) || not (opens layer line (marker i))) (first_close line used (drop (i + 1) ms))
  at_hand used i h = at_drop_more (pairs_among layer line used) ms i 0 h

  -- A closing marker that isn't used yet is one that doesn't stand below the index.
  free : (used : List ℕ) (i j x : ℕ) → UsedBelow used i j → i ≤ x → x < length ms → (closes line (marker x) && not (is_used used (marker x))) ≡ (closes line (marker x) && not (ltb x j))
  free used i j x below above low =
      ap (λ b. closes line (marker x) && not b) (below.at x above low)
      ∙ elim (closes line (marker x)) as (λ c. (c && not (c && ltb x j)) ≡ (c && not (ltb x j))) [ true ↦ refl | false ↦ refl ]

  -- Up to the next marker that closes, and isn't below the index, none is free.
  none_free : (used : List ℕ) (i j n : ℕ) → UsedBelow used i j → n ≤ length ms → ((x : ℕ) → max j (i + 1) ≤ x → x < n → closes line (marker x) ≡ false)
      → (x : ℕ) → i + 1 ≤ x → x < n → (closes line (marker x) && not (is_used used (marker x))) ≡ false
  none_free used i j n below fits skipped x above low =
      free used i j x below (omega arith) (omega arith)
      ∙ elim (cases_lt x j) [
        | inl before ↦ and_right (closes line (marker x)) (not (ltb x j)) (ap not (lt-ltb x j before))
        | inr behind ↦ and_left (closes line (marker x)) (not (ltb x j)) (skipped x (omega arith) low)
      ]

  -- A marker that opens makes no pair where no later one closes and is free, and neither does any after it.
  pub step-none : (made : List Pair) (i j : ℕ) → i < length ms → ((closes line (marker i) && ltb i j) || not (opens layer line (marker i))) ≡ false
      → ((x : ℕ) → max j (i + 1) ≤ x → x < length ms → closes line (marker x) ≡ false) → IsUnderWay made i j → IsUnderWay made (i + 1) (length ms)
  step-none made i j low test skipped w = record {
    used = w.used;
    below = record {
      at = λ x above inside.
          w.below.at x (omega arith) inside
          ∙ elim (cases_lt x j) [
            | inl before ↦ ap (λ b. closes line (marker x) && b) (lt-ltb x j before ∙ sym (lt-ltb x (length ms) inside))
            | inr behind ↦ and_left (closes line (marker x)) (ltb x j) (skipped x (omega arith) inside)
                ∙ sym (and_left (closes line (marker x)) (ltb x (length ms)) (skipped x (omega arith) inside))
          ];
    };
    rest =
        ap (λ (ps : List Pair). made ++ ps)
        (sym (at_hand w.used i low
        ∙ ap (λ b. decided w.used i (b || not (opens layer line (marker i))) (first_close line w.used (drop (i + 1) ms))) (w.below.at i (omega arith) low)
        ∙ ap (λ b. decided w.used i b (first_close line w.used (drop (i + 1) ms))) test
        ∙ ap (λ c. decided w.used i false c) (find-none (λ m. closes line m && not (is_used w.used m)) ms (i + 1) (omega arith)
        (none_free w.used i j (length ms) w.below (omega arith) skipped))))
        ∙ w.rest;
  }

  -- The marker of the index y is used now too.
  used_more : (used : List ℕ) (i j y : ℕ) → AreMarkers layer line 0 ms → UsedBelow used i j → max j (i + 1) ≤ y → y < length ms → closes line (marker y) ≡ true
      → ((x : ℕ) → max j (i + 1) ≤ x → x < y → closes line (marker x) ≡ false) → (x : ℕ) → i + 1 ≤ x → x < length ms
      → is_used (marker y ∷ used) (marker x) ≡ (closes line (marker x) && ltb x (y + 1))
  used_more used i j y markers below behind low here skipped x above inside =
      let was = below.at x (omega arith) inside in
      elim (cases_order x y) [
        | inl same ↦ or_left (eqb (marker y) (marker x)) (is_used used (marker x)) (eq-eqb (marker y) (marker x) (ap marker (sym same)))
            ∙ sym (ap (λ b. b && ltb x (y + 1)) (ap (λ k. closes line (marker k)) same ∙ here) ∙ lt-ltb x (y + 1) (omega arith))
        | inr other ↦ elim other [
          | inl before ↦ (let less = markers-rise layer line ms 0 x y markers before low in
              ap (λ b. b || is_used used (marker x)) (ne_eqb (marker y) (marker x) (λ e. absurd (omega arith)))
              ∙ was
              ∙ elim (cases_lt x j) [
                | inl lower ↦ ap (λ b. closes line (marker x) && b) (lt-ltb x j lower ∙ sym (lt-ltb x (y + 1) (omega arith)))
                | inr higher ↦ and_left (closes line (marker x)) (ltb x j) (skipped x (omega arith) before)
                    ∙ sym (and_left (closes line (marker x)) (ltb x (y + 1)) (skipped x (omega arith) before))
              ])
          | inr after ↦ (let less = markers-rise layer line ms 0 y x markers after inside in
              ap (λ b. b || is_used used (marker x)) (ne_eqb (marker y) (marker x) (λ e. absurd (omega arith)))
              ∙ was
              ∙ ap (λ b. closes line (marker x) && b) (le-ltb x j (omega arith) ∙ sym (le-ltb x (y + 1) (omega arith))))
        ]
      ]

  -- A marker that opens pairs with the next one that closes and is free.
  pub step-pair : (made more : List Pair) (i j y : ℕ) → AreMarkers layer line 0 ms → i < length ms → ((closes line (marker i) && ltb i j) || not (opens layer line (marker i))) ≡ false
      → max j (i + 1) ≤ y → y < length ms → closes line (marker y) ≡ true → ((x : ℕ) → max j (i + 1) ≤ x → x < y → closes line (marker x) ≡ false)
      → IsUnderWay made i j → more ≡ made ++ record { first = marker i; second = marker y } ∷ [] → IsUnderWay more (i + 1) (y + 1)
  step-pair made more i j y markers low test behind inside here skipped w e = record {
    used = marker y ∷ w.used;
    below = record { at = used_more w.used i j y markers w.below behind inside here skipped };
    rest =
        ap (λ (ps : List Pair). ps ++ pairs_among layer line (marker y ∷ w.used) (drop (i + 1) ms)) e
        ∙ append_assoc made (record { first = marker i; second = marker y } ∷ []) (pairs_among layer line (marker y ∷ w.used) (drop (i + 1) ms))
        ∙ ap (λ (ps : List Pair). made ++ ps)
        (sym (at_hand w.used i low
        ∙ ap (λ b. decided w.used i (b || not (opens layer line (marker i))) (first_close line w.used (drop (i + 1) ms))) (w.below.at i (omega arith) low)
        ∙ ap (λ b. decided w.used i b (first_close line w.used (drop (i + 1) ms))) test
        ∙ ap (λ c. decided w.used i false c) (find-some (λ m. closes line m && not (is_used w.used m)) ms (i + 1) y (omega arith) inside
        (none_free w.used i j y w.below (omega arith) skipped)
        (free w.used i j y w.below (omega arith) inside ∙ ap (λ b. b && not (ltb y j)) here ∙ ap not (le-ltb y j (omega arith))))))
        ∙ w.rest;
  }

  -- When there is no marker left, the pairs that are made are all of the layer.
  pub made-all : (made : List Pair) (i j : ℕ) → ms ≡ markers_of layer line → length ms ≤ i → IsUnderWay made i j → made ≡ pairs_of layer line
  made-all made i j all behind w =
      sym (append-nil made)
      ∙ ap (λ (ps : List Pair). made ++ ps) (sym (at_drop_all (pairs_among layer line w.used) ms i behind))
      ∙ w.rest
      ∙ ap (pairs_among layer line []) all

-- The pairs of a layer lie within the line, in order.
pub AreWithin-pairs_of : (layer : Layer) (line : List ℕ) → AreWithin layer (pairs_of layer line) (length line)
AreWithin-pairs_of layer line =
    let pairs = pairs_of layer line in
    let are = ArePairs-pairs_of layer line in
    record {
      first = λ k d low. (pairs-within layer line pairs 0 are k d low).0;
      second = λ k d low. (pairs-within layer line pairs 0 are k d low).1;
      order = pairs-rise layer line pairs 0 are;
    }
