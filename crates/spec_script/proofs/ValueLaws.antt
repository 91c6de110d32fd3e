-- A value of a title page, read as a line of its own, has the pairs that its markers make by their neighbours in the whole line.
use Rattle.std.proofs.Common.{◌≡◌, ℕ, zero, suc, ◌+◌, ◌-◌, ◌==◌, ◌<◌, ◌≤◌, ◌⊎◌, Bool, true, false, not, ◌&&◌, ◌||◌, cond, nat_lt, List, [], ◌∷◌, length, map, filter, reverse, slice_index, slice_range, Option, Some, None, refl, sym, ap, ap₂, ◌∙◌, inl, inr, arith}
use Rattle.std.specs.List.{list_all, range_with_len, prefix_len, suffix_len}
use Rattle.std.specs.Option.{option_map, option_map_or}
use Rattle.std.proofs.lemmas.Bool.{cases_Bool, cases_lt, cond_both, cond-false, and_parts, or_cases, or_from, eq-eqb, eqb-true, ne_eqb, lt-ltb, le-ltb, ltb-true, true≢false}
use Rattle.std.proofs.lemmas.List.{get_or_default, get_or_past, get_or-reverse}
use Rattle.std.proofs.lemmas.List.Edits.{get_or-between}
use Rattle.std.proofs.lemmas.List.Sums.{passes_at_first, prefix_len_passes, prefix_len-le-length, suffix_len-le-length}
use Rattle.spec_script.specs.declared.Layer.{Layer}
use Rattle.spec_script.specs.declared.Layer.TheVariants.{Italic, Bold, BoldItalic, Underline}
use Rattle.spec_script.specs.declared.Pair.{Pair}
use Rattle.spec_script.specs.declared.Cut.{Cut}
use Rattle.spec_script.specs.Trim.{is_space, cut_text}
use Rattle.spec_script.specs.Title.{colon, has_key, is_indented, value_from, value_cut}
use Rattle.spec_script.specs.Emphasis.{is_markup, mark_of, size_of, byte_at, byte_before, is_mark, is_marker, markers_of, opens, closes, is_used, first_close, pairs_among, pairs_of}
use Rattle.spec_script.proofs.SpanLaws.{length-slice_range}
use Rattle.spec_script.proofs.PairLaws.{AreMarkers, AreMarkers-markers_of, mark-markup}

-- The markers of a layer that stand in a part of a line.
abbrev pub markers_in : Layer → List ℕ → Cut → List ℕ
markers_in layer line cut = filter (is_marker layer line) (range_with_len cut.from (cut.to - cut.from))

-- A pair, so many bytes further on.
abbrev pub pair_on : ℕ → Pair → Pair
pair_on n pair = record { first = n + pair.first; second = n + pair.second }

before-later : (line : List ℕ) (k : ℕ) → 0 < k → byte_before line k ≡ byte_at line (k - 1)
before-later line k some = cond-false (k == 0) 32 (byte_at line (k - 1)) (ne_eqb k 0 (λ e. omega (arith, some, e)))

space-not : (b n : ℕ) → is_space b ≡ true → 32 < n → (b == n) ≡ false
space-not b n space high =
    ne_eqb b n (λ e. elim (or_cases (b == 32) (b == 9) space) [ inl t ↦ omega (arith, eqb-true b 32 t) | inr t ↦ omega (arith, eqb-true b 9 t) ])

space-plain : (b : ℕ) → is_space b ≡ true → is_markup b ≡ false
space-plain b space =
    or_from ((b == 42) || (b == 95)) (b == 92)
    (or_from (b == 42) (b == 95) (space-not b 42 space (omega arith)) (space-not b 95 space (omega arith)))
    (space-not b 92 space (omega arith))

mark_of-high : (layer : Layer) → 32 < mark_of layer
mark_of-high Italic = omega arith
mark_of-high Bold = omega arith
mark_of-high BoldItalic = omega arith
mark_of-high Underline = omega arith

-- Lists and options by a test.
map-test : {X Y : Type 0} (f : X → Y) (b : Bool) (xs ys : List X) → map f (cond b xs ys) ≡ cond b (map f xs) (map f ys)
map-test f true xs ys = refl
map-test f false xs ys = refl

option-test : (f : ℕ → ℕ) (b : Bool) (x y : Option ℕ) → option_map f (cond b x y) ≡ cond b (option_map f x) (option_map f y)
option-test f true x y = refl
option-test f false x y = refl

moved-eq : (n a b : ℕ) → (a == b) ≡ ((n + a) == (n + b))
moved-eq n a b =
    elim (cases_Bool (a == b)) [
      | inl is ↦ is ∙ sym (eq-eqb (n + a) (n + b) (ap (λ k. n + k) (eqb-true a b is)))
      | inr other ↦ other ∙ sym (ne_eqb (n + a) (n + b) (λ e. let same : a ≡ b = omega arith in true≢false (sym (eq-eqb a b same) ∙ other)))
    ]

-- A part of a line with no mark and no `\` before it, and spaces alone behind it.
module _ (layer : Layer) (line : List ℕ) (from to : ℕ) (order : from ≤ to) (fits : to ≤ length line) (before : is_markup (byte_before line from) ≡ false) (behind : (k : ℕ) → to ≤ k → is_space (byte_at line k) ≡ true) where
  abbrev own : List ℕ
  own = slice_range line from to

  abbrev moved : List ℕ → List ℕ
  moved places = map (λ k. from + k) places

  own-size : length own ≡ to - from
  own-size = length-slice_range line from to order fits

  alike : (k : ℕ) → (byte_at own k ≡ byte_at line (from + k)) ⊎ ((is_space (byte_at own k) ≡ true) × (is_space (byte_at line (from + k)) ≡ true))
  alike k =
      let size = own-size in
      elim (cases_lt k (to - from)) [
        | inl inside ↦ inl (get_or-between line from to k 32 (omega arith))
        | inr past ↦ inr (ap is_space (get_or_past own k 32 (omega arith)), behind (from + k) (omega arith))
      ]

  same-space : (k : ℕ) → is_space (byte_at own k) ≡ is_space (byte_at line (from + k))
  same-space k = elim (alike k) [ inl same ↦ ap is_space same | inr both ↦ both.0 ∙ sym both.1 ]

  same-byte : (k n : ℕ) → 32 < n → (byte_at own k == n) ≡ (byte_at line (from + k) == n)
  same-byte k n high =
      elim (alike k) [
        | inl same ↦ ap (λ b. b == n) same
        | inr both ↦ space-not (byte_at own k) n both.0 high ∙ sym (space-not (byte_at line (from + k)) n both.1 high)
      ]

  not-before : (n : ℕ) → is_markup n ≡ true → (byte_before line from == n) ≡ false
  not-before n markup =
      ne_eqb (byte_before line from) n (λ e. true≢false (sym markup ∙ ap is_markup (sym e) ∙ before))

  same-before : (k n : ℕ) → 32 < n → is_markup n ≡ true → (byte_before own k == n) ≡ (byte_before line (from + k) == n)
  same-before k n high markup =
      elim (cases_lt 0 k) [
        | inl some ↦
            let place : from + (k - 1) ≡ from + k - 1 = omega arith in
            ap (λ b. b == n) (before-later own k some)
            ∙ same-byte (k - 1) n high
            ∙ ap (λ p. byte_at line p == n) place
            ∙ sym (ap (λ b. b == n) (before-later line (from + k) (omega arith)))
        | inr none ↦
            let start : k ≡ 0 = omega arith in
            let there : from + k ≡ from = omega arith in
            let space : (32 == n) ≡ false = ne_eqb 32 n (λ e. omega (arith, high, e)) in
            ap (λ p. byte_before own p == n) start ∙ space ∙ sym (ap (λ p. byte_before line p == n) there ∙ not-before n markup)
      ]

  same-mark : (k : ℕ) → is_mark layer own k ≡ is_mark layer line (from + k)
  same-mark k = ap₂ (λ a b. a && not b) (same-byte k (mark_of layer) (mark_of-high layer)) (same-before k 92 (omega arith) refl)

  same-marks : (k n : ℕ) → list_all (is_mark layer own) (range_with_len k n) ≡ list_all (is_mark layer line) (range_with_len (from + k) n)
  same-marks k zero = refl
  same-marks k (suc n) =
      let next : from + (k + 1) ≡ from + k + 1 = omega arith in
      ap₂ (λ a b. a && b) (same-mark k) (same-marks (k + 1) n ∙ ap (λ p. list_all (is_mark layer line) (range_with_len p n)) next)

  no_mark_before : (p : ℕ) → p ≡ from → (nat_lt 0 p && is_mark layer line (p - 1)) ≡ false
  no_mark_before p is =
      elim (cases_lt 0 p) [
        | inl some ↦
            let byte : byte_at line (p - 1) ≡ byte_before line from = sym (before-later line p some) ∙ ap (byte_before line) is in
            ap (λ b. b && is_mark layer line (p - 1)) (lt-ltb 0 p some)
            ∙ ap (λ b. b && not (byte_before line (p - 1) == 92)) (ap (λ b. b == mark_of layer) byte ∙ not-before (mark_of layer) (mark-markup layer))
        | inr none ↦ ap (λ b. b && is_mark layer line (p - 1)) (le-ltb 0 p none)
      ]

  same-after : (k : ℕ) → (nat_lt 0 k && is_mark layer own (k - 1)) ≡ (nat_lt 0 (from + k) && is_mark layer line (from + k - 1))
  same-after k =
      elim (cases_lt 0 k) [
        | inl some ↦
            let place : from + (k - 1) ≡ from + k - 1 = omega arith in
            ap (λ b. b && is_mark layer own (k - 1)) (lt-ltb 0 k some)
            ∙ same-mark (k - 1)
            ∙ ap (is_mark layer line) place
            ∙ sym (ap (λ b. b && is_mark layer line (from + k - 1)) (lt-ltb 0 (from + k) (omega arith)))
        | inr none ↦ ap (λ b. b && is_mark layer own (k - 1)) (le-ltb 0 k none) ∙ sym (no_mark_before (from + k) (omega arith))
      ]

  same-marker : (k : ℕ) → is_marker layer own k ≡ is_marker layer line (from + k)
  same-marker k =
      let next : from + (k + size_of layer) ≡ from + k + size_of layer = omega arith in
      ap₂ (λ a b. a && not b)
      (ap₂ (λ a b. a && not b) (same-marks k (size_of layer)) (same-mark (k + size_of layer) ∙ ap (is_mark layer line) next))
      (same-after k)

  moved-markers : (at n : ℕ) → moved (filter (is_marker layer own) (range_with_len at n)) ≡ filter (is_marker layer line) (range_with_len (from + at) n)
  moved-markers at zero = refl
  moved-markers at (suc n) =
      let rest = filter (is_marker layer own) (range_with_len (at + 1) n) in
      let next : from + (at + 1) ≡ from + at + 1 = omega arith in
      map-test (λ k. from + k) (is_marker layer own at) (at ∷ rest) rest
      ∙ ap₂ (λ b (ms : List ℕ). cond b ((from + at) ∷ ms) ms) (same-marker at)
      (moved-markers (at + 1) n ∙ ap (λ p. filter (is_marker layer line) (range_with_len p n)) next)

  own-markers : moved (markers_of layer own) ≡ markers_in layer line (record { from = from; to = to })
  own-markers =
      let start : from + 0 ≡ from = omega arith in
      moved-markers 0 (length own) ∙ ap₂ (λ p n. filter (is_marker layer line) (range_with_len p n)) start own-size

  same-used : (used : List ℕ) (m : ℕ) → is_used used m ≡ is_used (moved used) (from + m)
  same-used [] m = refl
  same-used (u ∷ used) m = ap₂ (λ a b. a || b) (moved-eq from u m) (same-used used m)

  same-opens : (m : ℕ) → opens layer own m ≡ opens layer line (from + m)
  same-opens m =
      let next : from + (m + size_of layer) ≡ from + m + size_of layer = omega arith in
      ap not (same-space (m + size_of layer) ∙ ap (λ p. is_space (byte_at line p)) next)

  -- The first byte alone has another neighbour before it.
  same-closes : (m : ℕ) → 0 < m → closes own m ≡ closes line (from + m)
  same-closes m some =
      let place : from + (m - 1) ≡ from + m - 1 = omega arith in
      ap not (
      ap is_space (before-later own m some)
      ∙ same-space (m - 1)
      ∙ ap (λ p. is_space (byte_at line p)) place
      ∙ sym (ap is_space (before-later line (from + m) (omega arith)))
      )

  same-close : (used ms : List ℕ) (at : ℕ) → 0 < at → AreMarkers layer own at ms → option_map (λ k. from + k) (first_close own used ms) ≡ first_close line (moved used) (moved ms)
  same-close used [] at some are = refl
  same-close used (m ∷ ms) at some are =
      let low = are.0 in
      option-test (λ k. from + k) (closes own m && not (is_used used m)) (Some m) (first_close own used ms)
      ∙ ap₂ (λ b (o : Option ℕ). cond b (Some (from + m)) o) (ap₂ (λ a b. a && not b) (same-closes m (omega arith)) (same-used used m))
      (same-close used ms (m + 1) (omega arith) are.2)

  same-pairs : (used ms : List ℕ) (at : ℕ) → AreMarkers layer own at ms → map (pair_on from) (pairs_among layer own used ms) ≡ pairs_among layer line (moved used) (moved ms)
  same-pairs used [] at are = refl
  same-pairs used (m ∷ later) at are =
      let rest = pairs_among layer own used later in
      let rest' = pairs_among layer line (moved used) (moved later) in
      let pairs : Option ℕ → List Pair =
      λ o. option_map_or (λ second. record { first = m; second = second } ∷ pairs_among layer own (second ∷ used) later) o rest in
      let pairs' : Option ℕ → List Pair =
      λ o. option_map_or (λ second. record { first = from + m; second = second } ∷ pairs_among layer line (second ∷ moved used) (moved later)) o rest' in
      let none : map (pair_on from) rest ≡ rest' = same-pairs used later (m + 1) are.2 in
      let found : (o : Option ℕ) → map (pair_on from) (pairs o) ≡ pairs' (option_map (λ k. from + k) o) =
      λ o.
      elim o as (λ o. map (pair_on from) (pairs o) ≡ pairs' (option_map (λ k. from + k) o)) [
        | None ↦ none
        | Some second ↦ ap (λ (ps : List Pair). record { first = from + m; second = from + second } ∷ ps) (same-pairs (second ∷ used) later (m + 1) are.2)
      ] in
      let skip = is_used used m || not (opens layer own m) in
      let close = first_close own used later in
      map-test (pair_on from) skip rest (pairs close)
      ∙ ap₂ (λ (xs ys : List Pair). cond skip xs ys) none (found close ∙ ap pairs' (same-close used later (m + 1) (omega arith) are.2))
      ∙ ap (λ b. cond b rest' (pairs' (first_close line (moved used) (moved later)))) (ap₂ (λ a b. a || not b) (same-used used m) (same-opens m))

  pub own-pairs : map (pair_on from) (pairs_of layer own) ≡ pairs_among layer line [] (markers_in layer line (record { from = from; to = to }))
  own-pairs = same-pairs [] (markers_of layer own) 0 (AreMarkers-markers_of layer own) ∙ ap (pairs_among layer line []) own-markers

-- A value begins behind a colon or a space, or where its line does, and ends before spaces.
value_from-low : (text : List ℕ) → value_from text ≤ length text
value_from-low text =
    cond_both {A = ℕ} (has_key text) (colon text + 1) 0 (λ n. n ≤ length text)
    (λ is.
    let low = ltb-true (colon text) (length text) (and_parts (not (is_indented text) && nat_lt 0 (colon text)) (nat_lt (colon text) (length text)) is).1 in
    omega arith)
    (λ _. omega arith)

before-value : (text : List ℕ) → is_markup (byte_before text (value_from text)) ≡ false
before-value text =
    cond_both {A = ℕ} (has_key text) (colon text + 1) 0 (λ n. is_markup (byte_before text n) ≡ false)
    (λ is.
    let low = ltb-true (colon text) (length text) (and_parts (not (is_indented text) && nat_lt 0 (colon text)) (nat_lt (colon text) (length text)) is).1 in
    let mark = eqb-true (slice_index text (colon text)) 58 (passes_at_first (λ b. b == 58) text 0 low) in
    let last : colon text + 1 - 1 ≡ colon text = omega arith in
    ap is_markup (before-later text (colon text + 1) (omega arith) ∙ ap (byte_at text) last ∙ get_or_default text (colon text) 32 0 low ∙ mark))
    (λ _. refl)

pub value-pairs : (layer : Layer) (text : List ℕ) → map (pair_on (value_cut text).from) (pairs_of layer (cut_text text (value_cut text))) ≡ pairs_among layer text [] (markers_in layer text (value_cut text))
value-pairs layer text =
    let start = value_from text in
    let end = length text in
    let low = value_from-low text in
    let bytes = slice_range text start end in
    let size : length bytes ≡ end - start = length-slice_range text start end low (omega arith) in
    let front = prefix_len is_space bytes in
    let back = suffix_len is_space bytes in
    let few = prefix_len-le-length is_space bytes in
    let fewer = suffix_len-le-length is_space bytes in
    let from = (value_cut text).from in
    let to = (value_cut text).to in
    let before : is_markup (byte_before text from) ≡ false =
    elim (cases_lt 0 front) [
      | inl some ↦
          let here : start + front - 1 ≡ start + (front - 1) = omega arith in
          let spaced : front - 1 < front = omega arith in
          let byte : byte_before text (start + front) ≡ slice_index bytes (front - 1) =
          before-later text (start + front) (omega arith) ∙ ap (byte_at text) here
          ∙ get_or_default text (start + (front - 1)) 32 0 (omega arith)
          ∙ sym (get_or-between text start end (front - 1) 0 (omega arith)) in
          ap is_markup byte ∙ space-plain (slice_index bytes (front - 1)) (prefix_len_passes is_space bytes (front - 1) 0 spaced)
      | inr none ↦ let here : start + front ≡ start = omega arith in ap (λ n. is_markup (byte_before text n)) here ∙ before-value text
    ] in
    let behind : (k : ℕ) → to ≤ k → is_space (byte_at text k) ≡ true =
    λ k past.
    elim (cases_lt k end) [
      | inl inside ↦
          let i = end - 1 - k in
          let spaced : i < back = omega arith in
          let turned = get_or-reverse bytes i 0 (omega arith) in
          let there = get_or-between text start end (length bytes - 1 - i) 0 (omega arith) in
          let place : start + (length bytes - 1 - i) ≡ k = omega arith in
          let byte = turned ∙ there ∙ ap (slice_index text) place ∙ get_or_default text k 0 32 inside in
          sym (ap is_space byte) ∙ prefix_len_passes is_space (reverse bytes) i 0 spaced
      | inr outside ↦ ap is_space (get_or_past text k 32 outside)
    ] in
    own-pairs layer text from to (omega arith) (omega arith) before behind
