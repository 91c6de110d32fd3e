-- The markers of a layer stand in order, and its pairs are made of them, the first ones in order.
use Rattle.std.proofs.Common.{◌≡◌, ℕ, zero, suc, ◌+◌, ◌-◌, ◌==◌, ◌<◌, ◌≤◌, Bool, true, false, not, ◌&&◌, ◌||◌, cond, List, [], ◌∷◌, length, get_or, filter, Option, Some, None, refl, sym, ap, subst, ◌∙◌, inl, inr, arith}
use Rattle.std.specs.List.{All, AllPairs, find, list_all, range_with_len}
use Rattle.std.specs.Option.{option_map_or}
use Rattle.std.proofs.lemmas.Bool.{cases_Bool, cases_lt, and_parts, eqb-true}
use Rattle.std.proofs.lemmas.List.{get_or_past}
use Rattle.spec_script.specs.declared.Layer.{Layer}
use Rattle.spec_script.specs.declared.Layer.TheVariants.{Italic, Bold, BoldItalic, Underline}
use Rattle.spec_script.specs.declared.Pair.{Pair}
use Rattle.spec_script.specs.Emphasis.{is_markup, mark_of, size_of, byte_at, byte_before, is_mark, is_marker, markers_of, opens, closes, is_used, first_close, pairs_among, pairs_of}

-- A marker has marks, and a space is none.
pub size_of-some : (layer : Layer) → 0 < size_of layer
size_of-some Italic = omega arith
size_of-some Bold = omega arith
size_of-some BoldItalic = omega arith
size_of-some Underline = omega arith

no_space : (layer : Layer) → (32 == mark_of layer) ≡ true → ⊥
no_space Italic h = cc
no_space Bold h = cc
no_space BoldItalic h = cc
no_space Underline h = cc

pub mark-markup : (layer : Layer) → is_markup (mark_of layer) ≡ true
mark-markup Italic = refl
mark-markup Bold = refl
mark-markup BoldItalic = refl
mark-markup Underline = refl

all-at : (p : ℕ → Bool) (at n k : ℕ) → list_all p (range_with_len at n) ≡ true → k < n → p (at + k) ≡ true
all-at p at zero k all low = absurd (omega (arith, low))
all-at p at (suc n) zero all low = let e : at ≡ at + 0 = omega arith in subst (λ m. p m ≡ true) e (and_parts (p at) (list_all p (range_with_len (at + 1) n)) all).0
all-at p at (suc n) (suc k) all low =
    let e : at + 1 + k ≡ at + suc k = omega arith in
    subst (λ m. p m ≡ true) e (all-at p (at + 1) n k (and_parts (p at) (list_all p (range_with_len (at + 1) n)) all).1 (omega arith))

module _ (layer : Layer) (line : List ℕ) where
  -- A marker of the layer stands there.
  pub record IsMarker (place : ℕ) : Type 0 where
    pub holds : is_marker layer line place ≡ true

  -- These are markers in order, the first not before a place.
  abbrev pub AreMarkers : ℕ → List ℕ → Type 0
  AreMarkers at [] = Unit {0}
  AreMarkers at (m ∷ ms) = (at ≤ m) × IsMarker m × AreMarkers (m + 1) ms

  -- These are pairs of markers, the first ones in order and not before a place.
  abbrev pub ArePairs : ℕ → List Pair → Type 0
  ArePairs at [] = Unit {0}
  ArePairs at (pair ∷ pairs) = (at ≤ pair.first) × IsMarker pair.first × IsMarker pair.second × ArePairs (pair.first + 1) pairs

  AreMarkers-lower : (ms : List ℕ) (low at : ℕ) → low ≤ at → AreMarkers at ms → AreMarkers low ms
  AreMarkers-lower [] low at h markers = tt
  AreMarkers-lower (m ∷ ms) low at h markers = (omega (arith, markers.0), markers.1, markers.2)

  AreMarkers-filter : (at n : ℕ) → AreMarkers at (filter (is_marker layer line) (range_with_len at n))
  AreMarkers-filter at zero = tt
  AreMarkers-filter at (suc n) =
      let rest = filter (is_marker layer line) (range_with_len (at + 1) n) in
      let after = AreMarkers-filter (at + 1) n in
      elim (cases_Bool (is_marker layer line at)) [
        | inl is ↦ subst (λ b. AreMarkers at (cond b (at ∷ rest) rest)) (sym is) (omega arith, record { holds = is }, after)
        | inr isnt ↦ subst (λ b. AreMarkers at (cond b (at ∷ rest) rest)) (sym isnt) (AreMarkers-lower rest at (at + 1) (omega arith) after)
      ]

  pub AreMarkers-markers_of : AreMarkers 0 (markers_of layer line)
  AreMarkers-markers_of = AreMarkers-filter 0 (length line)

  above : (ms : List ℕ) (at x : ℕ) → AreMarkers at ms → x < length ms → at ≤ get_or ms x 0
  above [] at x markers low = absurd (omega (arith, low))
  above (m ∷ ms) at zero markers low = markers.0
  above (m ∷ ms) at (suc x) markers low = omega (arith, markers.0, above ms (m + 1) x markers.2 (omega arith))

  -- Of two markers the later one stands behind the earlier one.
  pub markers-rise : (ms : List ℕ) (at x y : ℕ) → AreMarkers at ms → x < y → y < length ms → get_or ms x 0 < get_or ms y 0
  markers-rise [] at x y markers order low = absurd (omega (arith, low))
  markers-rise (m ∷ ms) at x zero markers order low = absurd (omega (arith, order))
  markers-rise (m ∷ ms) at zero (suc y) markers order low = omega (arith, above ms (m + 1) y markers.2 (omega arith))
  markers-rise (m ∷ ms) at (suc x) (suc y) markers order low = markers-rise ms (m + 1) x y markers.2 (omega arith) (omega arith)

  found : (p : ℕ → Bool) (ms : List ℕ) (at m : ℕ) → AreMarkers at ms → find p ms ≡ Some m → IsMarker m
  found p [] at m markers e = cc
  found p (n ∷ ms) at m markers e =
      elim (cases_Bool (p n)) [
        | inl is ↦ (let same : Some n ≡ Some m = sym (ap (λ b. cond b (Some n) (find p ms)) is) ∙ e in
            let place : n ≡ m = cc in subst IsMarker place markers.1)
        | inr other ↦ found p ms (n + 1) m markers.2 (sym (ap (λ b. cond b (Some n) (find p ms)) other) ∙ e)
      ]

  ArePairs-lower : (pairs : List Pair) (low at : ℕ) → low ≤ at → ArePairs at pairs → ArePairs low pairs
  ArePairs-lower [] low at h are = tt
  ArePairs-lower (pair ∷ pairs) low at h are = (omega (arith, are.0), are.1, are.2, are.3)

  ArePairs-among : (used : List ℕ) (ms : List ℕ) (at : ℕ) → AreMarkers at ms → ArePairs at (pairs_among layer line used ms)
  ArePairs-among used [] at markers = tt
  ArePairs-among used (m ∷ later) at markers =
      let none : ArePairs at (pairs_among layer line used later) =
      ArePairs-lower (pairs_among layer line used later) at (m + 1) (omega (arith, markers.0)) (ArePairs-among used later (m + 1) markers.2) in
      let made : (second : ℕ) → IsMarker second → ArePairs at (record { first = m; second = second } ∷ pairs_among layer line (second ∷ used) later) =
      λ second is. (markers.0, markers.1, is, ArePairs-among (second ∷ used) later (m + 1) markers.2) in
      let pairs : Option ℕ → List Pair =
      λ close. option_map_or (λ second. record { first = m; second = second } ∷ pairs_among layer line (second ∷ used) later) close
      (pairs_among layer line used later) in
      let close = first_close line used later in
      let some : (o : Option ℕ) → close ≡ o → ArePairs at (pairs o) =
      λ o e.
      elim o as (λ o. close ≡ o → ArePairs at (pairs o)) [
        | None ↦ λ _. none
        | Some second ↦ λ e. made second (found (λ k. closes line k && not (is_used used k)) later (m + 1) second markers.2 e)
      ] e in
      elim (is_used used m || not (opens layer line m)) as (λ skip. ArePairs at (cond skip (pairs_among layer line used later) (pairs close))) [
        | true ↦ none
        | false ↦ some close refl
      ]

  pub ArePairs-pairs_of : ArePairs 0 (pairs_of layer line)
  ArePairs-pairs_of = ArePairs-among [] (markers_of layer line) 0 AreMarkers-markers_of

  -- A mark is a byte of the line.
  mark-inside : (place : ℕ) → is_mark layer line place ≡ true → place < length line
  mark-inside place mark =
      elim (cases_lt place (length line)) [
        | inl is ↦ is
        | inr behind ↦ (let here = (and_parts (byte_at line place == mark_of layer) (not (byte_before line place == 92)) mark).0 in
            let space : (32 == mark_of layer) ≡ true = subst (λ b. (b == mark_of layer) ≡ true) (get_or_past line place 32 behind) here in
            absurd (no_space layer space))
      ]

  -- Marks stand at all places of a marker.
  pub marker-marks : (marker k : ℕ) → IsMarker marker → k < size_of layer → is_mark layer line (marker + k) ≡ true
  marker-marks marker k is low = all-at (is_mark layer line) marker (size_of layer) k
      (and_parts _ _ (and_parts _ _ is.holds).0).0 low

  -- A marker begins with a mark.
  pub marker-markup : (marker : ℕ) → IsMarker marker → is_markup (byte_at line marker) ≡ true
  marker-markup marker is =
      let same : marker + 0 ≡ marker = omega arith in
      let mark = subst (λ m. is_mark layer line m ≡ true) same (marker-marks marker 0 is (size_of-some layer)) in
      ap is_markup (eqb-true (byte_at line marker) (mark_of layer) (and_parts (byte_at line marker == mark_of layer) (not (byte_before line marker == 92)) mark).0)
      ∙ mark-markup layer

  -- A marker ends in the line.
  pub marker-within : (marker : ℕ) → IsMarker marker → marker + size_of layer ≤ length line
  marker-within marker is =
      let some = size_of-some layer in
      let last = mark-inside (marker + (size_of layer - 1)) (marker-marks marker (size_of layer - 1) is (omega arith)) in
      omega arith

  -- The pairs' markers end in the line.
  pub pairs-within : (pairs : List Pair) (at : ℕ) → ArePairs at pairs
      → All (λ (pair : Pair). (pair.first + size_of layer ≤ length line) × (pair.second + size_of layer ≤ length line)) pairs
  pairs-within [] at are k d low = absurd (omega (arith, low))
  pairs-within (pair ∷ pairs) at are zero d low = (marker-within pair.first are.1, marker-within pair.second are.2)
  pairs-within (pair ∷ pairs) at are (suc k) d low = pairs-within pairs (pair.first + 1) are.3 k d (omega arith)

  first-above : (pairs : List Pair) (at k : ℕ) (d : Pair) → ArePairs at pairs → k < length pairs → at ≤ (get_or pairs k d).first
  first-above [] at k d are low = absurd (omega (arith, low))
  first-above (pair ∷ pairs) at zero d are low = are.0
  first-above (pair ∷ pairs) at (suc k) d are low = omega (arith, are.0, first-above pairs (pair.first + 1) k d are.3 (omega arith))

  -- Their first markers stand in order.
  pub pairs-rise : (pairs : List Pair) (at : ℕ) → ArePairs at pairs → AllPairs (λ (one other : Pair). one.first ≤ other.first) pairs
  pairs-rise [] at are i j d order low = absurd (omega (arith, low))
  pairs-rise (pair ∷ pairs) at are i zero d order low = absurd (omega (arith, order))
  pairs-rise (pair ∷ pairs) at are zero (suc j) d order low = omega (arith, first-above pairs (pair.first + 1) j d are.3 (omega arith))
  pairs-rise (pair ∷ pairs) at are (suc i) (suc j) d order low = pairs-rise pairs (pair.first + 1) are.3 i j d (omega arith) (omega arith)
