-- What is seen changes only beside an ASCII byte: a mark, or a `\`.
use Rattle.std.proofs.Common.{◌≡◌, ℕ, suc, ◌+◌, ◌-◌, ◌<◌, ◌≤◌, ◌⊎◌, ◌==◌, true, false, not, ◌&&◌, ◌||◌, cond, ltb, leb, List, [], ◌∷◌, length, get_or, slice_index, Option, Some, None, refl, sym, ap, subst, ◌∙◌, inl, inr, zero-add, arith}
use Rattle.std.specs.Prelude.{bit_or}
use Rattle.std.proofs.lemmas.Bool.{cases_lt, eqb-true, and_parts, or_from, lt-ltb, le-ltb, le-leb, lt-leb, leb-true, ltb-true, false_from_ne_true}
use Rattle.std.proofs.lemmas.List.{get_or_default}
use Rattle.std.proofs.lemmas.List.FromFn.{get_or-map-range_with_len}
use Rattle.spec_script.specs.declared.Layer.{Layer}
use Rattle.spec_script.specs.declared.Layer.TheVariants.{Italic, Bold, BoldItalic, Underline}
use Rattle.spec_script.specs.declared.Pair.{Pair}
use Rattle.spec_script.specs.Emphasis.{mark_of, size_of, style_of, byte_at, byte_before, is_mark, is_escape, is_inside, is_on, is_spent, is_removed, with_layer, style_at, pairs_of, looks_of}
use Rattle.spec_script.proofs.PairLaws.{IsMarker, ArePairs, ArePairs-pairs_of, marker-marks, size_of-some}

-- Where two neighbours look different, one of them is ASCII.
pub record HasAsciiEdges (line : List ℕ) (looks : List (Option ℕ)) : Type 0 where
  pub at : (k : ℕ) → suc k < length line → (get_or looks k None ≡ get_or looks (suc k) None) ⊎ ((slice_index line k < 128) ⊎ (slice_index line (suc k) < 128))

mark_of-ascii : (layer : Layer) → mark_of layer < 128
mark_of-ascii Italic = omega arith
mark_of-ascii Bold = omega arith
mark_of-ascii BoldItalic = omega arith
mark_of-ascii Underline = omega arith

module _ (layer : Layer) (line : List ℕ) where
  -- A byte above ASCII is no mark.
  mark-ascii : (place : ℕ) → is_mark layer line place ≡ true → byte_at line place < 128
  mark-ascii place mark =
      subst (λ b. b < 128) (sym (eqb-true (byte_at line place) (mark_of layer) (and_parts (byte_at line place == mark_of layer) (not (byte_before line place == 92)) mark).0)) (mark_of-ascii layer)

  on-ascii : (marker place : ℕ) → IsMarker layer line marker → is_on layer marker place ≡ true → byte_at line place < 128
  on-ascii marker place is on =
      let both = and_parts (leb marker place) (ltb place (marker + size_of layer)) on in
      let above = leb-true marker place both.0 in
      let below = ltb-true place (marker + size_of layer) both.1 in
      let same : marker + (place - marker) ≡ place = omega arith in
      mark-ascii place (subst (λ p. is_mark layer line p ≡ true) same (marker-marks layer line marker (place - marker) is (omega arith)))

  -- On a byte above ASCII no marker stands.
  not_spent : (place at : ℕ) (pairs : List Pair) → 128 ≤ byte_at line place → ArePairs layer line at pairs → is_spent layer pairs place ≡ false
  not_spent place at [] high are = refl
  not_spent place at (pair ∷ pairs) high are =
      or_from (is_on layer pair.first place || is_on layer pair.second place) (is_spent layer pairs place)
      (or_from (is_on layer pair.first place) (is_on layer pair.second place)
      (false_from_ne_true (is_on layer pair.first place) (λ on. absurd (omega (arith, on-ascii pair.first place are.1 on))))
      (false_from_ne_true (is_on layer pair.second place) (λ on. absurd (omega (arith, on-ascii pair.second place are.2 on)))))
      (not_spent place (pair.first + 1) pairs high are.3)

  -- A pair begins and ends beside a mark, so two neighbours above ASCII lie in the same pairs.
  same_inside : (place at : ℕ) (pairs : List Pair) → 128 ≤ byte_at line place → 128 ≤ byte_at line (place + 1) → ArePairs layer line at pairs
      → is_inside layer pairs place ≡ is_inside layer pairs (place + 1)
  same_inside place at [] high next are = refl
  same_inside place at (pair ∷ pairs) high next are =
      let from = pair.first + size_of layer in
      let some = size_of-some layer in
      let start : from ≡ place + 1 → ⊥ =
      λ e. let here : pair.first + (size_of layer - 1) ≡ place = omega arith in
      absurd (omega (arith, mark-ascii place (subst (λ p. is_mark layer line p ≡ true) here (marker-marks layer line pair.first (size_of layer - 1) are.1 (omega arith))))) in
      let end : pair.second ≡ place + 1 → ⊥ =
      λ e. let here : pair.second + 0 ≡ place + 1 = omega arith in
      absurd (omega (arith, mark-ascii (place + 1) (subst (λ p. is_mark layer line p ≡ true) here (marker-marks layer line pair.second 0 are.2 (omega arith))))) in
      let begun : leb from place ≡ leb from (place + 1) =
      elim (cases_lt place from) [
        | inl before ↦ lt-leb from place before ∙ sym (lt-leb from (place + 1) (omega (arith, start)))
        | inr behind ↦ le-leb from place behind ∙ sym (le-leb from (place + 1) (omega arith))
      ] in
      let open_still : ltb place pair.second ≡ ltb (place + 1) pair.second =
      elim (cases_lt place pair.second) [
        | inl before ↦ lt-ltb place pair.second before ∙ sym (lt-ltb (place + 1) pair.second (omega (arith, end)))
        | inr behind ↦ le-ltb place pair.second behind ∙ sym (le-ltb (place + 1) pair.second (omega arith))
      ] in
      ap (λ b. (b && ltb place pair.second) || is_inside layer pairs place) begun
      ∙ ap (λ b. (leb from (place + 1) && b) || is_inside layer pairs place) open_still
      ∙ ap (λ b. (leb from (place + 1) && ltb (place + 1) pair.second) || b) (same_inside place (pair.first + 1) pairs high next are.3)

module _ (line : List ℕ) where
  not_removed : (place : ℕ) → 128 ≤ byte_at line place → is_removed line place ≡ false
  not_removed place high =
      let spent = λ (layer : Layer). not_spent layer line place 0 (pairs_of layer line) high (ArePairs-pairs_of layer line) in
      let escape : is_escape line place ≡ false =
      false_from_ne_true (is_escape line place) (λ e. let byte = eqb-true (byte_at line place) 92 (and_parts (byte_at line place == 92) ((byte_at line (place + 1) == 42) || (byte_at line (place + 1) == 95)) e).0 in absurd (omega arith)) in
      or_from _ _ (or_from _ _ (or_from _ _ (or_from _ _ escape (spent Italic)) (spent Bold)) (spent BoldItalic)) (spent Underline)

  same_style : (place : ℕ) → 128 ≤ byte_at line place → 128 ≤ byte_at line (place + 1) → style_at line place ≡ style_at line (place + 1)
  same_style place high next =
      let same = λ (layer : Layer) (style : ℕ).
      ap (λ b. cond b (bit_or style (style_of layer)) style) (same_inside layer line place 0 (pairs_of layer line) high next (ArePairs-pairs_of layer line)) in
      ap (λ s. with_layer Underline line place (with_layer BoldItalic line place (with_layer Bold line place s))) (same Italic 0)
      ∙ ap (λ s. with_layer Underline line place (with_layer BoldItalic line place s)) (same Bold _)
      ∙ ap (λ s. with_layer Underline line place s) (same BoldItalic _)
      ∙ same Underline _

  look : (place : ℕ) → place < length line → get_or (looks_of line) place None ≡ cond (is_removed line place) None (Some (style_at line place))
  look place low = get_or-map-range_with_len (λ place. cond (is_removed line place) None (Some (style_at line place))) 0 (length line) place place None low (zero-add place)

  high_look : (place : ℕ) → place < length line → 128 ≤ byte_at line place → get_or (looks_of line) place None ≡ Some (style_at line place)
  high_look place low high = look place low ∙ ap (λ b. cond b None (Some (style_at line place))) (not_removed place high)

  pub looks-edges : HasAsciiEdges line (looks_of line)
  looks-edges = record {
    at = λ k low.
        let next : k + 1 ≡ suc k = omega arith in
        elim (cases_lt (slice_index line k) 128) [
          | inl first ↦ inr (inl first)
          | inr high ↦ elim (cases_lt (slice_index line (suc k)) 128) [
            | inl second ↦ inr (inr second)
            | inr higher ↦ (let here : 128 ≤ byte_at line k = subst (λ b. 128 ≤ b) (get_or_default line k 0 32 (omega arith)) high in
                let there : 128 ≤ byte_at line (k + 1) = subst (λ p. 128 ≤ byte_at line p) (sym next) (subst (λ b. 128 ≤ b) (get_or_default line (suc k) 0 32 low) higher) in
                inl (high_look k (omega arith) here ∙ ap Some (same_style k here there) ∙ sym (high_look (k + 1) (omega arith) there)
                ∙ ap (λ p. get_or (looks_of line) p None) next))
          ]
        ];
  }
