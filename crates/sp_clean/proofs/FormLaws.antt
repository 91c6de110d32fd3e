-- The forms of a line, as the code finds them.
use Rattle.std.specs.Prelude.{◌≡◌, ◌≢◌, ℕ, Bool, true, false, ◌==◌, List, [], ◌∷◌, ◌++◌, map, reverse, length, take, slice_index, max, ◌<◌, ◌+◌, ◌-◌}
use Rattle.std.specs.List.{list_any, prefix_len, suffix_len, position_or_len, before_first}
use Rattle.std.specs.Char.{eq_ignore_ascii_case, to_ascii_lowercase}
use Rattle.std.specs.Str.{IsUtf8, IsCharBoundary}
use Rattle.std.proofs.Common.{cond, refl, sym, ap, subst, ◌∙◌, inl, inr, arith}
use Rattle.std.proofs.lemmas.Bool.{cases_lt, eqb-true, eq-eqb, ltb-true, and_parts, and_from, and_left, and_right, or_cases, false_from_ne_true}
use Rattle.std.proofs.lemmas.List.{take_all, take_more, get_or-reverse}
use Rattle.std.proofs.lemmas.List.Folds.{list_any_at, list_any_none}
use Rattle.std.proofs.lemmas.List.Sums.{fails_before_first, passes_at_first, prefix_len_passes, prefix_len-le-length}
use Rattle.std.proofs.lemmas.List.Elements.{All-from_get_or}
use Rattle.std.proofs.lemmas.Str.{IsCharBoundary-start, IsCharBoundary-end, IsCharBoundary-before_ascii, IsCharBoundary-after_ascii}
use lib.Pointwise.{pointwise}
use Rattle.spec_script.specs.Letters.{ends, begins, begins_alphanumeric}
use Rattle.spec_script.specs.Forms.{cue_name, without_caret, is_forced_heading}
use Rattle.spec_script.specs.Trim.{is_space, trim}

-- Two texts are the same but for letter case where their lower-case forms are one.
pub same_case : (xs ys : List ℕ) → pointwise eq_ignore_ascii_case xs ys ≡ true → map to_ascii_lowercase xs ≡ map to_ascii_lowercase ys
same_case [] [] h = refl
same_case [] (y ∷ ys) h = cc
same_case (x ∷ xs) [] h = cc
same_case (x ∷ xs) (y ∷ ys) h =
    let both = and_parts _ _ h in
    let first = eqb-true (to_ascii_lowercase x) (to_ascii_lowercase y) both.0 in
    let rest = same_case xs ys both.1 in
    cc

pub same_lowercase : (xs ys : List ℕ) → map to_ascii_lowercase xs ≡ map to_ascii_lowercase ys → pointwise eq_ignore_ascii_case xs ys ≡ true
same_lowercase [] [] h = refl
same_lowercase [] (y ∷ ys) h = cc
same_lowercase (x ∷ xs) [] h = cc
same_lowercase (x ∷ xs) (y ∷ ys) h =
    let first : to_ascii_lowercase x ≡ to_ascii_lowercase y = cc in
    let rest : map to_ascii_lowercase xs ≡ map to_ascii_lowercase ys = cc in
    and_from _ _ (eq-eqb (to_ascii_lowercase x) (to_ascii_lowercase y) first) (same_lowercase xs ys rest)

-- The name of a cue that ends in `)` and has a `(`, of one that ends otherwise, and of one without a `(`.
pub cue_name-cut : (cue name : List ℕ) → ends 41 cue ≡ true → position_or_len (λ b. b == 40) cue < length cue → name ≡ before_first (λ b. b == 40) cue → trim name ≡ cue_name cue
cue_name-cut cue name e low h =
    let p : ℕ → Bool = λ b. b == 40 in
    let some : list_any p cue ≡ true = list_any_at p cue (position_or_len p cue) 0 low (passes_at_first p cue 0 low) in
    ap trim h ∙ sym (ap (λ t. cond t (trim (before_first p cue)) cue) (and_from (ends 41 cue) (list_any p cue) e some))

pub cue_name-plain : (cue : List ℕ) → ends 41 cue ≡ false → cue ≡ cue_name cue
cue_name-plain cue e =
    let p : ℕ → Bool = λ b. b == 40 in
    sym (ap (λ t. cond t (trim (before_first p cue)) cue) (and_left (ends 41 cue) (list_any p cue) e))

pub cue_name-whole : (cue : List ℕ) → position_or_len (λ b. b == 40) cue ≡ length cue → cue ≡ cue_name cue
cue_name-whole cue h =
    let p : ℕ → Bool = λ b. b == 40 in
    let none : list_any p cue ≡ false = list_any_none p cue (All-from_get_or (λ b. p b ≡ false) cue 0 (λ i low. fails_before_first p cue i 0 (omega arith))) in
    sym (ap (λ t. cond t (trim (before_first p cue)) cue) (and_right (ends 41 cue) (list_any p cue) none))

-- What ends in a byte is the rest before it.
ends-split : (byte : ℕ) (text : List ℕ) → ends byte text ≡ true → text ≡ take (length text - 1) text ++ byte ∷ []
ends-split byte text h =
    let both = and_parts _ _ h in
    let some = ltb-true 0 (length text) both.0 in
    let last = eqb-true (slice_index text (length text - 1)) byte both.1 in
    let before : length text - 1 < length text = omega arith in
    let all : length text - 1 + 1 ≡ length text = omega arith in
    sym (take_all (length text) text (omega arith)) ∙ ap (λ n. take n text) (sym all) ∙ take_more text (length text - 1) 0 before
    ∙ ap (λ b. take (length text - 1) text ++ b ∷ []) last

-- A text without `^` at its end keeps all.
pub without_caret-none : (text : List ℕ) → ((front : List ℕ) → text ≢ front ++ 94 ∷ []) → trim text ≡ without_caret text
without_caret-none text none =
    sym (ap (λ t. trim (cond t (take (length text - 1) text) text)) (false_from_ne_true (ends 94 text) (λ e. none (take (length text - 1) text) (ends-split 94 text e))))

-- A text that doesn't begin with `.` is no forced heading.
pub is_forced_heading-none : (text : List ℕ) → ((rest : List ℕ) → text ≢ 46 ∷ rest) → false ≡ is_forced_heading text
is_forced_heading-none [] none = refl
is_forced_heading-none (b ∷ text) none =
    sym (and_left (begins 46 (b ∷ text)) (begins_alphanumeric text) (false_from_ne_true (begins 46 (b ∷ text)) (λ e. none text (ap (λ c. c ∷ text) (eqb-true b 46 (and_parts _ _ e).1)))))

-- A space is ASCII.
space_below : (b : ℕ) → is_space b ≡ true → b < 128
space_below b h =
    elim (or_cases (b == 32) (b == 9) h) [ inl e ↦ omega (arith, eqb-true b 32 e) | inr e ↦ omega (arith, eqb-true b 9 e) ]

-- The text may be cut behind the spaces at its beginning, and before those at its end.
pub boundary-prefix : (text : List ℕ) → IsUtf8 text → IsCharBoundary text (prefix_len is_space text)
boundary-prefix text u =
    let n = prefix_len is_space text in
    let fits = prefix_len-le-length is_space text in
    elim (cases_lt 0 n) [
      | inl some ↦
          let last : n - 1 < n = omega arith in
          let one : n - 1 + 1 ≡ n = omega arith in
          subst (IsCharBoundary text) one
          (IsCharBoundary-after_ascii text (n - 1) u (omega arith) (space_below _ (prefix_len_passes is_space text (n - 1) 0 last)))
      | inr none ↦ let zero : 0 ≡ n = omega arith in subst (IsCharBoundary text) zero (IsCharBoundary-start text u)
    ]

pub boundary-suffix : (text : List ℕ) (to : ℕ) → to + suffix_len is_space text ≡ length text → IsCharBoundary text to
boundary-suffix text to h =
    elim (cases_lt to (length text)) [
      | inl some ↦
          let n = suffix_len is_space text in
          let last : n - 1 < prefix_len is_space (reverse text) = omega arith in
          let place : length text - 1 - (n - 1) ≡ to = omega arith in
          let back : slice_index (reverse text) (n - 1) ≡ slice_index text to = get_or-reverse text (n - 1) 0 (omega arith) ∙ ap (slice_index text) place in
          IsCharBoundary-before_ascii text to some
          (subst (λ b. b < 128) back (space_below _ (prefix_len_passes is_space (reverse text) (n - 1) 0 last)))
      | inr none ↦ let same : length text ≡ to = omega arith in subst (IsCharBoundary text) same (IsCharBoundary-end text)
    ]

-- So may it behind the later of the two.
pub boundary-max : (text : List ℕ) (from to at : ℕ) → IsCharBoundary text from → IsCharBoundary text to → at ≡ max from to → IsCharBoundary text at
boundary-max text from to at f t e =
    elim (cases_lt from to) [
      | inl less ↦ let same : to ≡ at = omega arith in subst (IsCharBoundary text) same t
      | inr more ↦ let same : from ≡ at = omega arith in subst (IsCharBoundary text) same f
    ]
