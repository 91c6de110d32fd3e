-- Texts with bytes that are written as something else.
use Rattle.std.proofs.Common.{◌≡◌, ℕ, suc, ◌+◌, ◌≤◌, ◌<◌, ◌==◌, ◌||◌, Bool, true, false, cond, not, Some, None, List, [], ◌∷◌, ◌++◌, length, take, drop, inl, inr, append-nil, ap, sym, ◌∙◌, subst, refl, arith}
use Rattle.std.specs.Prelude.{nat_lt, position, codes, slice_index}
use Rattle.std.specs.List.{position_or_len}
use Rattle.std.proofs.lemmas.Bool.{cases_Bool, ltb-true, ltb-false}
use Rattle.std.proofs.lemmas.Grind.{flat_map-append}
use Rattle.std.proofs.lemmas.Option.{cond_some}
use Rattle.spec_sheets.specs.RowBytes.{spaces, untabbed}
use Rattle.spec_html.specs.HtmlSheets.{escape, escaped}
use Rattle.sp_html.specs.Written.{is_changed, written}

-- What is written of a text.
abbrev pub written_text : List ℕ → List ℕ
written_text text = escaped (untabbed text)

-- Byte by byte.
written-more : (b : ℕ) (text : List ℕ) → written_text (b ∷ text) ≡ written b ++ written_text text
written-more b text =
    let one = cond (b == 9) (spaces 4) (b ∷ []) in
    flat_map-append escape one (untabbed text) ∙ ap (λ xs. escaped xs ++ written_text text) (sym (append-nil one))

-- A byte that is written as it stands.
untab-if : (b : ℕ) (w : Bool) → w ≡ false → escaped (cond w (spaces 4) (b ∷ []) ++ []) ≡ escape b ++ []
untab-if b false is = refl
untab-if b true is = cc

plain-byte : (b : ℕ) (x y z : Bool) → x || (y || z) ≡ false → cond x (codes "&amp;") (cond y (codes "&lt;") (cond z (codes "&gt;") (b ∷ []))) ++ [] ≡ b ∷ []
plain-byte b false false false is = refl
plain-byte b true y z is = cc
plain-byte b false true z is = cc
plain-byte b false false true is = cc

behind-tab : (w x : Bool) → w || x ≡ false → x ≡ false
behind-tab false x is = is
behind-tab true x is = cc

before-tab : (w x : Bool) → w || x ≡ false → w ≡ false
before-tab false x is = refl
before-tab true x is = cc

plain-written : (b : ℕ) → is_changed b ≡ false → written b ≡ b ∷ []
plain-written b is =
    untab-if b (b == 9) (before-tab (b == 9) ((b == 38) || ((b == 60) || (b == 62))) is)
    ∙ plain-byte b (b == 38) (b == 60) (b == 62) (behind-tab (b == 9) ((b == 38) || ((b == 60) || (b == 62))) is)

abbrev first_changed : List ℕ → ℕ
first_changed text = position_or_len is_changed text

-- What stands before the first such byte, what is written of it, and what is written behind it; all of it where there is none.
record ChangedAt (text : List ℕ) (at : ℕ) : Type 0 where
  there : at < length text → written_text text ≡ take at text ++ (written (slice_index text at) ++ written_text (drop (at + 1) text))
  test : at < length text → is_changed (slice_index text at) ≡ true
  none : length text ≤ at → written_text text ≡ text

changed-here : (b : ℕ) (text : List ℕ) → is_changed b ≡ true → ChangedAt (b ∷ text) 0
changed-here b text is = record {
  there = λ _. written-more b text;
  test = λ _. is;
  none = λ low. absurd (omega (arith, low));
}

changed-later : (b : ℕ) (text : List ℕ) (at : ℕ) → is_changed b ≡ false → ChangedAt text at → ChangedAt (b ∷ text) (suc at)
changed-later b text at other later =
    let here = written-more b text ∙ ap (λ xs. xs ++ written_text text) (plain-written b other) in
    let next : suc at + 1 ≡ suc (at + 1) = omega arith in
    record {
      there = λ low.
          here ∙ ap (λ xs. b ∷ xs) (later.there (omega (arith, low)))
          ∙ ap (λ n. b ∷ (take at text ++ (written (slice_index text at) ++ written_text (drop n (b ∷ text))))) (sym next);
      test = λ low. later.test (omega (arith, low));
      none = λ past. here ∙ ap (λ xs. b ∷ xs) (later.none (omega (arith, past)));
    }

-- By whether the first byte is one.
changed-if : (b : ℕ) (text : List ℕ) (t : Bool) → is_changed b ≡ t → ChangedAt text (first_changed text) → ChangedAt (b ∷ text) (cond (not t) (1 + first_changed text) 0)
changed-if b text true is later = changed-here b text is
changed-if b text false is later =
    let e : 1 + first_changed text ≡ suc (first_changed text) = omega arith in
    subst (ChangedAt (b ∷ text)) (sym e) (changed-later b text (first_changed text) is later)

changes : (text : List ℕ) → ChangedAt text (first_changed text)
changes [] = record { there = λ low. absurd (omega (arith, low)); test = λ low. absurd (omega (arith, low)); none = λ _. refl }
changes (b ∷ text) = changed-if b text (is_changed b) refl (changes text)

-- The first such byte that a search found, or none.
pub record Found (text : List ℕ) (at : ℕ) : Type 0 where
  pub inside : at < length text
  pub test : is_changed (slice_index text at) ≡ true
  pub split : written_text text ≡ take at text ++ (written (slice_index text at) ++ written_text (drop (at + 1) text))

pub found-changed : (text : List ℕ) (at : ℕ) → Some at ≡ position is_changed text → Found text at
found-changed text at found =
    let (inside, is) = cond_some (nat_lt (first_changed text) (length text)) (first_changed text) at (sym found) in
    let low = ltb-true (first_changed text) (length text) inside in
    subst (Found text) is (record { inside = low; test = (changes text).test low; split = (changes text).there low })

pub found-none : (text : List ℕ) → None ≡ position is_changed text → written_text text ≡ text
found-none text none =
    elim (cases_Bool (nat_lt (first_changed text) (length text))) [
      | inl inside ↦ let found : None ≡ Some (first_changed text) = none ∙ ap (λ t. cond t (Some (first_changed text)) None) inside in cc
      | inr past ↦ (changes text).none (ltb-false (first_changed text) (length text) past)
    ]
