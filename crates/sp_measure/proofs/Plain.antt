-- Plain characters in a text: what their first bytes say, and that clusters part between two of them.
use Rattle.std.proofs.Common.{◌≡◌, ℕ, ◌+◌, ◌-◌, ◌<◌, ◌≤◌, true, List, [], ◌∷◌, ◌++◌, length, take, drop, slice_index, slice_range, sym, ap, ap₂, subst, ◌∙◌, arith, append-nil, take_at, take_all, map, length-drop, inl, inr}
use Rattle.std.specs.Prelude.{encode_utf8_all}
use Rattle.std.specs.Char.{encode_utf8, len_utf8}
use Rattle.std.specs.Str.{chars, IsUtf8, IsCharBoundary, all_scalars}
use Rattle.std.proofs.lemmas.Bool.{cases_lt, and_parts}
use Rattle.std.proofs.lemmas.Bool.Decides.{nat_tests}
use Rattle.std.proofs.lemmas.List.{get_or-drop, drop_all}
use Rattle.std.proofs.lemmas.List.Folds.{drop_split}
use Rattle.std.proofs.lemmas.Str.{chars-nil, chars-append, chars_past_char, length-encode, drop_past_char, IsUtf8-encode, IsUtf8-drop, IsUtf8-between, IsCharBoundary-past_char}
use Rattle.unicode_segmentation.specs.Grapheme.{graphemes, is_grapheme_break}
use Rattle.unicode_segmentation.specs.Segments.{cut, segments}
use Rattle.unicode_segmentation.proofs.TextLemmas.{slice_range_split, chars-encode_utf8}
use Rattle.sp_measure.specs.Plain.{plain_length}
use Rattle.sp_measure.proofs.Alone.{is_plain, StandsAlone-plain, graphemes-single, graphemes-seam}

plain-lead : (c : ℕ) (rest : List ℕ) → 0 < plain_length (slice_index (encode_utf8 c ++ rest) 0)
    → (is_plain c ≡ true) × (len_utf8 c ≡ plain_length (slice_index (encode_utf8 c ++ rest) 0))
unfolding encode_utf8
plain-lead c rest h =
    elim (cases_lt c 128) [
      | inl one ↦ (grind (arith, nat_tests), grind (arith, nat_tests))
      | inr more ↦ elim (cases_lt c 2048) [
        | inl two ↦ (grind (arith, nat_tests), grind (arith, nat_tests))
        | inr high ↦ absurd (grind (arith, nat_tests))
      ]
    ]

-- A plain character stands at a place.
pub record PlainAt (s : List ℕ) (i : ℕ) : Type 0 where
  pub char : ℕ
  pub plain : is_plain char ≡ true
  pub one : IsUtf8 (encode_utf8 char)
  pub size : length (encode_utf8 char) ≡ plain_length (slice_index s i)
  pub start : IsCharBoundary s i
  pub end : IsCharBoundary s (i + plain_length (slice_index s i))
  pub from : drop i s ≡ encode_utf8 char ++ drop (i + plain_length (slice_index s i)) s

pub boundary-plain : (s : List ℕ) (i : ℕ) → i < length s → 0 < plain_length (slice_index s i) → IsCharBoundary s i
boundary-plain s i inside h = (omega arith, λ within high. grind (arith, nat_tests))

plain-of : (s : List ℕ) (i c : ℕ) (rest : List ℕ) → IsUtf8 s → i < length s → 0 < plain_length (slice_index s i) → IsUtf8 (encode_utf8 c) → drop i s ≡ encode_utf8 c ++ rest → PlainAt s i
plain-of s i c rest u inside h one is =
    let same : slice_index (encode_utf8 c ++ rest) 0 ≡ slice_index s i = sym (ap (λ t. slice_index t 0) is) ∙ get_or-drop i s 0 0 ∙ ap (slice_index s) (let e : i + 0 ≡ i = omega arith in e) in
    let lead = plain-lead c rest (subst (λ b. 0 < plain_length b) (sym same) h) in
    let width : len_utf8 c ≡ plain_length (slice_index s i) = lead.1 ∙ ap plain_length same in
    let le : i ≤ length s = omega arith in
    record {
      char = c;
      plain = lead.0;
      one = one;
      size = length-encode c ∙ width;
      start = boundary-plain s i inside h;
      end = subst (λ n. IsCharBoundary s (i + n)) width (IsCharBoundary-past_char s rest i c le (IsUtf8-drop s i u (boundary-plain s i inside h)) is);
      from = is ∙ ap (λ t. encode_utf8 c ++ t) (sym (ap (λ n. drop (i + n) s) (sym width) ∙ drop_past_char s rest i c is));
    }

plain-chars : (s : List ℕ) (i : ℕ) (cs : List ℕ) → IsUtf8 s → i < length s → 0 < plain_length (slice_index s i) → all_scalars cs ≡ true → encode_utf8_all cs ≡ drop i s → PlainAt s i
plain-chars s i [] u inside h ok is = absurd (omega (arith, ap length is, length-drop i s))
plain-chars s i (c ∷ cs) u inside h ok is =
    plain-of s i c (encode_utf8_all cs) u inside h (IsUtf8-encode c (and_parts _ _ ok).0) (sym is)

pub plain-at : (s : List ℕ) (i : ℕ) → IsUtf8 s → i < length s → 0 < plain_length (slice_index s i) → PlainAt s i
plain-at s i u inside h =
    let rest = IsUtf8-drop s i u (boundary-plain s i inside h) in
    plain-chars s i rest.0 u inside h rest.1.0 rest.1.1

-- The text of the character at a place.
pub plain-bytes : (s : List ℕ) (i end : ℕ) (p : PlainAt s i) → i + plain_length (slice_index s i) ≡ end → slice_range s i end ≡ encode_utf8 p.char
plain-bytes s i end p to =
    let size = p.size in
    ap (take (end - i)) p.from ∙ take_at (encode_utf8 p.char) (drop (i + plain_length (slice_index s i)) s) (end - i) (omega arith)

-- It is a cluster by itself.
pub graphemes-plain : (s : List ℕ) (i end : ℕ) → IsUtf8 s → i < length s → 0 < plain_length (slice_index s i) → i + plain_length (slice_index s i) ≡ end
    → graphemes true (slice_range s i end) ≡ slice_range s i end ∷ []
graphemes-plain s i end u inside h to =
    let p = plain-at s i u inside h in
    let bytes = plain-bytes s i end p to in
    graphemes-single (slice_range s i end) p.char (subst IsUtf8 (sym bytes) p.one) (ap chars bytes ∙ chars-encode_utf8 p.char p.one)

-- Where one ends and another begins, the clusters from a place on are those before and those behind.
pub graphemes-part : (s : List ℕ) (at i end : ℕ) → IsUtf8 s → IsCharBoundary s at → at ≤ i → end < length s
    → 0 < plain_length (slice_index s i) → i + plain_length (slice_index s i) ≡ end → 0 < plain_length (slice_index s end)
    → graphemes true (drop at s) ≡ graphemes true (slice_range s at end) ++ graphemes true (drop end s)
graphemes-part s at i end u start order inside last to next =
    let a = plain-at s i u (omega arith) last in
    let b = plain-at s end u inside next in
    let bytes = plain-bytes s i end a to in
    let front = slice_range s at end in
    let split : front ≡ slice_range s at i ++ encode_utf8 a.char = slice_range_split s at i end order (omega arith) ∙ ap (λ t. slice_range s at i ++ t) bytes in
    let ends : chars front ≡ chars (slice_range s at i) ++ a.char ∷ [] =
    ap chars split ∙ chars-append (slice_range s at i) (encode_utf8 a.char) (IsUtf8-between s at i u order start a.start)
    ∙ ap (λ t. chars (slice_range s at i) ++ t) (chars-encode_utf8 a.char a.one) in
    let begins = chars_past_char (drop end s) _ b.char (IsUtf8-drop s end u b.start) b.from in
    ap (graphemes true) (drop_split s at end (omega arith))
    ∙ graphemes-seam front (drop end s) (chars (slice_range s at i)) _ a.char b.char (IsUtf8-between s at end u (omega arith) start b.start) ends begins
    (StandsAlone-plain a.char a.plain) (StandsAlone-plain b.char b.plain)

pub graphemes-none : graphemes true [] ≡ []
unfolding segments cut
graphemes-none = ap (λ cs. map encode_utf8_all (cut (is_grapheme_break true) [] cs [])) chars-nil

-- The last part goes to the end of the text.
pub graphemes-last : (s : List ℕ) (at : ℕ) → graphemes true (drop at s) ≡ graphemes true (slice_range s at (length s)) ++ graphemes true (drop (length s) s)
graphemes-last s at =
    let within : length (drop at s) ≤ length s - at = omega (arith, length-drop at s) in
    sym (ap₂ (λ a b. graphemes true a ++ graphemes true b) (take_all (length s - at) (drop at s) within) (drop_all (length s) s (omega arith))
    ∙ ap (λ pieces. graphemes true (drop at s) ++ pieces) graphemes-none ∙ append-nil (graphemes true (drop at s)))
