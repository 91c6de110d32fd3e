-- The cluster of a plain character, and the clusters of a text part after part.
use Rattle.std.proofs.Common.{◌≡◌, ℕ, ◌+◌, ◌<◌, ◌≤◌, Bool, true, false, cond, not, ◌&&◌, ◌||◌, ◌==◌, List, [], ◌∷◌, ◌++◌, length, drop, slice_index, slice_range, refl, sym, ap, ap₂, subst, ◌∙◌, arith, append_assoc, take_all, append-nil, length-append, inl, inr}
use Rattle.std.specs.Int.{is_in_range}
use Rattle.std.specs.List.{concat}
use Rattle.std.specs.Prelude.{nat_lt, encode_utf8}
use Rattle.std.specs.Str.{chars, IsUtf8, IsCharBoundary, bytes_eq}
use Rattle.std.proofs.lemmas.Bool.{and_right, or_cases}
use Rattle.std.proofs.lemmas.Bool.Decides.{nat_tests}
use Rattle.std.proofs.lemmas.List.{drop_all}
use Rattle.std.proofs.lemmas.List.Sums.{sum_by-cons}
use Rattle.std.proofs.lemmas.Str.{IsUtf8-between}
use Rattle.ucd_table.proofs.Facts.{Stepped-below}
use Rattle.unicode_width.specs.declared.kind.Kind.{Kind}
use Rattle.unicode_width.specs.declared.kind.Kind.TheVariants as kinds
use Rattle.unicode_width.specs.Kind.{kind, number_of_kind}
use Rattle.unicode_width.specs.Width.{of_kind, alone, char_width, str_width}
use Rattle.unicode_width.proofs.Computing.{unicode_width}
use Rattle.unicode_width.proofs.KindLemmas.{kind_stepped}
use Rattle.unicode_width.proofs.Rules.{is_simple_kind, width_or_zero, str_width-simple, str_width-printable}
use Rattle.unicode_segmentation.specs.Grapheme.{graphemes, is_grapheme_break}
use Rattle.unicode_segmentation.proofs.SegmentsLemmas.{concat-segments}
use Rattle.unicode_segmentation.proofs.TextLemmas.{chars-encode_utf8, length-slice_range}
use Rattle.spec_pages.specs.declared.Cluster.{Cluster}
use Rattle.spec_pages.specs.Clusters.{is_printable, is_space, width_of, cluster_at, clusters_at}
use Rattle.spec_pages.proofs.PrintableLaws.{is_space-printable}
use Rattle.sp_measure.specs.Plain.{plain_length}
use Rattle.sp_measure.proofs.Alone.{is_plain}
use Rattle.sp_measure.proofs.Plain.{plain-at, plain-bytes, graphemes-none, graphemes-plain}

-- A letter from U+00C0 to U+02FF is narrow, or wide in an East Asian context alone.
abbrev is_narrow : Kind → Bool
is_narrow k = (number_of_kind k == 1) || (number_of_kind k == 3)

not-or : (a b : Bool) → a ≡ true → (not a || b) ≡ true → b ≡ true
not-or true b h e = e
not-or false b h e = absurd (let f : false ≡ true = h in cc)

kind-letter : (c : ℕ) → c < 0x300 → is_in_range 0xC0 0x2FF c ≡ true → is_narrow (kind c) ≡ true
unfolding unicode_width
kind-letter c below h =
    not-or (is_in_range 0xC0 0x2FF c) _ h
    (Stepped-below kind kind_stepped (λ x k. not (is_in_range 0xC0 0x2FF x) || is_narrow k) 0x300 refl c below)

simple-narrow : (k : Kind) (c : ℕ) → is_narrow k ≡ true → (is_simple_kind k ≡ true) × ((of_kind false c k).0 ≡ 1)
simple-narrow kinds.Zero c h = absurd (let f : false ≡ true = h in cc)
simple-narrow kinds.Narrow c h = (refl, refl)
simple-narrow kinds.Wide c h = absurd (let f : false ≡ true = h in cc)
simple-narrow kinds.Ambiguous c h = (refl, refl)
simple-narrow kinds.Alef c h = absurd (let f : false ≡ true = h in cc)
simple-narrow kinds.KhmerLetter c h = absurd (let f : false ≡ true = h in cc)
simple-narrow kinds.TifinaghConsonant c h = absurd (let f : false ≡ true = h in cc)
simple-narrow kinds.LisuTone c h = absurd (let f : false ≡ true = h in cc)
simple-narrow kinds.RegionalIndicator c h = absurd (let f : false ≡ true = h in cc)
simple-narrow kinds.EmojiModifier c h = absurd (let f : false ≡ true = h in cc)
simple-narrow kinds.Emoji c h = absurd (let f : false ≡ true = h in cc)
simple-narrow kinds.Single c h = absurd (let f : false ≡ true = h in cc)

width-letter : (c : ℕ) → is_in_range 0xC0 0x2FF c ≡ true → str_width false (c ∷ []) ≡ 1
unfolding char_width alone
width-letter c h =
    let below : c < 0x300 = grind (arith, nat_tests) in
    let parts = simple-narrow (kind c) c (kind-letter c below h) in
    let high : nat_lt 0xA0 c ≡ true = grind (arith, nat_tests) in
    let late : nat_lt c 0x7F ≡ false = grind (arith, nat_tests) in
    let simple : (is_in_range 0x20 0x7E c || (nat_lt 0xA0 c && is_simple_kind (kind c))) && true ≡ true = grind (arith, nat_tests, high, parts.0) in
    let one : width_or_zero false c ≡ 1 = grind (arith, nat_tests, high, late, parts.1) in
    str_width-simple false (c ∷ []) simple ∙ sum_by-cons (width_or_zero false) c [] ∙ ap (λ n. n + 0) one

width-plain : (c : ℕ) → is_plain c ≡ true → str_width false (c ∷ []) ≡ 1
width-plain c h =
    elim (or_cases (is_in_range 0x20 0x7E c) (is_in_range 0xC0 0x2FF c) h) [
      | inl ascii ↦ str_width-printable false (c ∷ []) (ap (λ b. b && true) ascii)
      | inr letter ↦ width-letter c letter
    ]

no_tab : (part : List ℕ) → 0 < length part → length part ≡ plain_length (slice_index part 0) → bytes_eq part (9 ∷ []) ≡ false
no_tab [] some size = absurd (omega arith)
no_tab (x ∷ []) some size = grind (arith, nat_tests)
no_tab (x ∷ (y ∷ rest)) some size = and_right (x == 9) false refl

space-plain : (part : List ℕ) → 0 < length part → length part ≡ plain_length (slice_index part 0) → is_space part ≡ (slice_index part 0 == 32)
space-plain [] some size = absurd (omega arith)
space-plain (x ∷ []) some size = let printable : is_printable x ≡ true = grind (arith, nat_tests) in is_space-printable x printable
space-plain (x ∷ (y ∷ rest)) some size = let other : (x == 32) ≡ false = grind (arith, nat_tests) in
    ap₂ ◌||◌ (and_right (x == 32) false refl) (and_right (x == 9) false refl) ∙ sym other

-- The cluster of a text of one plain character.
pub clusters_at-plain : (style at : ℕ) (part : List ℕ) → IsUtf8 part → 0 < length part → length part ≡ plain_length (slice_index part 0)
    → record { from = at; to = at + length part; width = 1; style = style; space = slice_index part 0 == 32 } ∷ [] ≡ clusters_at style at (graphemes true part)
clusters_at-plain style at part u some size =
    let cluster = λ (width : ℕ) (space : Bool). let c : Cluster = record { from = at; to = at + length part; width = width; style = style; space = space } in c in
    let plain : 0 < plain_length (slice_index part 0) = omega arith in
    let p = plain-at part 0 u some plain in
    let whole : slice_range part 0 (length part) ≡ part = take_all _ part (omega arith) in
    let bytes : part ≡ encode_utf8 p.char = sym whole ∙ plain-bytes part 0 (length part) p (omega arith) in
    let is : chars part ≡ p.char ∷ [] = ap chars bytes ∙ chars-encode_utf8 p.char p.one in
    let width : width_of part ≡ 1 = ap₂ (λ tab cs. cond tab 4 (str_width false cs)) (no_tab part some size) is ∙ width-plain p.char p.plain in
    let one : graphemes true part ≡ part ∷ [] = subst (λ t. graphemes true t ≡ t ∷ []) whole (graphemes-plain part 0 (length part) u some plain (omega arith)) in
    ap (λ (c : Cluster). c ∷ []) (ap₂ cluster (sym width) (sym (space-plain part some size)))
    ∙ sym (ap (clusters_at style at) one)

clusters_at-append : (style at : ℕ) (pieces more : List (List ℕ))
    → clusters_at style at (pieces ++ more) ≡ clusters_at style at pieces ++ clusters_at style (at + length (concat pieces)) more
clusters_at-append style at [] more = ap (λ n. clusters_at style n more) (let e : at ≡ at + 0 = omega arith in e)
clusters_at-append style at (piece ∷ pieces) more =
    ap (λ (cs : List Cluster). cluster_at style at piece ∷ cs)
    (clusters_at-append style (at + length piece) pieces more
    ∙ ap (λ n. clusters_at style (at + length piece) pieces ++ clusters_at style n more)
    (let e : at + length piece + length (concat pieces) ≡ at + length (piece ++ concat pieces) = omega (arith, length-append piece (concat pieces)) in e))

-- One more part's clusters are made.
pub part-made : (text : List ℕ) (style from at end : ℕ) (made more all : List Cluster) → IsUtf8 text → IsCharBoundary text at → IsCharBoundary text end → at ≤ end
    → graphemes true (drop at text) ≡ graphemes true (slice_range text at end) ++ graphemes true (drop end text)
    → more ≡ made ++ clusters_at style (from + at) (graphemes true (slice_range text at end))
    → made ++ clusters_at style (from + at) (graphemes true (drop at text)) ≡ all
    → more ++ clusters_at style (from + end) (graphemes true (drop end text)) ≡ all
part-made text style from at end made more all u start stop order parts added same =
    let pieces = graphemes true (slice_range text at end) in
    let rest = graphemes true (drop end text) in
    let length-pieces = ap length (concat-segments (is_grapheme_break true) (slice_range text at end) (IsUtf8-between text at end u order start stop)) ∙ length-slice_range text at end stop.0 in
    let place : from + at + length (concat pieces) ≡ from + end = omega arith in
    ap (λ (l : List Cluster). l ++ clusters_at style (from + end) rest) added
    ∙ append_assoc made (clusters_at style (from + at) pieces) (clusters_at style (from + end) rest)
    ∙ ap (λ n. made ++ (clusters_at style (from + at) pieces ++ clusters_at style n rest)) (sym place)
    ∙ ap (λ (l : List Cluster). made ++ l) (sym (ap (clusters_at style (from + at)) parts ∙ clusters_at-append style (from + at) pieces rest))
    ∙ same

-- At the end of the text all are made.
pub all-made : (text : List ℕ) (style from at : ℕ) (made all : List Cluster) → length text ≤ at
    → made ++ clusters_at style (from + at) (graphemes true (drop at text)) ≡ all → made ≡ all
all-made text style from at made all past same =
    sym (ap (λ t. made ++ clusters_at style (from + at) (graphemes true t)) (drop_all at text past)
    ∙ ap (λ pieces. made ++ clusters_at style (from + at) pieces) graphemes-none ∙ append-nil made) ∙ same
