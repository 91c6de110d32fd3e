-- Characters that no rule joins with one another: between two of them clusters part, and what stands before one has no part in what follows.
use Rattle.std.proofs.Common.{◌≡◌, ℕ, ◌<◌, Bool, true, false, cond, not, ◌&&◌, ◌||◌, ◌==◌, List, [], ◌∷◌, ◌++◌, length, map, unwrap_or, refl, sym, ap, ap₂, ◌∙◌, arith, append_assoc}
use Rattle.std.specs.Prelude.{encode_utf8_all}
use Rattle.std.specs.Int.{is_in_range}
use Rattle.std.specs.Str.{chars, IsUtf8}
use Rattle.std.proofs.lemmas.Bool.{eqb-true, and_right}
use Rattle.std.proofs.lemmas.Bool.Decides.{nat_tests}
use Rattle.std.proofs.lemmas.List.{map-append}
use Rattle.std.proofs.lemmas.Str.{chars-append, encodes-chars}
use Rattle.ucd_table.proofs.Facts.{Stepped-below}
use Rattle.ucd_breaks.specs.GraphemeClusterBreak.{grapheme_cluster_break, grapheme_cluster_break_number}
use Rattle.ucd_breaks.specs.declared.GraphemeClusterBreak.TheVariants.{Other}
use Rattle.ucd_breaks.proofs.Computing.{ucd_breaks}
use Rattle.ucd_breaks.proofs.GraphemeClusterBreakLemmas.{grapheme_cluster_break_stepped, grapheme_cluster_break_number_injective}
use Rattle.ucd_derived.specs.IndicConjunctBreak.{indic_conjunct_break, indic_conjunct_break_number}
use Rattle.ucd_derived.specs.declared.IndicConjunctBreak.{IndicConjunctBreak}
use Rattle.ucd_derived.specs.declared.IndicConjunctBreak.TheVariants as conjuncts
use Rattle.ucd_derived.proofs.Computing.{ucd_derived}
use Rattle.ucd_derived.proofs.IndicConjunctBreakLemmas.{indic_conjunct_break_stepped, indic_conjunct_break_number_injective}
use Rattle.ucd_emoji.specs.Binary.{is_extended_pictographic}
use Rattle.ucd_emoji.proofs.Computing.{ucd_emoji}
use Rattle.ucd_emoji.proofs.BinaryLemmas.{is_extended_pictographic_stepped}
use Rattle.unicode_segmentation.specs.Grapheme.{graphemes, is_grapheme_break, break_by_pair, ends_in_linker, is_consonant, joins_conjunct, is_extend, is_zwj, is_regional, ends_in_pictograph, joins_emoji, ends_in_half_flag, joins_flag}
use Rattle.unicode_segmentation.specs.Segments.{prepend, cut, segments}

-- The rules of clusters have nothing special for the character.
pub record StandsAlone (c : ℕ) : Type 0 where
  pub other : Other ≡ grapheme_cluster_break c
  pub no_conjunct : conjuncts.None ≡ indic_conjunct_break c
  pub no_pictograph : is_extended_pictographic c ≡ false

-- Printable ASCII, and the letters from U+00C0 to U+02FF.
abbrev pub is_plain : ℕ → Bool
is_plain c = is_in_range 0x20 0x7E c || is_in_range 0xC0 0x2FF c

pub low : (c : ℕ) → is_plain c ≡ true → c < 0x300
low c h = grind (arith, nat_tests)

not-or : (a b : Bool) → a ≡ true → (not a || b) ≡ true → b ≡ true
not-or true b h e = e
not-or false b h e = absurd (let f : false ≡ true = h in cc)

not-or-not : (a b : Bool) → a ≡ true → (not a || not b) ≡ true → b ≡ false
not-or-not true true h e = sym e
not-or-not true false h e = refl
not-or-not false b h e = absurd (let f : false ≡ true = h in cc)

other-plain : (c : ℕ) → is_plain c ≡ true → Other ≡ grapheme_cluster_break c
unfolding ucd_breaks
other-plain c h =
    sym (grapheme_cluster_break_number_injective (grapheme_cluster_break c) Other (eqb-true _ _ (not-or (is_plain c) _ h
    (Stepped-below grapheme_cluster_break grapheme_cluster_break_stepped (λ x v. not (is_plain x) || (grapheme_cluster_break_number v == grapheme_cluster_break_number Other)) 0x300 refl c (low c h)))))

conjunct-plain : (c : ℕ) → is_plain c ≡ true → conjuncts.None ≡ indic_conjunct_break c
unfolding ucd_derived
conjunct-plain c h =
    sym (indic_conjunct_break_number_injective (indic_conjunct_break c) conjuncts.None (eqb-true _ _ (not-or (is_plain c) _ h
    (Stepped-below indic_conjunct_break indic_conjunct_break_stepped (λ x v. not (is_plain x) || (indic_conjunct_break_number v == indic_conjunct_break_number conjuncts.None)) 0x300 refl c (low c h)))))

pictograph-plain : (c : ℕ) → is_plain c ≡ true → is_extended_pictographic c ≡ false
unfolding ucd_emoji
pictograph-plain c h =
    not-or-not (is_plain c) _ h
    (Stepped-below is_extended_pictographic is_extended_pictographic_stepped (λ x v. not (is_plain x) || not v) 0x300 refl c (low c h))

pub StandsAlone-plain : (c : ℕ) → is_plain c ≡ true → StandsAlone c
StandsAlone-plain c h = record { other = other-plain c h; no_conjunct = conjunct-plain c h; no_pictograph = pictograph-plain c h }

-- Between two such characters clusters part.
break-alone : (before : List ℕ) (p q : ℕ) (after : List ℕ) → StandsAlone p → StandsAlone q → is_grapheme_break true (p ∷ before) (q ∷ after) ≡ true
unfolding is_grapheme_break
break-alone before p q after a b =
    let joined = not ((true && joins_conjunct (p ∷ before) q) || joins_emoji (p ∷ before) q || joins_flag (p ∷ before) q) in
    let conjunct = and_right (ends_in_linker (map indic_conjunct_break (p ∷ before))) _ (ap is_consonant (sym b.no_conjunct)) in
    let emoji = ap (λ g. is_zwj g && ends_in_pictograph before && is_extended_pictographic q) (sym a.other) in
    let flag = and_right (ends_in_half_flag (p ∷ before)) _ (ap is_regional (sym b.other)) in
    ap₂ (λ l r. unwrap_or (break_by_pair true l r) joined) (sym a.other) (sym b.other)
    ∙ ap not (ap₂ ◌||◌ (ap₂ ◌||◌ conjunct emoji) flag)

-- No rule looks back past such a character.
linker-stop : (vs ws : List IndicConjunctBreak) → ends_in_linker (vs ++ conjuncts.None ∷ ws) ≡ ends_in_linker (vs ++ conjuncts.None ∷ [])
unfolding ends_in_linker
linker-stop [] ws = refl
linker-stop (conjuncts.Linker ∷ vs) ws = refl
linker-stop (conjuncts.Extend ∷ vs) ws = linker-stop vs ws
linker-stop (conjuncts.Consonant ∷ vs) ws = refl
linker-stop (conjuncts.None ∷ vs) ws = refl

conjunct-stop : (front before : List ℕ) (p next : ℕ) → StandsAlone p → joins_conjunct (front ++ p ∷ before) next ≡ joins_conjunct (front ++ p ∷ []) next
conjunct-stop front before p next a =
    let known = λ (rest : List ℕ). let e : map indic_conjunct_break (front ++ p ∷ rest) ≡ map indic_conjunct_break front ++ conjuncts.None ∷ map indic_conjunct_break rest =
    map-append indic_conjunct_break front (p ∷ rest) ∙ ap (λ v. map indic_conjunct_break front ++ v ∷ map indic_conjunct_break rest) (sym a.no_conjunct) in e in
    ap (λ b. b && is_consonant (indic_conjunct_break next))
    (ap ends_in_linker (known before) ∙ linker-stop (map indic_conjunct_break front) (map indic_conjunct_break before) ∙ sym (ap ends_in_linker (known [])))

pictograph-none : (before : List ℕ) (p : ℕ) → StandsAlone p → ends_in_pictograph (p ∷ before) ≡ false
unfolding ends_in_pictograph
pictograph-none before p a = ap₂ (λ b g. b || (is_extend g && ends_in_pictograph before)) a.no_pictograph (sym a.other)

pictograph-stop : (front before : List ℕ) (p : ℕ) → StandsAlone p → ends_in_pictograph (front ++ p ∷ before) ≡ ends_in_pictograph (front ++ p ∷ [])
unfolding ends_in_pictograph
pictograph-stop [] before p a = pictograph-none before p a ∙ sym (pictograph-none [] p a)
pictograph-stop (c ∷ front) before p a = ap (λ b. is_extended_pictographic c || (is_extend (grapheme_cluster_break c) && b)) (pictograph-stop front before p a)

emoji-stop : (front before : List ℕ) (p next : ℕ) → StandsAlone p → joins_emoji (front ++ p ∷ before) next ≡ joins_emoji (front ++ p ∷ []) next
emoji-stop [] before p next a =
    let none = λ (rest : List ℕ). ap (λ g. is_zwj g && ends_in_pictograph rest && is_extended_pictographic next) (sym a.other) in
    none before ∙ sym (none [])
emoji-stop (c ∷ front) before p next a =
    ap (λ b. is_zwj (grapheme_cluster_break c) && b && is_extended_pictographic next) (pictograph-stop front before p a)

half_flag-none : (before : List ℕ) (p : ℕ) → StandsAlone p → ends_in_half_flag (p ∷ before) ≡ false
unfolding ends_in_half_flag
half_flag-none before p a = ap (λ g. is_regional g && not (ends_in_half_flag before)) (sym a.other)

half_flag-stop : (front before : List ℕ) (p : ℕ) → StandsAlone p → ends_in_half_flag (front ++ p ∷ before) ≡ ends_in_half_flag (front ++ p ∷ [])
unfolding ends_in_half_flag
half_flag-stop [] before p a = half_flag-none before p a ∙ sym (half_flag-none [] p a)
half_flag-stop (c ∷ front) before p a = ap (λ b. is_regional (grapheme_cluster_break c) && not b) (half_flag-stop front before p a)

break-stop : (front before : List ℕ) (p : ℕ) (after : List ℕ) → StandsAlone p
    → is_grapheme_break true (front ++ p ∷ before) after ≡ is_grapheme_break true (front ++ p ∷ []) after
unfolding is_grapheme_break
break-stop [] before p [] a = refl
break-stop (c ∷ front) before p [] a = refl
break-stop [] before p (next ∷ after) a =
    ap (λ b. unwrap_or (break_by_pair true (grapheme_cluster_break p) (grapheme_cluster_break next)) (not b))
    (ap₂ ◌||◌ (ap₂ ◌||◌ (conjunct-stop [] before p next a) (emoji-stop [] before p next a)) (ap (λ b. b && is_regional (grapheme_cluster_break next)) (half_flag-stop [] before p a)))
break-stop (c ∷ front) before p (next ∷ after) a =
    ap (λ b. unwrap_or (break_by_pair true (grapheme_cluster_break c) (grapheme_cluster_break next)) (not b))
    (ap₂ ◌||◌ (ap₂ ◌||◌ (conjunct-stop (c ∷ front) before p next a) (emoji-stop (c ∷ front) before p next a))
    (ap (λ b. b && is_regional (grapheme_cluster_break next)) (half_flag-stop (c ∷ front) before p a)))

abbrev attach : Bool → List ℕ → List (List ℕ) → List (List ℕ)
attach breaks part pieces = cond breaks (part ∷ pieces) (prepend part pieces)

attach-some : (b : Bool) (part : List ℕ) (pieces : List (List ℕ)) → 0 < length (attach b part pieces)
attach-some true part pieces = omega arith
attach-some false part [] = omega arith
attach-some false part (piece ∷ pieces) = omega arith

attach-append : (b : Bool) (part : List ℕ) (pieces more : List (List ℕ)) → 0 < length pieces → attach b part (pieces ++ more) ≡ attach b part pieces ++ more
attach-append true part pieces more some = refl
attach-append false part [] more some = absurd (omega arith)
attach-append false part (piece ∷ pieces) more some = refl

cut-stop : (front before : List ℕ) (p : ℕ) (cs after : List ℕ) → StandsAlone p
    → cut (is_grapheme_break true) (front ++ p ∷ before) cs after ≡ cut (is_grapheme_break true) (front ++ p ∷ []) cs after
unfolding cut
cut-stop front before p [] after a = refl
cut-stop front before p (c ∷ cs) after a =
    ap₂ (λ b pieces. attach b (c ∷ []) pieces) (break-stop (c ∷ front) before p (cs ++ after) a) (cut-stop (c ∷ front) before p cs after a)

cut-restart : (before : List ℕ) (q : ℕ) (ys : List ℕ) → StandsAlone q
    → cut (is_grapheme_break true) before (q ∷ ys) [] ≡ cut (is_grapheme_break true) [] (q ∷ ys) []
unfolding cut
cut-restart before q ys a = ap₂ (λ b pieces. attach b (q ∷ []) pieces) (break-stop [] before q (ys ++ []) a) (cut-stop [] before q ys [] a)

break-end : (c : ℕ) (before : List ℕ) → is_grapheme_break true (c ∷ before) [] ≡ true
unfolding is_grapheme_break
break-end c before = refl

break-next : (c : ℕ) (before : List ℕ) (next : ℕ) (after other : List ℕ) → is_grapheme_break true (c ∷ before) (next ∷ after) ≡ is_grapheme_break true (c ∷ before) (next ∷ other)
unfolding is_grapheme_break
break-next c before next after other = refl

cut-some : (before : List ℕ) (xs : List ℕ) (p : ℕ) → 0 < length (cut (is_grapheme_break true) before (xs ++ p ∷ []) [])
unfolding cut
cut-some before [] p = attach-some (is_grapheme_break true (p ∷ before) []) (p ∷ []) []
cut-some before (x ∷ xs) p = attach-some (is_grapheme_break true (x ∷ before) ((xs ++ p ∷ []) ++ [])) (x ∷ []) (cut (is_grapheme_break true) (x ∷ before) (xs ++ p ∷ []) [])

cut-seam : (before xs : List ℕ) (p q : ℕ) (ys : List ℕ) → StandsAlone p → StandsAlone q
    → cut (is_grapheme_break true) before (xs ++ p ∷ q ∷ ys) [] ≡ cut (is_grapheme_break true) before (xs ++ p ∷ []) [] ++ cut (is_grapheme_break true) [] (q ∷ ys) []
unfolding cut
cut-seam before [] p q ys a b =
    let rest = cut (is_grapheme_break true) (p ∷ before) (q ∷ ys) [] in
    ap (λ c. attach c (p ∷ []) rest) (break-alone before p q (ys ++ []) a b)
    ∙ ap (λ pieces. (p ∷ []) ∷ pieces) (cut-restart (p ∷ before) q ys b)
    ∙ sym (ap (λ c. attach c (p ∷ []) [] ++ cut (is_grapheme_break true) [] (q ∷ ys) []) (break-end p before))
cut-seam before (x ∷ []) p q ys a b =
    let back = cut (is_grapheme_break true) [] (q ∷ ys) [] in
    ap₂ (λ c pieces. attach c (x ∷ []) pieces) (break-next x before p ((q ∷ ys) ++ []) []) (cut-seam (x ∷ before) [] p q ys a b)
    ∙ attach-append (is_grapheme_break true (x ∷ before) (p ∷ [])) (x ∷ []) (cut (is_grapheme_break true) (x ∷ before) (p ∷ []) []) back (cut-some (x ∷ before) [] p)
cut-seam before (x ∷ (y ∷ xs)) p q ys a b =
    let back = cut (is_grapheme_break true) [] (q ∷ ys) [] in
    ap₂ (λ c pieces. attach c (x ∷ []) pieces) (break-next x before y ((xs ++ p ∷ q ∷ ys) ++ []) ((xs ++ p ∷ []) ++ [])) (cut-seam (x ∷ before) (y ∷ xs) p q ys a b)
    ∙ attach-append (is_grapheme_break true (x ∷ before) (y ∷ ((xs ++ p ∷ []) ++ []))) (x ∷ []) (cut (is_grapheme_break true) (x ∷ before) (y ∷ (xs ++ p ∷ [])) []) back
    (cut-some (x ∷ before) (y ∷ xs) p)

-- A text of one character is one cluster.
pub graphemes-single : (text : List ℕ) (c : ℕ) → IsUtf8 text → chars text ≡ c ∷ [] → graphemes true text ≡ text ∷ []
unfolding segments cut
graphemes-single text c u e =
    ap (λ cs. map encode_utf8_all (cut (is_grapheme_break true) [] cs [])) e
    ∙ ap (λ b. map encode_utf8_all (attach b (c ∷ []) [])) (break-end c [])
    ∙ ap (λ piece. piece ∷ []) (ap encode_utf8_all (sym e) ∙ encodes-chars text u)

-- Where such a character ends a text and another begins the next, the clusters of both texts together are those of each.
pub graphemes-seam : (front back xs ys : List ℕ) (p q : ℕ) → IsUtf8 front → chars front ≡ xs ++ p ∷ [] → chars back ≡ q ∷ ys → StandsAlone p → StandsAlone q
    → graphemes true (front ++ back) ≡ graphemes true front ++ graphemes true back
unfolding segments
graphemes-seam front back xs ys p q u ends begins a b =
    ap (λ cs. map encode_utf8_all (cut (is_grapheme_break true) [] cs []))
    (chars-append front back u ∙ ap₂ ◌++◌ ends begins ∙ append_assoc xs (p ∷ []) (q ∷ ys))
    ∙ ap (map encode_utf8_all) (cut-seam [] xs p q ys a b)
    ∙ map-append encode_utf8_all (cut (is_grapheme_break true) [] (xs ++ p ∷ []) []) (cut (is_grapheme_break true) [] (q ∷ ys) [])
    ∙ ap₂ (λ cs ds. map encode_utf8_all (cut (is_grapheme_break true) [] cs []) ++ map encode_utf8_all (cut (is_grapheme_break true) [] ds [])) (sym ends) (sym begins)
