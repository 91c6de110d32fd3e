-- A text cut in three: what stands in the middle, by itself.
use Rattle.std.proofs.Common.{◌≡◌, ◌⊎◌, ℕ, ◌+◌, ◌-◌, ◌<◌, ◌≤◌, Bool, true, false, ◌||◌, eqb, List, [], ◌∷◌, ◌++◌, map, length, take, drop, sum_by, slice_get, inl, inr, refl, sym, ap, ap₂, subst, ◌∙◌, arith, length-append, length-drop}
use Rattle.std.specs.Prelude.{filter, All, slice_range}
use Rattle.std.proofs.Math.Seq.{drop-append-add}
use Rattle.std.proofs.lemmas.List.{take-append-le, drop-append-le}
use Rattle.std.proofs.lemmas.Bool.{cases_lt, cases_eq, ne_eqb, eq-eqb}
use Rattle.std.proofs.lemmas.List.Elements.{All-head, All-tail}
use Rattle.spec_text.proofs.ListLaws.{slice_get-front, slice_get-back}
use Rattle.spec_pages.specs.declared.Shape.{Shape}
use Rattle.spec_pages.specs.Pages.{lead_of, carried, may_part_at, page_starts, text_heights}
use Rattle.spec_edit.specs.Items.{Sight, page_break, row, breaks_among, shapes_among}
use Rattle.spec_pages.specs.Heights.{starts_of}
use Rattle.spec_pages.specs.OwnPages.{own_heights, left_open, AreJoined, is_among, lies_in, StopsAt}
use Rattle.spec_edit.proofs.AmongLaws.{shapes_among-append, breaks_among-append}
use Rattle.spec_pages.proofs.OwnPageLaws.{Agree}
use Rattle.spec_pages.proofs.OwnStartLaws.{Segment, starts_of-segment}

-- The first rows of the pages of a segment, by what stands in it alone.
abbrev pub segment_starts : ℕ → List Sight → List ℕ
segment_starts limit sights = starts_of limit (own_heights (shapes_among sights)) (length (shapes_among sights)) (breaks_among 0 sights)

-- The page starts of a text with these records' starts.
abbrev pub text_starts : ℕ → List Sight → List ℕ → List ℕ
text_starts limit sights starts = page_starts limit (shapes_among sights) (breaks_among 0 sights ++ starts)

-- A range of the middle part.
pub range-middle : {X : Type 0} (xs ys zs : List X) (a b : ℕ) → b ≤ length ys → slice_range (xs ++ (ys ++ zs)) (length xs + a) (length xs + b) ≡ slice_range ys a b
range-middle xs ys zs a b low =
    let n : length xs + b - (length xs + a) ≡ b - a = omega arith in
    ap₂ (λ m l. take m l) n (drop-append-add xs (ys ++ zs) a)
    ∙ elim (cases_lt b a) [
      | inl none ↦
          let e : b - a ≡ 0 = omega (arith, none) in
          ap (λ m. take m (drop a (ys ++ zs))) e ∙ sym (ap (λ m. take m (drop a ys)) e)
      | inr some ↦
          ap (take (b - a)) (drop-append-le a ys zs (omega (arith, some, low)))
          ∙ take-append-le (b - a) (drop a ys) zs (omega (arith, length-drop a ys, low))
    ]

-- Pages of the middle part see its own rows alone.
pub middle-agrees : (xs ys zs : List Shape) → AreJoined (xs ++ (ys ++ zs)) → Agree (text_heights (xs ++ (ys ++ zs))) (own_heights ys) (length xs) (length ys)
middle-agrees xs ys zs joined = record {
  height = λ p q less low.
      let whole = xs ++ (ys ++ zs) in
      let s = length xs in
      let count : s + q - (s + p) ≡ q - p = omega arith in
      let from : s + p + 1 ≡ s + (p + 1) = omega arith in
      let last : s + q - 1 ≡ s + (q - 1) = omega (arith, less) in
      let leads : slice_range whole (s + p + 1) (s + q) ≡ slice_range ys (p + 1) q = ap (λ a. slice_range whole a (s + q)) from ∙ range-middle xs ys zs (p + 1) q low in
      let top : slice_get whole (s + p) ≡ slice_get ys p = slice_get-back xs (ys ++ zs) p ∙ slice_get-front ys zs p (omega (arith, less, low)) in
      let above : slice_get whole (s + q - 1) ≡ slice_get ys (q - 1) = ap (slice_get whole) last ∙ slice_get-back xs (ys ++ zs) (q - 1) ∙ slice_get-front ys zs (q - 1) (omega (arith, less, low)) in
      let behind : carried (slice_get whole (s + q)) ≡ left_open (slice_get ys (q - 1)) = joined (s + q) (omega (arith, less)) ∙ ap left_open above in
      ap₂ (λ a b. a + b) (ap₂ (λ a b. a + b) (ap₂ (λ a b. a + b) count (ap (sum_by lead_of) leads)) (ap carried top)) behind;
  legal = λ q some low.
      let whole = xs ++ (ys ++ zs) in
      let s = length xs in
      let last : s + q - 1 ≡ s + (q - 1) = omega (arith, some) in
      ap₂ may_part_at
      (ap (slice_get whole) last ∙ slice_get-back xs (ys ++ zs) (q - 1) ∙ slice_get-front ys zs (q - 1) (omega (arith, low)))
      (slice_get-back xs (ys ++ zs) q ∙ slice_get-front ys zs q low);
}

is_among-append : (xs ys : List ℕ) (q : ℕ) → is_among (xs ++ ys) q ≡ (is_among xs q || is_among ys q)
is_among-append [] ys q = refl
is_among-append (x ∷ xs) ys q = by (eqb x q) (is_among-append xs ys q)
  where
    by : (b : Bool) → is_among (xs ++ ys) q ≡ (is_among xs q || is_among ys q) → (b || is_among (xs ++ ys) q) ≡ ((b || is_among xs q) || is_among ys q)
    by true rest = refl
    by false rest = rest

-- Breaks stand between the first and the last of their rows.
breaks-below : (count : ℕ) (xs : List Sight) (q : ℕ) → count + length (shapes_among xs) < q → is_among (breaks_among count xs) q ≡ false
breaks-below count [] q h = refl
breaks-below count (page_break ∷ xs) q h =
    ap₂ (λ a b. a || b) (ne_eqb count q (λ e. omega (arith, h, e))) (breaks-below count xs q h)
breaks-below count (row it ∷ xs) q h = breaks-below (count + 1) xs q (omega (arith, h))

breaks-above : (count : ℕ) (xs : List Sight) (q : ℕ) → q < count → is_among (breaks_among count xs) q ≡ false
breaks-above count [] q h = refl
breaks-above count (page_break ∷ xs) q h =
    ap₂ (λ a b. a || b) (ne_eqb count q (λ e. omega (arith, h, e))) (breaks-above count xs q h)
breaks-above count (row it ∷ xs) q h = breaks-above (count + 1) xs q (omega (arith, h))

eqb-shift : (s q r : ℕ) → eqb (s + q) (s + r) ≡ eqb q r
eqb-shift s q r =
    elim (cases_eq q r) [
      | inl same ↦ eq-eqb (s + q) (s + r) (omega (arith, same)) ∙ sym (eq-eqb q r same)
      | inr other ↦ ne_eqb (s + q) (s + r) (λ e. other (omega (arith, e))) ∙ sym (ne_eqb q r other)
    ]

breaks-shift : (s count : ℕ) (xs : List Sight) (q : ℕ) → is_among (breaks_among (s + count) xs) (s + q) ≡ is_among (breaks_among count xs) q
breaks-shift s count [] q = refl
breaks-shift s count (page_break ∷ xs) q = ap₂ (λ a b. a || b) (eqb-shift s count q) (breaks-shift s count xs q)
breaks-shift s count (row it ∷ xs) q =
    let e : s + count + 1 ≡ s + (count + 1) = omega arith in
    ap (λ n. is_among (breaks_among n xs) (s + q)) e ∙ breaks-shift s (count + 1) xs q

-- No start of a record lies inside the segment.
abbrev pub SpareInside : ℕ → ℕ → List ℕ → Type 0
SpareInside s end starts = All (λ start. (start ≤ s) ⊎ (end ≤ start)) starts

starts-spare : (s end : ℕ) (starts : List ℕ) (q : ℕ) → s < q → q < end → SpareInside s end starts → is_among starts q ≡ false
starts-spare s end [] q above below spare = refl
starts-spare s end (start ∷ starts) q above below spare =
    let P : ℕ → Type 0 = λ start. (start ≤ s) ⊎ (end ≤ start) in
    ap₂ (λ a b. a || b)
    (ne_eqb start q (λ e. elim (All-head P start starts spare) [ inl low ↦ omega (arith, low, above, e) | inr high ↦ omega (arith, high, below, e) ]))
    (starts-spare s end starts q above below (All-tail P start starts spare))

or-false : (a : Bool) → (a || false) ≡ a
or-false true = refl
or-false false = refl

or-true : (a : Bool) → (a || true) ≡ true
or-true true = refl
or-true false = refl

-- A text in three parts, the middle one of which is a segment between two records' starts.
pub record Cut (xs ys zs : List Sight) (starts : List ℕ) : Type 0 where
  pub joined : AreJoined (shapes_among (xs ++ (ys ++ zs)))
  pub spare : SpareInside (length (shapes_among xs)) (length (shapes_among xs) + length (shapes_among ys)) starts
  pub begin : (length (shapes_among xs) ≡ 0) ⊎ (is_among starts (length (shapes_among xs)) ≡ true)
  pub end : (length (shapes_among zs) ≡ 0) ⊎ (is_among starts (length (shapes_among xs) + length (shapes_among ys)) ≡ true)

middle-stops : (xs ys zs : List Sight) (starts : List ℕ) → Cut xs ys zs starts
    → StopsAt (length (shapes_among (xs ++ (ys ++ zs)))) (breaks_among 0 (xs ++ (ys ++ zs)) ++ starts) (length (shapes_among xs)) (length (shapes_among ys)) (breaks_among 0 ys)
middle-stops xs ys zs starts cut =
    let s = length (shapes_among xs) in
    let len = length (shapes_among ys) in
    let whole : length (shapes_among (xs ++ (ys ++ zs))) ≡ s + (len + length (shapes_among zs)) =
    ap length (shapes_among-append xs (ys ++ zs) ∙ ap (λ (l : List Shape). shapes_among xs ++ l) (shapes_among-append ys zs))
    ∙ length-append (shapes_among xs) (shapes_among ys ++ shapes_among zs) ∙ ap (λ n. s + n) (length-append (shapes_among ys) (shapes_among zs)) in
    let also : (q : ℕ) → is_among starts q ≡ true → is_among (breaks_among 0 (xs ++ (ys ++ zs)) ++ starts) q ≡ true = λ q among.
    is_among-append (breaks_among 0 (xs ++ (ys ++ zs))) starts q ∙ ap (λ b. is_among (breaks_among 0 (xs ++ (ys ++ zs))) q || b) among
    ∙ or-true (is_among (breaks_among 0 (xs ++ (ys ++ zs))) q) in
    let zero_s : 0 + s ≡ s + 0 = omega arith in
    record {
      within = omega (arith, whole);
      begin = elim cut.begin [ inl none ↦ inl none | inr among ↦ inr (also s among) ];
      end = elim cut.end [ inl none ↦ inl (omega (arith, whole, none)) | inr among ↦ inr (also (s + len) among) ];
      inside = λ q some low.
          let at = s + q in
          is_among-append (breaks_among 0 (xs ++ (ys ++ zs))) starts at
          ∙ ap₂ (λ a b. a || b)
          (ap (λ l. is_among l at) (breaks_among-append 0 xs (ys ++ zs) ∙ ap (λ n. breaks_among 0 xs ++ breaks_among n (ys ++ zs)) zero_s
          ∙ ap (λ (l : List ℕ). breaks_among 0 xs ++ l) (breaks_among-append (s + 0) ys zs))
          ∙ is_among-append (breaks_among 0 xs) (breaks_among (s + 0) ys ++ breaks_among (s + 0 + len) zs) at
          ∙ ap₂ (λ a b. a || b) (breaks-below 0 xs at (omega (arith, some)))
          (is_among-append (breaks_among (s + 0) ys) (breaks_among (s + 0 + len) zs) at
          ∙ ap₂ (λ a b. a || b) (breaks-shift s 0 ys q) (breaks-above (s + 0 + len) zs at (omega (arith, low))))
          ∙ or-false (is_among (breaks_among 0 ys) q))
          (starts-spare s (s + len) starts at (omega (arith, some)) (omega (arith, low)) cut.spare)
          ∙ or-false (is_among (breaks_among 0 ys) q);
    }

-- The page starts of a text that lie in a segment are those that what stands in it gives by itself.
pub text_starts-middle : (limit : ℕ) (xs ys zs : List Sight) (starts : List ℕ) → Cut xs ys zs starts
    → filter (lies_in (length (shapes_among xs)) (length (shapes_among xs) + length (shapes_among ys))) (text_starts limit (xs ++ (ys ++ zs)) starts)
    ≡ map (λ q. length (shapes_among xs) + q) (segment_starts limit ys)
text_starts-middle limit xs ys zs starts cut =
    let it : Segment = record {
      limit = limit;
      rows = text_heights (shapes_among (xs ++ (ys ++ zs)));
      own = own_heights (shapes_among ys);
      count = length (shapes_among (xs ++ (ys ++ zs)));
      stops = breaks_among 0 (xs ++ (ys ++ zs)) ++ starts;
      s = length (shapes_among xs);
      len = length (shapes_among ys);
      breaks = breaks_among 0 ys;
    } in
    let parts : shapes_among (xs ++ (ys ++ zs)) ≡ shapes_among xs ++ (shapes_among ys ++ shapes_among zs) =
    shapes_among-append xs (ys ++ zs) ∙ ap (λ (l : List Shape). shapes_among xs ++ l) (shapes_among-append ys zs) in
    starts_of-segment it (record {
      agree = subst (λ l. Agree (text_heights l) (own_heights (shapes_among ys)) (length (shapes_among xs)) (length (shapes_among ys))) (sym parts)
          (middle-agrees (shapes_among xs) (shapes_among ys) (shapes_among zs) (subst AreJoined parts cut.joined));
      stops = middle-stops xs ys zs starts cut;
    })
