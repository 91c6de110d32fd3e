-- The pages of a segment are those of its own rows.
use Rattle.std.proofs.Common.{◌≡◌, ◌⊎◌, ℕ, zero, suc, ◌+◌, ◌-◌, ◌<◌, ◌≤◌, Bool, true, false, ◌&&◌, ◌||◌, cond, ltb, leb, eqb, Option, Some, None, List, [], ◌∷◌, inl, inr, refl, sym, ap, ap₂, subst, ◌∙◌, arith, unwrap_or}
use Rattle.std.specs.Prelude.{fold, option_map}
use Rattle.std.proofs.lemmas.Bool.{cases_lt, cases_eq, lt-ltb, le-ltb, eq-eqb, ne_eqb, and_parts, ltb-true, or_left, or_right, or_from}
use Rattle.spec_pages.specs.Greatest.{greatest}
use Rattle.spec_pages.proofs.GreatestLemmas.{greatest-some}
use Rattle.spec_pages.specs.Heights.{Heights, fits, ends, end_of, sooner, next_stop, next_of}
use Rattle.spec_pages.specs.OwnPages.{is_among, IsStopAbove, StopsAt}

-- Where no place below n passes, there is no greatest.
greatest-nothing : (passes : ℕ → Bool) (n : ℕ) → ((r : ℕ) → r < n → passes r ≡ false) → greatest passes n ≡ None
greatest-nothing passes zero none = refl
greatest-nothing passes (suc n) none =
    ap (λ b. cond b (Some n) (greatest passes n)) (none n (omega arith)) ∙ greatest-nothing passes n (λ r h. none r (omega (arith, h)))

-- The greatest place, where all that pass stand behind s and do as in another list from s on.
greatest-shift : (passes own : ℕ → Bool) (s n : ℕ) → ((r : ℕ) → r < s → passes r ≡ false) → ((r : ℕ) → r < n → passes (s + r) ≡ own r)
    → greatest passes (s + n) ≡ option_map (λ q. s + q) (greatest own n)
greatest-shift passes own s zero none same =
    let e : s + 0 ≡ s = omega arith in
    ap (greatest passes) e ∙ greatest-nothing passes s none
greatest-shift passes own s (suc n) none same =
    let e : s + suc n ≡ suc (s + n) = omega arith in
    ap (greatest passes) e
    ∙ by (own n) (same n (omega arith)) (greatest-shift passes own s n none (λ r h. same r (omega (arith, h))))
  where
    by : (b : Bool) → passes (s + n) ≡ b → greatest passes (s + n) ≡ option_map (λ q. s + q) (greatest own n)
        → greatest passes (suc (s + n)) ≡ option_map (λ q. s + q) (cond b (Some n) (greatest own n))
    by true is rest = ap (λ b. cond b (Some (s + n)) (greatest passes (s + n))) is
    by false is rest = ap (λ b. cond b (Some (s + n)) (greatest passes (s + n))) is ∙ rest

-- What two lists of rows agree on: heights of pages and legal ends from the row s on, as far as the stop.
pub record Agree (rows own : Heights) (s stop : ℕ) : Type 0 where
  pub height : (p q : ℕ) → p < q → q ≤ stop → rows.height (s + p) (s + q) ≡ own.height p q
  pub legal : (q : ℕ) → 0 < q → q < stop → rows.legal (s + q) ≡ own.legal q

fits-shift : (limit : ℕ) (rows own : Heights) (s stop p q : ℕ) → Agree rows own s stop → q ≤ stop → fits limit rows (s + p) (s + q) ≡ fits limit own p q
fits-shift limit rows own s stop p q agree low =
    elim (cases_lt p q) [
      | inl less ↦
          ap₂ (λ a b. a && leb b limit) (lt-ltb (s + p) (s + q) (omega (arith, less)) ∙ sym (lt-ltb p q less)) (agree.height p q less low)
      | inr more ↦
          ap (λ a. a && leb (rows.height (s + p) (s + q)) limit) (le-ltb (s + p) (s + q) (omega (arith, more)))
          ∙ sym (ap (λ a. a && leb (own.height p q) limit) (le-ltb p q more))
    ]

fits-past : (limit : ℕ) (rows : Heights) (p q : ℕ) → q ≤ p → fits limit rows p q ≡ false
fits-past limit rows p q more = ap (λ a. a && leb (rows.height p q) limit) (le-ltb p q more)

eqb-shift : (s q stop : ℕ) → eqb (s + q) (s + stop) ≡ eqb q stop
eqb-shift s q stop =
    elim (cases_eq q stop) [
      | inl same ↦ eq-eqb (s + q) (s + stop) (omega (arith, same)) ∙ sym (eq-eqb q stop same)
      | inr other ↦ ne_eqb (s + q) (s + stop) (λ e. other (omega (arith, e))) ∙ sym (ne_eqb q stop other)
    ]

ends-shift : (limit : ℕ) (rows own : Heights) (s stop p q : ℕ) → Agree rows own s stop → q ≤ stop → ends limit rows (s + p) (s + stop) (s + q) ≡ ends limit own p stop q
ends-shift limit rows own s stop p q agree low =
    elim (cases_lt p q) [
      | inl less ↦ ap₂ (λ a b. a && b) (fits-shift limit rows own s stop p q agree low) (may less)
      | inr more ↦
          ap (λ a. a && (rows.legal (s + q) || eqb (s + q) (s + stop))) (fits-past limit rows (s + p) (s + q) (omega (arith, more)))
          ∙ sym (ap (λ a. a && (own.legal q || eqb q stop)) (fits-past limit own p q more))
    ]
  where
    whole : (b c : Bool) → c ≡ true → (b || c) ≡ true
    whole true c is = refl
    whole false c is = is

    may : p < q → (rows.legal (s + q) || eqb (s + q) (s + stop)) ≡ (own.legal q || eqb q stop)
    may less = elim (cases_eq q stop) [
      | inl same ↦ whole (rows.legal (s + q)) (eqb (s + q) (s + stop)) (eq-eqb (s + q) (s + stop) (omega (arith, same))) ∙ sym (whole (own.legal q) (eqb q stop) (eq-eqb q stop same))
      | inr other ↦ ap₂ (λ a b. a || b) (agree.legal q (omega (arith, less)) (omega (arith, low, other))) (eqb-shift s q stop)
    ]

ends-past : (limit : ℕ) (rows : Heights) (p stop q : ℕ) → q ≤ p → ends limit rows p stop q ≡ false
ends-past limit rows p stop q more = ap (λ a. a && (rows.legal q || eqb q stop)) (fits-past limit rows p q more)

unwrap-map : (s d : ℕ) (o : Option ℕ) → unwrap_or (option_map (λ q. s + q) o) (s + d) ≡ s + unwrap_or o d
unwrap-map s d None = refl
unwrap-map s d (Some q) = refl

-- The end of a page.
pub end_of-shift : (limit : ℕ) (rows own : Heights) (s p stop : ℕ) → Agree rows own s stop → end_of limit rows (s + p) (s + stop) ≡ s + end_of limit own p stop
end_of-shift limit rows own s p stop agree =
    let n : s + stop + 1 ≡ s + (stop + 1) = omega arith in
    let one : s + p + 1 ≡ s + (p + 1) = omega arith in
    let good = ap (greatest (ends limit rows (s + p) (s + stop))) n ∙ greatest-shift (ends limit rows (s + p) (s + stop)) (ends limit own p stop) s (stop + 1)
    (λ r h. ends-past limit rows (s + p) (s + stop) r (omega (arith, h))) (λ r h. ends-shift limit rows own s stop p r agree (omega (arith, h))) in
    let fit = ap (greatest (fits limit rows (s + p))) n ∙ greatest-shift (fits limit rows (s + p)) (fits limit own p) s (stop + 1)
    (λ r h. fits-past limit rows (s + p) r (omega (arith, h))) (λ r h. fits-shift limit rows own s stop p r agree (omega (arith, h))) in
    ap₂ (λ a b. unwrap_or a b) good (ap₂ (λ a b. unwrap_or a b) fit one ∙ unwrap-map s (p + 1) (greatest (fits limit own p) (stop + 1)))
    ∙ unwrap-map s (unwrap_or (greatest (fits limit own p) (stop + 1)) (p + 1)) (greatest (ends limit own p stop) (stop + 1))

-- Stops.
sooner-yes : (p least stop : ℕ) → p < stop → stop < least → sooner p least stop ≡ stop
sooner-yes p least stop h g = ap₂ (λ a b. cond (a && b) stop least) (lt-ltb p stop h) (lt-ltb stop least g)

sooner-low : (p least stop : ℕ) → stop ≤ p → sooner p least stop ≡ least
sooner-low p least stop h = ap (λ a. cond (a && ltb stop least) stop least) (le-ltb p stop h)

sooner-late : (p least stop : ℕ) → p < stop → least ≤ stop → sooner p least stop ≡ least
sooner-late p least stop h g = ap₂ (λ a b. cond (a && b) stop least) (lt-ltb p stop h) (le-ltb stop least g)

-- The stop doesn't come sooner.
passed-over : (p least stop : ℕ) (stops : List ℕ) (next : ℕ) → ((stop ≤ p) ⊎ (least ≤ stop)) → IsStopAbove least stops p next → IsStopAbove least (stop ∷ stops) p next
passed-over p least stop stops next far is =
    record {
      above = is.above;
      within = is.within;
      stop = elim is.stop [ inl same ↦ inl same | inr among ↦ inr (or_right (eqb stop next) (is_among stops next) among) ];
      least = λ q h g. or_from (eqb stop q) (is_among stops q)
          (ne_eqb stop q (λ e. elim far [ inl low ↦ omega (arith, low, h, e) | inr late ↦ let w = is.within in omega (arith, late, g, e, w) ]))
          (is.least q h g);
    }

pub next_stop-is : (p least : ℕ) (stops : List ℕ) → IsStopAbove least stops p (fold (sooner p) least stops)
next_stop-is p least [] = record { above = λ h. h; within = omega arith; stop = inl refl; least = λ q h g. refl }
next_stop-is p least (stop ∷ stops) =
    elim (cases_lt p stop) [
      | inl higher ↦ elim (cases_lt stop least) [
        | inl lower ↦
            let is = next_stop-is p stop stops in
            let next = fold (sooner p) stop stops in
            let found : IsStopAbove least (stop ∷ stops) p next = record {
              above = λ h. is.above higher;
              within = (let w = is.within in omega (arith, w, lower));
              stop = elim is.stop [ inl same ↦ inr (or_left (eqb stop next) (is_among stops next) (eq-eqb stop next (sym same))) | inr among ↦ inr (or_right (eqb stop next) (is_among stops next) among) ];
              least = λ q h g. or_from (eqb stop q) (is_among stops q) (ne_eqb stop q (λ e. let w = is.within in omega (arith, w, g, e))) (is.least q h g);
            } in
            subst (λ l. IsStopAbove least (stop ∷ stops) p (fold (sooner p) l stops)) (sym (sooner-yes p least stop higher lower)) found
        | inr late ↦
            subst (λ l. IsStopAbove least (stop ∷ stops) p (fold (sooner p) l stops)) (sym (sooner-late p least stop higher late))
            (passed-over p least stop stops (fold (sooner p) least stops) (inr late) (next_stop-is p least stops))
      ]
      | inr low ↦
          subst (λ l. IsStopAbove least (stop ∷ stops) p (fold (sooner p) l stops)) (sym (sooner-low p least stop low))
          (passed-over p least stop stops (fold (sooner p) least stops) (inl low) (next_stop-is p least stops))
    ]

-- The next stop of a text above a row of the segment is that of the segment.
pub next_stop-shift : (count : ℕ) (stops : List ℕ) (s len : ℕ) (own : List ℕ) (p : ℕ) → StopsAt count stops s len own → p < len
    → next_stop count stops (s + p) ≡ s + next_stop len own p
next_stop-shift count stops s len own p at inside =
    let mine = next_stop-is p len own in
    let all = next_stop-is (s + p) count stops in
    let next = next_stop len own p in
    let whole = next_stop count stops (s + p) in
    let above = mine.above inside in
    let low = mine.within in
    let past = all.above (omega (arith, inside, at.within)) in
    let not_less : s + next ≤ whole = elim (cases_lt whole (s + next)) [
      | inl less ↦ elim all.stop [
        | inl end ↦ omega (arith, end, less, low, at.within)
        | inr among ↦
            let place : s + (whole - s) ≡ whole = omega (arith, past) in
            let found : is_among own (whole - s) ≡ true = sym (at.inside (whole - s) (omega (arith, past)) (omega (arith, less, low))) ∙ ap (is_among stops) place ∙ among in
            absurd (let e : false ≡ true = sym (mine.least (whole - s) (omega (arith, past)) (omega (arith, less))) ∙ found in let no : ⊥ = cc in no)
      ]
      | inr le ↦ le
    ] in
    let is_stop : (s + next ≡ count) ⊎ (is_among stops (s + next) ≡ true) = elim (cases_lt next len) [
      | inl within ↦ elim mine.stop [
        | inl end ↦ absurd (omega (arith, end, within))
        | inr among ↦ inr (at.inside next (omega (arith, above)) within ∙ among)
      ]
      | inr full ↦ let same : s + next ≡ s + len = omega (arith, full, low) in elim at.end [
        | inl end ↦ inl (same ∙ end)
        | inr among ↦ inr (ap (is_among stops) same ∙ among)
      ]
    ] in
    let not_more : whole ≤ s + next = elim (cases_lt (s + next) whole) [
      | inl less ↦ elim is_stop [
        | inl end ↦ (let w = all.within in omega (arith, end, less, w))
        | inr among ↦ absurd (let e : false ≡ true = sym (all.least (s + next) (omega (arith, above)) less) ∙ among in let no : ⊥ = cc in no)
      ]
      | inr le ↦ le
    ] in
    omega (arith, not_less, not_more)

-- A page ends above its first row, and at the stop at the latest.
pub record EndsBy (p stop end : ℕ) : Type 0 where
  pub above : p < end
  pub within : end ≤ stop

found-by : (p stop : ℕ) (good fit : Option ℕ) → p < stop → ((q : ℕ) → good ≡ Some q → EndsBy p stop q) → ((q : ℕ) → fit ≡ Some q → EndsBy p stop q)
    → EndsBy p stop (unwrap_or good (unwrap_or fit (p + 1)))
found-by p stop (Some q) fit some good_is fit_is = good_is q refl
found-by p stop None (Some q) some good_is fit_is = fit_is q refl
found-by p stop None None some good_is fit_is = record { above = omega arith; within = omega (arith, some) }

pub end_of-by : (limit : ℕ) (rows : Heights) (p stop : ℕ) → p < stop → EndsBy p stop (end_of limit rows p stop)
end_of-by limit rows p stop some =
    found-by p stop (greatest (ends limit rows p stop) (stop + 1)) (greatest (fits limit rows p) (stop + 1)) some
    (λ q is. let g = greatest-some (ends limit rows p stop) (stop + 1) q is in
    by_fits q g.below (and_parts (fits limit rows p q) (rows.legal q || eqb q stop) g.passed).0)
    (λ q is. let g = greatest-some (fits limit rows p) (stop + 1) q is in by_fits q g.below g.passed)
  where
    by_fits : (q : ℕ) → q < stop + 1 → fits limit rows p q ≡ true → EndsBy p stop q
    by_fits q low passed = record { above = ltb-true p q (and_parts (ltb p q) (leb (rows.height p q) limit) passed).0; within = omega (arith, low) }

-- A page start goes on by these.
pub next_of-by : (limit : ℕ) (rows : Heights) (count : ℕ) (stops : List ℕ) (p : ℕ) → p < count → EndsBy p (next_stop count stops p) (next_of limit rows count stops p)
next_of-by limit rows count stops p inside = let is = next_stop-is p count stops in end_of-by limit rows p (next_stop count stops p) (is.above inside)

-- A page doesn't pass a stop.
pub next_of-stop : (limit : ℕ) (rows : Heights) (count : ℕ) (stops : List ℕ) (p s : ℕ) → p < count → p < s → is_among stops s ≡ true → next_of limit rows count stops p ≤ s
next_of-stop limit rows count stops p s inside before among =
    let is = next_stop-is p count stops in
    let by = next_of-by limit rows count stops p inside in
    let w = by.within in
    elim (cases_lt s (next_stop count stops p)) [
      | inl less ↦ absurd (let e : true ≡ false = sym among ∙ is.least s before less in let no : ⊥ = cc in no)
      | inr le ↦ omega (arith, le, w)
    ]

-- The page after one of the segment.
pub next_of-shift : (limit : ℕ) (rows own : Heights) (count : ℕ) (stops : List ℕ) (s len : ℕ) (breaks : List ℕ) (p : ℕ) → Agree rows own s len → StopsAt count stops s len breaks → p < len
    → next_of limit rows count stops (s + p) ≡ s + next_of limit own len breaks p
next_of-shift limit rows own count stops s len breaks p agree at inside =
    let stop = next_stop len breaks p in
    let is = next_stop-is p len breaks in
    let low = is.within in
    ap (end_of limit rows (s + p)) (next_stop-shift count stops s len breaks p at inside)
    ∙ end_of-shift limit rows own s p stop (record {
      height = λ a b h g. agree.height a b h (omega (arith, g, low));
      legal = λ q h g. agree.legal q h (omega (arith, g, low));
    })
