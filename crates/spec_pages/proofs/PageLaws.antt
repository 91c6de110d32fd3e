-- Laws of page ends and page starts (docs/RULES.md, "Pages").
use Rattle.std.proofs.Common.{◌≡◌, ℕ, zero, suc, ◌+◌, ◌-◌, ◌<◌, ◌≤◌, ◌⊎◌, Bool, true, false, ◌&&◌, ◌||◌, leb, ltb, eqb, cond, Option, Some, None, List, [], ◌∷◌, length, take, drop, slice_get, sum_by, unwrap_or, All, AllPairs, refl, sym, ap, ◌∙◌, inl, inr, subst, arith, take-take}
use Rattle.std.proofs.lemmas.Bool.{cases_Bool, and_parts, and_from, and_right, and_cases, cases_eq, cases_lt, or_cases, or_left, or_right, ltb-true, leb-true, leb-false, eqb-true, lt-ltb, le-ltb, le-leb, lt-leb, eq-eqb, cond_both}
use Rattle.std.proofs.lemmas.List.Elements.{All-nil, All-cons}
use Rattle.std.proofs.lemmas.List.Kept.{AllPairs-cons}
use Rattle.std.proofs.lemmas.List.Sums.{sum_by-take-le}
use Rattle.spec_pages.specs.declared.Shape.{Shape}
use Rattle.spec_pages.specs.Greatest.{greatest}
use Rattle.spec_pages.specs.Heights.{sooner, next_stop}
use Rattle.spec_pages.specs.Pages.{is_legal, lead_of, carried, continues_speech, height_of, fits_page, ends_page, page_end, stop_above, next_page, starts_from, page_starts}
use Rattle.spec_pages.proofs.GreatestLemmas.{IsTheGreatest, greatest-none, greatest-some}

pub carried-le : (row : Option Shape) → carried row ≤ 1
carried-le None = omega arith
carried-le (Some row) = cond_both (continues_speech row) 1 0 (λ n. n ≤ 1) (λ _. omega arith) (λ _. omega arith)

leads_rise : (rows : List Shape) (m n : ℕ) → m ≤ n → sum_by lead_of (take m rows) ≤ sum_by lead_of (take n rows)
leads_rise rows m n le =
    omega (arith, sum_by-take-le lead_of (take n rows) m, ap (sum_by lead_of) (take-take m n rows le))

-- A page that ends later isn't lower.
pub height_of-rises : (shapes : List Shape) (p q r : ℕ) → p < q → q < r → height_of shapes p q ≤ height_of shapes p r
height_of-rises shapes p q r order later =
    let leads = leads_rise (drop (p + 1) shapes) (q - (p + 1)) (r - (p + 1)) (omega arith) in
    omega (arith, leads, carried-le (slice_get shapes q))

-- A page that is too high is so wherever it ends later.
pub fits_page-later : (limit : ℕ) (shapes : List Shape) (p q r : ℕ) → p < q → fits_page limit shapes p q ≡ false → q ≤ r → fits_page limit shapes p r ≡ false
fits_page-later limit shapes p q r order high later =
    let low : leb (height_of shapes p q) limit ≡ false = elim (and_cases (ltb p q) (leb (height_of shapes p q) limit) high) [
      | inl no_row ↦ let e : true ≡ false = sym (lt-ltb p q order) ∙ no_row in cc
      | inr low ↦ low
    ]
    in
    let too_high = leb-false (height_of shapes p q) limit low in
    let rises : height_of shapes p q ≤ height_of shapes p r = elim (cases_eq q r) [
      | inl same ↦ let e = ap (height_of shapes p) same in omega arith
      | inr other ↦ height_of-rises shapes p q r order (omega arith)
    ]
    in
    and_right (ltb p r) (leb (height_of shapes p r) limit) (lt-leb (height_of shapes p r) limit (omega arith))

-- One row fits.
pub height_of-one : (shapes : List Shape) (p : ℕ) → height_of shapes p (p + 1) ≤ 3
height_of-one shapes p =
    let none : p + 1 - (p + 1) ≡ 0 = omega arith in
    let leads = ap (λ n. sum_by lead_of (take n (drop (p + 1) shapes))) none in
    omega (arith, leads, carried-le (slice_get shapes p), carried-le (slice_get shapes (p + 1)))

pub fits_page-one : (limit : ℕ) → 3 ≤ limit → (shapes : List Shape) (p : ℕ) → fits_page limit shapes p (p + 1) ≡ true
fits_page-one limit room shapes p =
    and_from (ltb p (p + 1)) (leb (height_of shapes p (p + 1)) limit) (lt-ltb p (p + 1) (omega arith))
    (le-leb (height_of shapes p (p + 1)) limit (omega (arith, room, height_of-one shapes p)))

-- The page from row p may end before row q as far as its height goes.
pub record Fits (limit : ℕ) (shapes : List Shape) (p stop q : ℕ) : Type 0 where
  pub above : p < q
  pub within : q ≤ stop
  pub low : height_of shapes p q ≤ limit

-- It may end there by all rules.
pub record Qualifies (limit : ℕ) (shapes : List Shape) (p stop q : ℕ) : Type 0 where
  pub fits : Fits limit shapes p stop q
  pub ends : (is_legal shapes q ≡ true) ⊎ (q ≡ stop)

-- The page ends at the greatest place that qualifies; where none does, at the greatest where it fits.
pub record IsPageEnd (limit : ℕ) (shapes : List Shape) (p stop end : ℕ) : Type 0 where
  pub fits : Fits limit shapes p stop end
  pub latest : (q : ℕ) → Qualifies limit shapes p stop q → q ≤ end
  pub kind : Qualifies limit shapes p stop end ⊎ (((q : ℕ) → Qualifies limit shapes p stop q → ⊥) × ((q : ℕ) → Fits limit shapes p stop q → q ≤ end))

fits_from : (limit : ℕ) (shapes : List Shape) (p stop q : ℕ) → fits_page limit shapes p q ≡ true → q < stop + 1 → Fits limit shapes p stop q
fits_from limit shapes p stop q fits within =
    let parts = and_parts (ltb p q) (leb (height_of shapes p q) limit) fits in
    record { above = ltb-true p q parts.0; within = omega arith; low = leb-true (height_of shapes p q) limit parts.1 }

fits_page-Fits : (limit : ℕ) (shapes : List Shape) (p stop q : ℕ) → Fits limit shapes p stop q → fits_page limit shapes p q ≡ true
fits_page-Fits limit shapes p stop q fits =
    and_from (ltb p q) (leb (height_of shapes p q) limit) (lt-ltb p q fits.above) (le-leb (height_of shapes p q) limit fits.low)

qualifies_from : (limit : ℕ) (shapes : List Shape) (p stop q : ℕ) → ends_page limit shapes p stop q ≡ true → q < stop + 1 → Qualifies limit shapes p stop q
qualifies_from limit shapes p stop q ends within =
    let parts = and_parts (fits_page limit shapes p q) (is_legal shapes q || eqb q stop) ends in
    record {
      fits = fits_from limit shapes p stop q parts.0 within;
      ends = elim (or_cases (is_legal shapes q) (eqb q stop) parts.1) [ inl legal ↦ inl legal | inr last ↦ inr (eqb-true q stop last) ];
    }

ends_page-Qualifies : (limit : ℕ) (shapes : List Shape) (p stop q : ℕ) → Qualifies limit shapes p stop q → ends_page limit shapes p stop q ≡ true
ends_page-Qualifies limit shapes p stop q qualifies =
    and_from (fits_page limit shapes p q) (is_legal shapes q || eqb q stop) (fits_page-Fits limit shapes p stop q qualifies.fits)
    (elim qualifies.ends [ inl legal ↦ or_left (is_legal shapes q) (eqb q stop) legal | inr last ↦ or_right (is_legal shapes q) (eqb q stop) (eq-eqb q stop last) ])

-- No place that passes is above the greatest.
not_above : (passes : ℕ → Bool) (n place q : ℕ) → IsTheGreatest passes n place → q < n → passes q ≡ true → q ≤ place
not_above passes n place q greatest below passed =
    elim (cases_lt place q) [
      | inl above ↦ let e : true ≡ false = sym passed ∙ greatest.greater q above below in cc
      | inr le ↦ le
    ]

end_from : (limit : ℕ) → 3 ≤ limit → (shapes : List Shape) (p stop : ℕ) (good fit : Option ℕ) → p < stop → greatest (ends_page limit shapes p stop) (stop + 1) ≡ good → greatest (fits_page limit shapes p) (stop + 1) ≡ fit → IsPageEnd limit shapes p stop (unwrap_or good (unwrap_or fit (p + 1)))
end_from limit room shapes p stop (Some end) fit some good_is fit_is =
    let good = greatest-some (ends_page limit shapes p stop) (stop + 1) end good_is in
    let qualifies = qualifies_from limit shapes p stop end good.passed good.below in
    record {
      fits = qualifies.fits;
      latest = λ q other. let o = other.fits in not_above (ends_page limit shapes p stop) (stop + 1) end q good (omega (arith, o.within)) (ends_page-Qualifies limit shapes p stop q other);
      kind = inl qualifies;
    }
end_from limit room shapes p stop None (Some end) some good_is fit_is =
    let fits = greatest-some (fits_page limit shapes p) (stop + 1) end fit_is in
    let none : (q : ℕ) → Qualifies limit shapes p stop q → ⊥ = λ q other.
    let o = other.fits in
    let e : true ≡ false = sym (ends_page-Qualifies limit shapes p stop q other) ∙ greatest-none (ends_page limit shapes p stop) (stop + 1) good_is q (omega (arith, o.within)) in
    cc
    in
    record {
      fits = fits_from limit shapes p stop end fits.passed fits.below;
      latest = λ q other. absurd (none q other);
      kind = inr (none, λ q other. not_above (fits_page limit shapes p) (stop + 1) end q fits (omega (arith, other.within)) (fits_page-Fits limit shapes p stop q other));
    }
end_from limit room shapes p stop None None some good_is fit_is =
    let e : true ≡ false = sym (fits_page-one limit room shapes p) ∙ greatest-none (fits_page limit shapes p) (stop + 1) fit_is (p + 1) (omega arith) in
    absurd (let no : ⊥ = cc in no)

-- The page end is above the page's first row and at most the stop, the page isn't too high, and no other place that
-- qualifies is greater.
pub page_end-IsPageEnd : (limit : ℕ) → 3 ≤ limit → (shapes : List Shape) (p stop : ℕ) → p < stop → IsPageEnd limit shapes p stop (page_end limit shapes p stop)
page_end-IsPageEnd limit room shapes p stop some = end_from limit room shapes p stop (greatest (ends_page limit shapes p stop) (stop + 1)) (greatest (fits_page limit shapes p) (stop + 1)) some refl refl

-- By whether the stop is above the row and before those before it.
sooner-above : (p least stop : ℕ) → p < least → p < sooner p least stop
sooner-above p least stop above =
    let P : Bool → Type 0 = λ b. p < cond b stop least in
    elim (cases_Bool (ltb p stop)) [
      | inl behind ↦ subst (λ b. P (b && ltb stop least)) (sym behind) (by (ltb stop least) (ltb-true p stop behind))
      | inr other ↦ subst (λ b. P (b && ltb stop least)) (sym other) above
    ]
  where
    by : (b : Bool) → p < stop → p < cond b stop least
    by true behind = behind
    by false behind = above

-- The next stop is above the row.
pub next_stop-above : (count p : ℕ) (stops : List ℕ) → p < count → p < next_stop count stops p
next_stop-above count p [] above = above
next_stop-above count p (stop ∷ stops) above = next_stop-above (sooner p count stop) p stops (sooner-above p count stop above)

pub stop_above-above : (shapes : List Shape) (stops : List ℕ) (p : ℕ) → p < length shapes → p < stop_above shapes stops p
stop_above-above shapes stops p inside = next_stop-above (length shapes) p stops inside

-- The next page begins later.
pub next_page-above : (limit : ℕ) → 3 ≤ limit → (shapes : List Shape) (stops : List ℕ) (p : ℕ) → p < length shapes → p < next_page limit shapes stops p
next_page-above limit room shapes stops p inside =
    let end = page_end-IsPageEnd limit room shapes p (stop_above shapes stops p) (stop_above-above shapes stops p inside) in
    let fits = end.fits in
    fits.above

-- These are the first rows of the pages from row p on: p, then the end of its page, and so on until no row is left.
abbrev pub PagesFrom : ℕ → List Shape → List ℕ → ℕ → List ℕ → Type 0
PagesFrom limit shapes stops p [] = length shapes ≤ p
PagesFrom limit shapes stops p (start ∷ starts) = (p < length shapes) × (start ≡ p) × PagesFrom limit shapes stops (next_page limit shapes stops p) starts

pub starts_from-PagesFrom : (limit : ℕ) → 3 ≤ limit → (shapes : List Shape) (stops : List ℕ) (pages p : ℕ) → length shapes ≤ p + pages → PagesFrom limit shapes stops p (starts_from limit shapes stops pages p)
starts_from-PagesFrom limit room shapes stops zero p enough = omega arith
starts_from-PagesFrom limit room shapes stops (suc pages) p enough =
    elim (cases_lt p (length shapes)) [
      | inl inside ↦
          let P : List ℕ → Type 0 = PagesFrom limit shapes stops p in
          let rest = starts_from-PagesFrom limit room shapes stops pages (next_page limit shapes stops p) (omega (arith, next_page-above limit room shapes stops p inside)) in
          subst P (ap (λ b. cond b (p ∷ starts_from limit shapes stops pages (next_page limit shapes stops p)) []) (sym (lt-ltb p (length shapes) inside))) (inside, refl, rest)
      | inr past ↦
          let P : List ℕ → Type 0 = PagesFrom limit shapes stops p in
          subst P (ap (λ b. cond b (p ∷ starts_from limit shapes stops pages (next_page limit shapes stops p)) []) (sym (le-ltb p (length shapes) past))) past
    ]

-- The page starts are the first rows of the pages from row 0 on.
pub page_starts-PagesFrom : (limit : ℕ) → 3 ≤ limit → (shapes : List Shape) (stops : List ℕ) → PagesFrom limit shapes stops 0 (page_starts limit shapes stops)
page_starts-PagesFrom limit room shapes stops = starts_from-PagesFrom limit room shapes stops (length shapes) 0 (omega arith)

pages_rise : (limit : ℕ) → 3 ≤ limit → (shapes : List Shape) (stops starts : List ℕ) (p : ℕ) → PagesFrom limit shapes stops p starts → All (λ start. p ≤ start) starts × AllPairs (λ one other. one < other) starts
pages_rise limit room shapes stops [] p pages = (All-nil (λ start. p ≤ start), λ i j d order inside. absurd (omega arith))
pages_rise limit room shapes stops (start ∷ starts) p pages =
    let later = pages_rise limit room shapes stops starts (next_page limit shapes stops p) pages.2 in
    let next = next_page-above limit room shapes stops p pages.0 in (
      All-cons (λ s. p ≤ s) start starts (omega (arith, pages.1)) (λ k d inside. omega (arith, later.0 k d inside, next)),
      AllPairs-cons (λ one other. one < other) start starts (λ k d inside. omega (arith, later.0 k d inside, next, pages.1)) later.1,
    )

-- Page starts rise.
pub page_starts-rise : (limit : ℕ) → 3 ≤ limit → (shapes : List Shape) (stops : List ℕ) → AllPairs (λ one other. one < other) (page_starts limit shapes stops)
page_starts-rise limit room shapes stops = (pages_rise limit room shapes stops (page_starts limit shapes stops) 0 (page_starts-PagesFrom limit room shapes stops)).1
