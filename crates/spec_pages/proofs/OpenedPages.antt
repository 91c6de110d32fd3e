-- Where each page start becomes a stop, the pages stay.
use Rattle.std.proofs.Common.{◌≡◌, ◌⊎◌, ℕ, zero, suc, ◌+◌, ◌<◌, ◌≤◌, Bool, true, false, ◌&&◌, ◌||◌, cond, eqb, Option, Some, None, List, [], ◌∷◌, inl, inr, refl, sym, ap, ap₂, ◌∙◌, arith, unwrap_or}
use Rattle.std.proofs.lemmas.Bool.{cases_lt, cases_eq, lt-ltb, le-ltb, le-leb, eq-eqb, ne_eqb, and_parts}
use Rattle.spec_pages.specs.Greatest.{greatest}
use Rattle.spec_pages.proofs.GreatestLemmas.{greatest-some, greatest-yes}
use Rattle.spec_pages.specs.Heights.{Heights, fits, ends, end_of, next_stop, next_of, starts_behind, starts_of}
use Rattle.spec_pages.specs.OwnPages.{is_among, IsStopAbove}
use Rattle.spec_pages.proofs.OwnPageLaws.{next_stop-is, next_of-by, next_of-stop}

-- One row fits on a page.
pub record OneFits (limit : ℕ) (rows : Heights) : Type 0 where
  pub low : (p : ℕ) → rows.height p (p + 1) ≤ limit

end-fits : (limit : ℕ) (rows : Heights) (p stop : ℕ) → OneFits limit rows → fits limit rows p (end_of limit rows p stop) ≡ true
end-fits limit rows p stop one =
    by (greatest (ends limit rows p stop) (stop + 1)) (greatest (fits limit rows p) (stop + 1))
    (λ q is. let g = greatest-some (ends limit rows p stop) (stop + 1) q is in (and_parts (fits limit rows p q) (rows.legal q || eqb q stop) g.passed).0)
    (λ q is. let g = greatest-some (fits limit rows p) (stop + 1) q is in g.passed)
  where
    by : (good fit : Option ℕ) → ((q : ℕ) → good ≡ Some q → fits limit rows p q ≡ true) → ((q : ℕ) → fit ≡ Some q → fits limit rows p q ≡ true)
        → fits limit rows p (unwrap_or good (unwrap_or fit (p + 1))) ≡ true
    by (Some q) fit good_is fit_is = good_is q refl
    by None (Some q) good_is fit_is = fit_is q refl
    by None None good_is fit_is = ap₂ (λ a b. a && b) (lt-ltb p (p + 1) (omega arith)) (le-leb (rows.height p (p + 1)) limit (one.low p))

-- A page that fits ends at the stop right behind it.
end-stop : (limit : ℕ) (rows : Heights) (p q : ℕ) → fits limit rows p q ≡ true → end_of limit rows p q ≡ q
end-stop limit rows p q passed =
    let e : q + 1 ≡ suc q = omega arith in
    let here : ends limit rows p q q ≡ true = ap₂ (λ a b. a && (rows.legal q || b)) passed (eq-eqb q q refl) ∙ whole (rows.legal q) in
    let found : greatest (ends limit rows p q) (q + 1) ≡ Some q = ap (greatest (ends limit rows p q)) e ∙ greatest-yes (ends limit rows p q) q here in
    ap (λ o. unwrap_or o (unwrap_or (greatest (fits limit rows p) (q + 1)) (p + 1))) found
  where
    whole : (b : Bool) → (b || true) ≡ true
    whole true = refl
    whole false = refl

-- There is one next stop.
pub next_stop-one : (count : ℕ) (stops : List ℕ) (p one other : ℕ) → p < count → IsStopAbove count stops p one → IsStopAbove count stops p other → one ≤ other
next_stop-one count stops p one other inside a b =
    let wa = a.within in
    let above = b.above inside in
    elim (cases_lt other one) [
      | inl less ↦ elim b.stop [
        | inl end ↦ omega (arith, end, less, wa)
        | inr among ↦ absurd (let e : true ≡ false = sym among ∙ a.least other above less in let bad : ⊥ = cc in bad)
      ]
      | inr le ↦ le
    ]

page-first : (limit : ℕ) (rows : Heights) (count : ℕ) (stops : List ℕ) (pages p : ℕ) → p < count
    → starts_behind limit rows count stops (suc pages) p ≡ p ∷ starts_behind limit rows count stops pages (next_of limit rows count stops p)
page-first limit rows count stops pages p inside = ap (λ b. cond b (p ∷ starts_behind limit rows count stops pages (next_of limit rows count stops p)) []) (lt-ltb p count inside)

page-none : (limit : ℕ) (rows : Heights) (count : ℕ) (stops : List ℕ) (pages p : ℕ) → count ≤ p → starts_behind limit rows count stops pages p ≡ []
page-none limit rows count stops zero p past = refl
page-none limit rows count stops (suc pages) p past = ap (λ b. cond b (p ∷ starts_behind limit rows count stops pages (next_of limit rows count stops p)) []) (le-ltb p count past)

-- No page begins before the one that they begin with.
none-before : (limit : ℕ) (rows : Heights) (count : ℕ) (stops : List ℕ) (pages p t : ℕ) → t < p → is_among (starts_behind limit rows count stops pages p) t ≡ false
none-before limit rows count stops zero p t less = refl
none-before limit rows count stops (suc pages) p t less =
    elim (cases_lt p count) [
      | inl inside ↦
          let by = next_of-by limit rows count stops p inside in
          let above = by.above in
          ap (λ l. is_among l t) (page-first limit rows count stops pages p inside)
          ∙ ap₂ (λ a b. a || b) (ne_eqb p t (λ e. omega (arith, e, less))) (none-before limit rows count stops pages (next_of limit rows count stops p) t (omega (arith, less, above)))
      | inr past ↦ ap (λ l. is_among l t) (page-none limit rows count stops (suc pages) p past)
    ]

-- From a page on: the stops behind it are the starts of the pages behind it.
opened : (limit : ℕ) (rows : Heights) (count : ℕ) (stops new : List ℕ) (pages p : ℕ) → OneFits limit rows → count ≤ p + pages
    → ((t : ℕ) → p < t → t < count → is_among new t ≡ is_among (starts_behind limit rows count stops pages p) t)
    → starts_behind limit rows count new pages p ≡ starts_behind limit rows count stops pages p
opened limit rows count stops new zero p one enough same = refl
opened limit rows count stops new (suc pages) p one enough same =
    elim (cases_lt p count) [
      | inl inside ↦
          let q = next_of limit rows count stops p in
          let by = next_of-by limit rows count stops p inside in
          let old = next_stop-is p count stops in
          let above = by.above in
          let ow = old.within in
          let bw = by.within in
          let first = page-first limit rows count stops pages p inside in
          let later : (t : ℕ) → p < t → is_among (starts_behind limit rows count stops (suc pages) p) t ≡ is_among (starts_behind limit rows count stops pages q) t = λ t h.
          ap (λ l. is_among l t) first ∙ ap (λ b. b || is_among (starts_behind limit rows count stops pages q) t) (ne_eqb p t (λ e. omega (arith, e, h))) in
          let here : IsStopAbove count new p q = record {
            above = λ h. above;
            within = omega (arith, ow, bw);
            stop = elim (cases_lt q count) [
              | inl more ↦ inr (same q above more ∙ later q above ∙ starts-first q pages more (omega (arith, enough, more, above)))
              | inr end ↦ inl (omega (arith, end, ow, bw))
            ];
            least = λ t h g. same t h (omega (arith, g, ow, bw)) ∙ later t h ∙ none-before limit rows count stops pages q t g;
          } in
          let stop : next_stop count new p ≡ q =
          let a = next_stop-one count new p (next_stop count new p) q inside (next_stop-is p count new) here in
          let b = next_stop-one count new p q (next_stop count new p) inside here (next_stop-is p count new) in
          omega (arith, a, b) in
          let next : next_of limit rows count new p ≡ q = ap (end_of limit rows p) stop ∙ end-stop limit rows p q (end-fits limit rows p (next_stop count stops p) one) in
          page-first limit rows count new pages p inside
          ∙ ap (λ n. p ∷ starts_behind limit rows count new pages n) next
          ∙ ap (λ (ps : List ℕ). p ∷ ps) (opened limit rows count stops new pages q one (omega (arith, enough, above))
          (λ t h g. same t (omega (arith, above, h)) g ∙ later t (omega (arith, above, h))))
          ∙ sym first
      | inr past ↦ page-none limit rows count new (suc pages) p past ∙ sym (page-none limit rows count stops (suc pages) p past)
    ]
  where
    starts-first : (q pages : ℕ) → q < count → 0 < pages → is_among (starts_behind limit rows count stops pages q) q ≡ true
    starts-first q zero inside some = absurd (omega (arith, some))
    starts-first q (suc pages) inside some =
        ap (λ l. is_among l q) (page-first limit rows count stops pages q inside)
        ∙ ap (λ b. b || is_among (starts_behind limit rows count stops pages (next_of limit rows count stops q)) q) (eq-eqb q q refl)

-- Where the stops inside a text are just its page starts, the page starts stay.
pub starts-opened : (limit : ℕ) (rows : Heights) (count : ℕ) (stops new : List ℕ) → OneFits limit rows
    → ((t : ℕ) → 0 < t → t < count → is_among new t ≡ is_among (starts_of limit rows count stops) t)
    → starts_of limit rows count new ≡ starts_of limit rows count stops
starts-opened limit rows count stops new one same = opened limit rows count stops new count 0 one (omega arith) same

-- A stop in a text is a page start.
stop-begins : (limit : ℕ) (rows : Heights) (count : ℕ) (stops : List ℕ) (pages p t : ℕ) → count ≤ p + pages → p ≤ t → t < count → ((t ≡ p) ⊎ (is_among stops t ≡ true))
    → is_among (starts_behind limit rows count stops pages p) t ≡ true
stop-begins limit rows count stops zero p t enough low inside is = absurd (omega (arith, enough, low, inside))
stop-begins limit rows count stops (suc pages) p t enough low inside is =
    let here : p < count = omega (arith, low, inside) in
    let q = next_of limit rows count stops p in
    let rest = starts_behind limit rows count stops pages q in
    ap (λ l. is_among l t) (page-first limit rows count stops pages p here)
    ∙ elim (cases_eq p t) [
      | inl same ↦ ap (λ b. b || is_among rest t) (eq-eqb p t same)
      | inr differ ↦ elim is [
        | inl one ↦ absurd (differ (sym one))
        | inr among ↦
            let not_past = next_of-stop limit rows count stops p t here (omega (arith, low, differ)) among in
            let by = next_of-by limit rows count stops p here in
            let above = by.above in
            ap (λ b. b || is_among rest t) (ne_eqb p t differ)
            ∙ stop-begins limit rows count stops pages q t (omega (arith, enough, above)) not_past inside (inr among)
      ]
    ]

-- Every stop inside a text is one of its page starts.
pub stop-is-page : (limit : ℕ) (rows : Heights) (count : ℕ) (stops : List ℕ) (t : ℕ) → t < count → is_among stops t ≡ true → is_among (starts_of limit rows count stops) t ≡ true
stop-is-page limit rows count stops t inside among = stop-begins limit rows count stops count 0 t (omega arith) (omega arith) inside (inr among)
