-- Page starts rise and are rows, and which places are among them.
use Rattle.std.proofs.Common.{◌≡◌, ℕ, zero, suc, ◌+◌, ◌<◌, ◌≤◌, Bool, true, false, ◌&&◌, ◌||◌, cond, eqb, List, [], ◌∷◌, ◌++◌, inl, inr, sym, ap, ap₂, subst, ◌∙◌, refl, arith}
use Rattle.std.specs.Prelude.{All, AllPairs, filter}
use Rattle.std.proofs.lemmas.Bool.{cases_lt, cases_eq, lt-ltb, le-ltb, le-leb, eq-eqb, ne_eqb, eqb-true, or_cases, or_left, or_right}
use Rattle.std.proofs.lemmas.List.Elements.{All-nil, All-cons}
use Rattle.std.proofs.lemmas.List.Kept.{AllPairs-cons}
use Rattle.spec_pages.specs.Heights.{Heights, next_of, starts_behind, starts_of}
use Rattle.spec_pages.specs.OwnPages.{is_among, lies_in}
use Rattle.spec_pages.proofs.OwnPageLaws.{next_of-by}

abbrev pub AreAbove : List ℕ → Type 0
AreAbove pages = AllPairs (λ one other. one < other) pages

-- What is asked of pages.
pub record ArePagesOf (rows : ℕ) (pages : List ℕ) : Type 0 where
  pub rise : AreAbove pages
  pub inside : All (λ page. page < rows) pages

-- Pages rise, and are rows.
record From (count p : ℕ) (pages : List ℕ) : Type 0 where
  above : All (λ page. p ≤ page) pages
  rise : AreAbove pages
  inside : All (λ page. page < count) pages

none-from : (count p : ℕ) → From count p []
none-from count p = record { above = All-nil (λ page. p ≤ page); rise = λ i j d less within. absurd (omega (arith, less, within)); inside = All-nil (λ page. page < count) }

pages-from : (limit : ℕ) (rows : Heights) (count : ℕ) (stops : List ℕ) (pages p : ℕ) → From count p (starts_behind limit rows count stops pages p)
pages-from limit rows count stops zero p = none-from count p
pages-from limit rows count stops (suc pages) p =
    let q = next_of limit rows count stops p in
    let later = starts_behind limit rows count stops pages q in
    let rest = pages-from limit rows count stops pages q in
    elim (cases_lt p count) [
      | inl inside ↦
          let by = next_of-by limit rows count stops p inside in
          let less = by.above in
          let above = rest.above in
          subst (From count p) (sym (ap (λ b. cond b (p ∷ later) []) (lt-ltb p count inside)))
          (record {
            above = All-cons (λ page. p ≤ page) p later (omega arith) (λ k d h. let a = above k d h in omega (arith, a, less));
            rise = AllPairs-cons (λ one other. one < other) p later (λ k d h. let a = above k d h in omega (arith, a, less)) rest.rise;
            inside = All-cons (λ page. page < count) p later inside rest.inside;
          })
      | inr past ↦ subst (From count p) (sym (ap (λ b. cond b (p ∷ later) []) (le-ltb p count past))) (none-from count p)
    ]

pub starts-are : (limit : ℕ) (rows : Heights) (count : ℕ) (stops : List ℕ) → ArePagesOf count (starts_of limit rows count stops)
starts-are limit rows count stops = let it = pages-from limit rows count stops count 0 in record { rise = it.rise; inside = it.inside }

-- ---- is_among

pub among-append : (xs ys : List ℕ) (t : ℕ) → is_among (xs ++ ys) t ≡ (is_among xs t || is_among ys t)
among-append [] ys t = refl
among-append (x ∷ xs) ys t = ap (λ b. eqb x t || b) (among-append xs ys t) ∙ assoc (eqb x t) (is_among xs t) (is_among ys t)
  where
    assoc : (a b c : Bool) → (a || (b || c)) ≡ ((a || b) || c)
    assoc true b c = refl
    assoc false b c = refl

pub among-first : (t : ℕ) (xs : List ℕ) → is_among (t ∷ xs) t ≡ true
among-first t xs = or_left (eqb t t) (is_among xs t) (eq-eqb t t refl)

pub among-front : (xs ys : List ℕ) (t : ℕ) → is_among xs t ≡ true → is_among (xs ++ ys) t ≡ true
among-front xs ys t is = among-append xs ys t ∙ or_left (is_among xs t) (is_among ys t) is

pub among-back : (xs ys : List ℕ) (t : ℕ) → is_among ys t ≡ true → is_among (xs ++ ys) t ≡ true
among-back xs ys t is = among-append xs ys t ∙ or_right (is_among xs t) (is_among ys t) is

-- Behind a page start the next page begins, if any row is left.
next-among : (limit : ℕ) (rows : Heights) (count : ℕ) (stops : List ℕ) (pages p t : ℕ) → count ≤ p + pages → is_among (starts_behind limit rows count stops pages p) t ≡ true
    → next_of limit rows count stops t < count → is_among (starts_behind limit rows count stops pages p) (next_of limit rows count stops t) ≡ true
next-among limit rows count stops zero p t enough is more = absurd (let bad : ⊥ = cc in bad)
next-among limit rows count stops (suc pages) p t enough is more = elim (cases_lt p count) [
  | inl inside ↦
      let q = next_of limit rows count stops p in
      let rest = starts_behind limit rows count stops pages q in
      let by = next_of-by limit rows count stops p inside in
      let above = by.above in
      let first : starts_behind limit rows count stops (suc pages) p ≡ p ∷ rest = ap (λ b. cond b (p ∷ rest) []) (lt-ltb p count inside) in
      let n = next_of limit rows count stops t in
      let later : is_among rest n ≡ true = elim (cases_eq p t) [
        | inl same ↦
            let same_next : q ≡ n = ap (next_of limit rows count stops) same in
            subst (λ k. is_among rest k ≡ true) same_next (begins pages q (omega (arith, same_next, more)) (omega (arith, enough, above, same_next, more)))
        | inr other ↦
            let there : is_among rest t ≡ true = sym (ap (λ b. b || is_among rest t) (ne_eqb p t other)) ∙ sym (ap (λ l. is_among l t) first) ∙ is in
            next-among limit rows count stops pages q t (omega (arith, enough, above)) there more
      ] in
      ap (λ l. is_among l n) first ∙ or_right (eqb p n) (is_among rest n) later
  | inr past ↦
      let none : starts_behind limit rows count stops (suc pages) p ≡ [] =
      ap (λ b. cond b (p ∷ starts_behind limit rows count stops pages (next_of limit rows count stops p)) []) (le-ltb p count past) in
      absurd (let bad : true ≡ false = sym is ∙ ap (λ l. is_among l t) none in let no_more : ⊥ = cc in no_more)
]
  where
    begins : (left q : ℕ) → q < count → 0 < left → is_among (starts_behind limit rows count stops left q) q ≡ true
    begins zero q inside some = absurd (omega (arith, some))
    begins (suc left) q inside some =
        let rest = starts_behind limit rows count stops left (next_of limit rows count stops q) in
        ap (λ l. is_among l q) (ap (λ b. cond b (q ∷ rest) []) (lt-ltb q count inside)) ∙ or_left (eqb q q) (is_among rest q) (eq-eqb q q refl)

pub starts-next : (limit : ℕ) (rows : Heights) (count : ℕ) (stops : List ℕ) (t : ℕ) → is_among (starts_of limit rows count stops) t ≡ true
    → next_of limit rows count stops t < count → is_among (starts_of limit rows count stops) (next_of limit rows count stops t) ≡ true
starts-next limit rows count stops t is more = next-among limit rows count stops count 0 t (omega arith) is more

-- What is kept by a test is among the places that it was taken of.
among-kept : (test : ℕ → Bool) (places : List ℕ) (t : ℕ) → is_among (filter test places) t ≡ true → is_among places t ≡ true
among-kept test [] t is = is
among-kept test (p ∷ places) t is = by (test p) is (among-kept test places t)
  where
    by : (b : Bool) → is_among (cond b (p ∷ filter test places) (filter test places)) t ≡ true → (is_among (filter test places) t ≡ true → is_among places t ≡ true) → is_among (p ∷ places) t ≡ true
    by false h rest = or_right (eqb p t) (is_among places t) (rest h)
    by true h rest = elim (or_cases (eqb p t) (is_among (filter test places) t) h) [
      | inl here ↦ or_left (eqb p t) (is_among places t) here
      | inr there ↦ or_right (eqb p t) (is_among places t) (rest there)
    ]

kept-among : (test : ℕ → Bool) (places : List ℕ) (t : ℕ) → test t ≡ true → is_among places t ≡ true → is_among (filter test places) t ≡ true
kept-among test [] t yes_is is = is
kept-among test (p ∷ places) t yes_is is = elim (cases_eq p t) [
  | inl same ↦
      ap (λ b. is_among (cond b (p ∷ filter test places) (filter test places)) t) (ap test same ∙ yes_is)
      ∙ or_left (eqb p t) (is_among (filter test places) t) (eq-eqb p t same)
  | inr other ↦ by (test p) (kept-among test places t yes_is (sym (ap (λ b. b || is_among places t) (ne_eqb p t other)) ∙ is))
]
  where
    by : (b : Bool) → is_among (filter test places) t ≡ true → is_among (cond b (p ∷ filter test places) (filter test places)) t ≡ true
    by true rest = or_right (eqb p t) (is_among (filter test places) t) rest
    by false rest = rest

-- Where one page begins between two places, and that at the first, its end isn't before the other.
pub one-page-ends : (limit : ℕ) (rows : Heights) (count : ℕ) (stops : List ℕ) (p e : ℕ) → filter (lies_in p e) (starts_of limit rows count stops) ≡ p ∷ [] → p < count → e ≤ count
    → e ≤ next_of limit rows count stops p
one-page-ends limit rows count stops p e one inside low =
    let pages = starts_of limit rows count stops in
    let next = next_of limit rows count stops p in
    let by = next_of-by limit rows count stops p inside in
    let above = by.above in
    elim (cases_lt next e) [
      | inl less ↦
          let here : is_among pages p ≡ true = among-kept (lies_in p e) pages p (ap (λ l. is_among l p) one ∙ or_left (eqb p p) false (eq-eqb p p refl)) in
          let there = starts-next limit rows count stops p here (omega (arith, less, low)) in
          let lies : lies_in p e next ≡ true = ap₂ (λ a b. a && b) (le-leb p next (omega (arith, above))) (lt-ltb next e less) in
          let kept = sym (ap (λ l. is_among l next) one) ∙ kept-among (lies_in p e) pages next lies there in
          absurd (elim (or_cases (eqb p next) false kept) [
            | inl same ↦ let e = eqb-true p next same in omega (arith, e, above)
            | inr none ↦ let bad : ⊥ = cc in bad
          ])
      | inr le ↦ le
    ]
