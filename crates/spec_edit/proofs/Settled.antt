-- From the first settled page start on the new page starts are old ones, moved.
use Rattle.std.proofs.Common.{◌≡◌, ℕ, suc, ◌+◌, ◌<◌, ◌≤◌, true, false, cond, ltb, leb, eqb, List, [], ◌∷◌, ◌++◌, length, get_or, take, drop, map, AllPairs, refl, sym, ap, ap₂, ◌∙◌, inl, inr, subst, arith, one-add, take-append-drop, length-take-le, get_or-drop, length-drop}
use Rattle.std.specs.List.{prefix_len, take_while, list_any}
use Rattle.std.proofs.lemmas.Bool.{cases_lt, lt-ltb, le-ltb, leb-true, eqb-true, and_parts, or_cases, not-false}
use Rattle.std.proofs.lemmas.List.{drop_all}
use Rattle.std.proofs.lemmas.List.Sums.{prefix_len-le-length, prefix_len_stops}
use Rattle.spec_pages.specs.declared.Shape.{Shape}
use Rattle.spec_pages.specs.Pages.{page_starts}
use Rattle.spec_pages.proofs.PageLaws.{PagesFrom, page_starts-PagesFrom, page_starts-rise}
use Rattle.spec_edit.specs.PageWindows.{Exchange, moved, came_from, AreExchanged, is_early, is_settled, is_unsettled, page_window, old_starts_from, settled_starts}
use Rattle.spec_edit.proofs.Resettled.{PagesFrom-same, PagesFrom-drop, PagesFrom-moved, PagesFrom-kept}

rises_later : (x : ℕ) (xs : List ℕ) → AllPairs (λ one other. one < other) (x ∷ xs) → AllPairs (λ one other. one < other) xs
rises_later x xs rise i j d order inside = rise (suc i) (suc j) d (omega arith) (omega arith)

-- The number of smaller ones is the place of a number in a list that rises.
pub record StandsAt (number : ℕ) (xs : List ℕ) (place : ℕ) : Type 0 where
  pub inside : place < length xs
  pub is : (d : ℕ) → get_or xs place d ≡ number

pub place-found : (number : ℕ) (xs : List ℕ) → AllPairs (λ one other. one < other) xs → list_any (λ x. eqb x number) xs ≡ true → StandsAt number xs (prefix_len (λ x. ltb x number) xs)
place-found number [] rise found = absurd (let e : false ≡ true = found in let no : ⊥ = cc in no)
place-found number (x ∷ xs) rise found =
    elim (or_cases (eqb x number) (list_any (λ y. eqb y number) xs) found) [
      | inl here ↦ (let is = eqb-true x number here in
          let none : prefix_len (λ y. ltb y number) (x ∷ xs) ≡ 0 = ap (λ c. cond c (1 + prefix_len (λ y. ltb y number) xs) 0) (le-ltb x number (omega (arith, is))) in
          subst (StandsAt number (x ∷ xs)) (sym none) (record { inside = omega arith; is = λ d. is }))
      | inr later ↦ (let k : ℕ = prefix_len (λ y. ltb y number) xs in
          let there = place-found number xs (rises_later x xs rise) later in
          let below : x < number = omega (arith, rise 0 (suc k) 0 (omega arith) (omega (arith, there.inside)), there.is 0) in
          let one : prefix_len (λ y. ltb y number) (x ∷ xs) ≡ suc k = ap (λ c. cond c (1 + k) 0) (lt-ltb x number below) ∙ one-add k in
          subst (StandsAt number (x ∷ xs)) (sym one) (record { inside = omega (arith, there.inside); is = λ d. there.is d }))
    ]

-- New pages from a settled start on are old ones, moved.
pub pages-settled : (limit : ℕ) → 3 ≤ limit → (edit : Exchange) (a : List Shape) (s : List ℕ) (b : List Shape) (t : List ℕ) (y : ℕ) (ys : List ℕ) → AreExchanged edit a s b t → PagesFrom limit b t y (y ∷ ys)
    → is_settled edit (page_starts limit a s) y ≡ true → (y ∷ ys) ≡ map (moved edit) (old_starts_from edit (page_starts limit a s) (y ∷ ys))
pages-settled limit room edit a s b t y ys are pages settled =
    let olds : List ℕ = page_starts limit a s in
    let parts = and_parts (leb (edit.first + edit.new) y) (list_any (λ o. eqb o (came_from edit y)) olds) settled in
    let behind = leb-true (edit.first + edit.new) y parts.0 in
    let at = place-found (came_from edit y) olds (page_starts-rise limit room a s) parts.1 in
    let j : ℕ = prefix_len (λ o. ltb o (came_from edit y)) olds in
    let there = PagesFrom-drop limit a s 0 olds j 0 (page_starts-PagesFrom limit room a s) at.inside in
    let old_pages = subst (λ p. PagesFrom limit a s p (drop j olds)) (at.is 0) there in
    let new_pages = PagesFrom-moved limit room edit a s b t (came_from edit y) (drop j olds) are (omega (arith, behind)) old_pages in
    let back : moved edit (came_from edit y) ≡ y = omega (arith, behind) in
    PagesFrom-same limit b t y (y ∷ ys) (map (moved edit) (drop j olds)) pages (subst (λ p. PagesFrom limit b t p (map (moved edit) (drop j olds))) back new_pages)

pub rest-settled : (limit : ℕ) → 3 ≤ limit → (edit : Exchange) (a : List Shape) (s : List ℕ) (b : List Shape) (t : List ℕ) (p : ℕ) (ys : List ℕ) → AreExchanged edit a s b t → PagesFrom limit b t p ys
    → (0 < length ys → is_unsettled edit (page_starts limit a s) (get_or ys 0 0) ≡ false) → ys ≡ map (moved edit) (old_starts_from edit (page_starts limit a s) ys)
rest-settled limit room edit a s b t p [] are pages settled = refl
rest-settled limit room edit a s b t p (y ∷ ys) are pages settled =
    pages-settled limit room edit a s b t y ys are (subst (λ q. PagesFrom limit b t q (y ∷ ys)) (sym pages.1) pages) (not-false (is_settled edit (page_starts limit a s) y) (settled (omega arith)))

any_drop : (limit : ℕ) (b : List Shape) (t : List ℕ) (p : ℕ) (xs : List ℕ) (j : ℕ) → PagesFrom limit b t p xs → (p2 : ℕ) × PagesFrom limit b t p2 (drop j xs)
any_drop limit b t p xs j pages =
    elim (cases_lt j (length xs)) [
      | inl inside ↦ (get_or xs j 0, PagesFrom-drop limit b t p xs j 0 pages inside)
      | inr past ↦ (length b, subst (PagesFrom limit b t (length b)) (sym (drop_all j xs past)) (omega arith))
    ]

-- The central law: a front of the old page starts, the window, and the rest of the old ones, moved.
pub page_starts-exchanged : (limit : ℕ) → 3 ≤ limit → (edit : Exchange) (a : List Shape) (s : List ℕ) (b : List Shape) (t : List ℕ) → AreExchanged edit a s b t
    → page_starts limit b t ≡ take_while (is_early limit edit) (page_starts limit a s)
    ++ (page_window limit edit (page_starts limit a s) (page_starts limit b t) ++ map (moved edit) (settled_starts limit edit (page_starts limit a s) (page_starts limit b t)))
page_starts-exchanged limit room edit a s b t are =
    let olds : List ℕ = page_starts limit a s in
    let starts : List ℕ = page_starts limit b t in
    let new_pages = page_starts-PagesFrom limit room b t in
    let kept = PagesFrom-kept limit room edit a s b t 0 0 olds starts are (λ _. refl) (page_starts-PagesFrom limit room a s) new_pages in
    let k : ℕ = prefix_len (is_early limit edit) starts in
    let rest : List ℕ = drop k starts in
    let m : ℕ = prefix_len (is_unsettled edit olds) rest in
    let count : length (take m rest) ≡ m = length-take-le m rest (prefix_len-le-length (is_unsettled edit olds) rest) in
    let there = any_drop limit b t 0 starts k new_pages in
    let behind = any_drop limit b t there.0 rest m there.1 in
    let settled : 0 < length (drop m rest) → is_unsettled edit olds (get_or (drop m rest) 0 0) ≡ false = λ some.
    let at : m + 0 ≡ m = omega arith in
    ap (is_unsettled edit olds) (get_or-drop m rest 0 0 ∙ ap (λ i. get_or rest i 0) at) ∙ prefix_len_stops (is_unsettled edit olds) rest 0 (omega (arith, some, length-drop m rest))
    in
    let tail = rest-settled limit room edit a s b t behind.0 (drop m rest) are behind.1 settled in
    sym (take-append-drop k starts)
    ∙ ap₂ (λ xs ys. xs ++ ys) (ap (λ n. take n starts) kept.count ∙ kept.same) (sym (take-append-drop m rest) ∙ ap (λ ys. take m rest ++ ys) (tail ∙ ap (λ n. map (moved edit) (old_starts_from edit olds (drop n rest))) (sym count)))
