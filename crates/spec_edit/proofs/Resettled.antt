-- The page starts after an exchange of rows: a front of the old ones, the window, and the rest of the old ones, moved.
use Rattle.std.proofs.Common.{◌≡◌, ℕ, zero, suc, ◌+◌, ◌<◌, ◌≤◌, true, false, cond, List, [], ◌∷◌, length, get_or, take, drop, map, refl, sym, ap, ap₂, ◌∙◌, inl, inr, subst, arith, one-add}
use Rattle.std.specs.List.{prefix_len}
use Rattle.std.proofs.lemmas.Bool.{cases_Bool, ltb-true, le-ltb}
use Rattle.spec_pages.specs.declared.Shape.{Shape}
use Rattle.spec_pages.specs.Pages.{next_page}
use Rattle.spec_pages.proofs.PageLaws.{PagesFrom, next_page-above}
use Rattle.spec_edit.specs.PageWindows.{Exchange, moved, AreExchanged, is_early}
use Rattle.spec_edit.proofs.KeptStarts.{length-exchanged, next_page-early, next_page-moved, next_page-near}

pub PagesFrom-same : (limit : ℕ) (shapes : List Shape) (stops : List ℕ) (p : ℕ) (xs ys : List ℕ) → PagesFrom limit shapes stops p xs → PagesFrom limit shapes stops p ys → xs ≡ ys
PagesFrom-same limit shapes stops p [] [] one two = refl
PagesFrom-same limit shapes stops p [] (y ∷ ys) one two = absurd (omega (arith, one, two.0))
PagesFrom-same limit shapes stops p (x ∷ xs) [] one two = absurd (omega (arith, one.0, two))
PagesFrom-same limit shapes stops p (x ∷ xs) (y ∷ ys) one two =
    ap₂ (λ z zs. z ∷ zs) (one.1 ∙ sym two.1) (PagesFrom-same limit shapes stops (next_page limit shapes stops p) xs ys one.2 two.2)

pub PagesFrom-drop : (limit : ℕ) (shapes : List Shape) (stops : List ℕ) (p : ℕ) (xs : List ℕ) (j d : ℕ) → PagesFrom limit shapes stops p xs → j < length xs → PagesFrom limit shapes stops (get_or xs j d) (drop j xs)
PagesFrom-drop limit shapes stops p [] j d pages inside = absurd (omega arith)
PagesFrom-drop limit shapes stops p (x ∷ xs) zero d pages inside = subst (λ q. PagesFrom limit shapes stops q (x ∷ xs)) (sym pages.1) pages
PagesFrom-drop limit shapes stops p (x ∷ xs) (suc j) d pages inside = PagesFrom-drop limit shapes stops (next_page limit shapes stops p) xs j d pages.2 (omega arith)

-- Old pages behind the exchanged rows are new ones, moved.
pub PagesFrom-moved : (limit : ℕ) → 3 ≤ limit → (edit : Exchange) (a : List Shape) (s : List ℕ) (b : List Shape) (t : List ℕ) (p : ℕ) (xs : List ℕ) → AreExchanged edit a s b t → edit.first + edit.old ≤ p → PagesFrom limit a s p xs
    → PagesFrom limit b t (moved edit p) (map (moved edit) xs)
PagesFrom-moved limit room edit a s b t p [] are behind pages = omega (arith, length-exchanged edit a s b t are, pages, behind)
PagesFrom-moved limit room edit a s b t p (x ∷ xs) are behind pages =
    let next = next_page-above limit room a s p pages.0 in
    let later = PagesFrom-moved limit room edit a s b t (next_page limit a s p) xs are (omega (arith, next, behind)) pages.2 in
    let P : ℕ → Type 0 = λ q. PagesFrom limit b t q (map (moved edit) xs) in
    (omega (arith, length-exchanged edit a s b t are, pages.0, behind), ap (moved edit) pages.1, subst P (sym (next_page-moved limit room edit a s b t p are behind pages.0)) later)

-- The front of the old page starts is the front of the new ones, and the new pages go on from the old start behind it.
pub record AreKept (limit : ℕ) (edit : Exchange) (b : List Shape) (t : List ℕ) (d : ℕ) (olds starts : List ℕ) : Type 0 where
  pub count : prefix_len (is_early limit edit) starts ≡ prefix_len (is_early limit edit) olds
  pub same : take (prefix_len (is_early limit edit) olds) starts ≡ take (prefix_len (is_early limit edit) olds) olds
  pub rest : PagesFrom limit b t (get_or olds (prefix_len (is_early limit edit) olds) d) (drop (prefix_len (is_early limit edit) olds) starts)

-- No start is early.
none_kept : (limit : ℕ) (edit : Exchange) (b : List Shape) (t : List ℕ) (d p : ℕ) (olds starts : List ℕ) → is_early limit edit p ≡ false → prefix_len (is_early limit edit) olds ≡ 0 → get_or olds 0 d ≡ p
    → PagesFrom limit b t p starts → AreKept limit edit b t d olds starts
none_kept limit edit b t d p olds [] late none head pages =
    let P : ℕ → Type 0 = λ k. PagesFrom limit b t (get_or olds k d) (drop k []) in
    record {
      count = sym none;
      same = ap (λ k. take k []) none ∙ sym (ap (λ k. take k olds) none);
      rest = subst P (sym none) (subst (λ q. PagesFrom limit b t q []) (sym head) pages);
    }
none_kept limit edit b t d p olds (y ∷ ys) late none head pages =
    let P : ℕ → Type 0 = λ k. PagesFrom limit b t (get_or olds k d) (drop k (y ∷ ys)) in
    let late_too : is_early limit edit y ≡ false = ap (is_early limit edit) pages.1 ∙ late in
    record {
      count = ap (λ c. cond c (1 + prefix_len (is_early limit edit) ys) 0) late_too ∙ sym none;
      same = ap (λ k. take k (y ∷ ys)) none ∙ sym (ap (λ k. take k olds) none);
      rest = subst P (sym none) (subst (λ q. PagesFrom limit b t q (y ∷ ys)) (sym head) pages);
    }

one_kept : (limit : ℕ) (edit : Exchange) (b : List Shape) (t : List ℕ) (d x y : ℕ) (xs ys : List ℕ) → is_early limit edit x ≡ true → y ≡ x → AreKept limit edit b t d xs ys → AreKept limit edit b t d (x ∷ xs) (y ∷ ys)
one_kept limit edit b t d x y xs ys early is kept =
    let early_too : is_early limit edit y ≡ true = ap (is_early limit edit) is ∙ early in
    let k : ℕ = prefix_len (is_early limit edit) xs in
    let count : prefix_len (is_early limit edit) (x ∷ xs) ≡ suc k = ap (λ c. cond c (1 + k) 0) early ∙ one-add k in
    let other : prefix_len (is_early limit edit) (y ∷ ys) ≡ suc (prefix_len (is_early limit edit) ys) =
    ap (λ c. cond c (1 + prefix_len (is_early limit edit) ys) 0) early_too ∙ one-add (prefix_len (is_early limit edit) ys)
    in
    let P : ℕ → Type 0 = λ n. PagesFrom limit b t (get_or (x ∷ xs) n d) (drop n (y ∷ ys)) in
    record {
      count = other ∙ ap suc kept.count ∙ sym count;
      same = ap (λ n. take n (y ∷ ys)) count ∙ ap₂ (λ z zs. z ∷ zs) is kept.same ∙ sym (ap (λ n. take n (x ∷ xs)) count);
      rest = subst P (sym count) kept.rest;
    }

pub PagesFrom-kept : (limit : ℕ) → 3 ≤ limit → (edit : Exchange) (a : List Shape) (s : List ℕ) (b : List Shape) (t : List ℕ) (d p : ℕ) (xs ys : List ℕ) → AreExchanged edit a s b t → (xs ≡ [] → d ≡ p) → PagesFrom limit a s p xs
    → PagesFrom limit b t p ys → AreKept limit edit b t d xs ys
PagesFrom-kept limit room edit a s b t d p [] ys are start one two =
    none_kept limit edit b t d p [] ys (le-ltb (p + limit + 1) edit.first (omega (arith, one, are.old_inside))) refl (start refl) two
PagesFrom-kept limit room edit a s b t d p (x ∷ xs) [] are start one two =
    let late : is_early limit edit p ≡ false = le-ltb (p + limit + 1) edit.first (omega (arith, two, are.inside)) in
    none_kept limit edit b t d p (x ∷ xs) [] late (ap (λ c. cond c (1 + prefix_len (is_early limit edit) xs) 0) (ap (is_early limit edit) one.1 ∙ late)) one.1 two
PagesFrom-kept limit room edit a s b t d p (x ∷ xs) (y ∷ ys) are start one two =
    elim (cases_Bool (is_early limit edit p)) [
      | inl early ↦ (let soon = ltb-true (p + limit + 1) edit.first early in
          let next = next_page-early limit room edit a s b t p are (omega (arith, soon)) in
          let near = next_page-near limit room a s p one.0 in
          let none : xs ≡ [] → d ≡ next_page limit a s p = λ empty.
          let past : length a ≤ next_page limit a s p = subst (PagesFrom limit a s (next_page limit a s p)) empty one.2 in
          absurd (omega (arith, past, near, soon, are.old_inside))
          in
          one_kept limit edit b t d x y xs ys (ap (is_early limit edit) one.1 ∙ early) (two.1 ∙ sym one.1)
          (PagesFrom-kept limit room edit a s b t d (next_page limit a s p) xs ys are none one.2 (subst (λ q. PagesFrom limit b t q ys) next two.2)))
      | inr late ↦ none_kept limit edit b t d p (x ∷ xs) (y ∷ ys) late (ap (λ c. cond c (1 + prefix_len (is_early limit edit) xs) 0) (ap (is_early limit edit) one.1 ∙ late)) one.1 two
    ]
