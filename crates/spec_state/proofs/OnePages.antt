-- Of rising pages, one alone lies from its first row to the next page's.
use Rattle.std.proofs.Common.{◌≡◌, ◌⊎◌, ℕ, zero, suc, ◌+◌, ◌<◌, ◌≤◌, Bool, true, false, ◌&&◌, cond, ltb, leb, List, [], ◌∷◌, ◌++◌, length, get_or, inl, inr, refl, ap, ap₂, ◌∙◌, arith, length-append, get_or-append-add}
use Rattle.std.specs.Prelude.{filter, All, AllPairs, slice_index_or}
use Rattle.std.proofs.lemmas.Bool.{lt-ltb, le-ltb, le-leb, lt-leb}
use Rattle.std.proofs.lemmas.List.{get_or_append_left}
use Rattle.std.proofs.lemmas.List.Elements.{All-head, All-tail, filter-append}
use Rattle.spec_pages.specs.OwnPages.{lies_in}

none-kept : (p q : ℕ) (pages : List ℕ) → All (λ page. (page < p) ⊎ (q ≤ page)) pages → filter (lies_in p q) pages ≡ []
none-kept p q [] all = refl
none-kept p q (page ∷ pages) all =
    let P : ℕ → Type 0 = λ page. (page < p) ⊎ (q ≤ page) in
    let out : lies_in p q page ≡ false = elim (All-head P page pages all) [
      | inl low ↦ ap (λ a. a && ltb page q) (lt-leb p page low)
      | inr high ↦ behind (leb p page) (le-ltb page q high)
    ] in
    ap (λ b. cond b (page ∷ filter (lies_in p q) pages) (filter (lies_in p q) pages)) out ∙ none-kept p q pages (All-tail P page pages all)
  where
    behind : (a : Bool) → ltb page q ≡ false → (a && ltb page q) ≡ false
    behind true h = h
    behind false h = refl

pub one-page : (front : List ℕ) (p : ℕ) (later : List ℕ) (count : ℕ) → AllPairs (λ one other. one < other) (front ++ (p ∷ later)) → All (λ page. page < count) (front ++ (p ∷ later))
    → filter (lies_in p (slice_index_or later 0 count)) (front ++ (p ∷ later)) ≡ p ∷ []
one-page front p later count rising inside =
    let q = slice_index_or later 0 count in
    let size = length-append front (p ∷ later) in
    let zero_at : length front ≡ length front + 0 = omega arith in
    let at_p : (d : ℕ) → get_or (front ++ (p ∷ later)) (length front) d ≡ p = λ d. ap (λ n. get_or (front ++ (p ∷ later)) n d) zero_at ∙ get_or-append-add front (p ∷ later) 0 d in
    let at_later : (k d : ℕ) → get_or (front ++ (p ∷ later)) (length front + suc k) d ≡ get_or later k d = λ k d. get_or-append-add front (p ∷ later) (suc k) d in
    let low : All (λ page. (page < p) ⊎ (q ≤ page)) front = λ i d h.
    let less = rising i (length front) d h (omega (arith, size)) in
    inl (omega (arith, less, at_p d, get_or_append_left front (p ∷ later) d i h)) in
    let above : p < q = next later (λ d h. let less = rising (length front) (length front + 1) d (omega arith) (omega (arith, size, h)) in omega (arith, less, at_p d, at_later 0 d))
    (let i = inside (length front) 0 (omega (arith, size)) in omega (arith, i, at_p 0)) in
    let high : All (λ page. (page < p) ⊎ (q ≤ page)) later = λ k d h. inr (rest later k d h (λ j e g r. let less = rising (length front + 1) (length front + suc (suc j)) e (omega arith) (omega (arith, size, g)) in omega (arith, less, at_later 0 e, at_later (suc j) e, r))) in
    let is : lies_in p q p ≡ true = ap₂ (λ a b. a && b) (le-leb p p (omega arith)) (lt-ltb p q above) in
    filter-append (lies_in p q) front (p ∷ later)
    ∙ ap₂ (λ (a b : List ℕ). a ++ b) (none-kept p q front low)
    (ap (λ b. cond b (p ∷ filter (lies_in p q) later) (filter (lies_in p q) later)) is ∙ ap (λ (zs : List ℕ). p ∷ zs) (none-kept p q later high))
  where
    next : (later : List ℕ) → ((d : ℕ) → 0 < length later → p < get_or later 0 d) → p < count → p < slice_index_or later 0 count
    next [] h g = g
    next (q ∷ later) h g = h 0 (omega arith)

    rest : (later : List ℕ) (k d : ℕ) → k < length later → ((j e : ℕ) → suc j < length later → 0 < 1 → get_or later 0 e < get_or later (suc j) e) → slice_index_or later 0 count ≤ get_or later k d
    rest [] k d h less = absurd (omega (arith, h))
    rest (q ∷ later) zero d h less = omega arith
    rest (q ∷ later) (suc k) d h less = let l = less k d (omega (arith, h)) (omega arith) in omega (arith, l)
