-- The stops of a state in order.
use Rattle.std.proofs.Common.{ℕ, ◌≤◌, Bool, true, false, cond, leb, List, [], ◌∷◌, refl, sym, subst, inl, inr, arith}
use Rattle.std.specs.Prelude.{AllPairs, IsPermutation}
use Rattle.std.proofs.lemmas.Bool.{cases_Bool, leb-true, leb-false}
use Rattle.std.proofs.lemmas.List.{append-nil}
use Rattle.std.proofs.lemmas.List.Elements.{All-nil, All-cons}
use Rattle.std.proofs.lemmas.List.Kept.{AllPairs-cons}
use Rattle.std.proofs.lemmas.List.Sorted.{All-permutation, IsPermutation-append_comm, IsPermutation-cons, IsPermutation-swap, IsPermutation-trans}
use Rattle.spec_text.proofs.ListLaws.{pairs-none, pairs-head, pairs-tail}

abbrev pub InOrder : List ℕ → Type 0
InOrder stops = AllPairs (λ (one other : ℕ). one ≤ other) stops

abbrev put : ℕ → List ℕ → List ℕ
put x [] = x ∷ []
put x (y ∷ ys) = cond (leb x y) (x ∷ y ∷ ys) (y ∷ put x ys)

itself : (xs : List ℕ) → IsPermutation xs xs
itself xs = subst (λ l. IsPermutation l xs) (append-nil xs) (IsPermutation-append_comm xs [])

flipped : (x y : ℕ) (ys : List ℕ) → IsPermutation (x ∷ y ∷ ys) (y ∷ x ∷ ys)
flipped x y ys = IsPermutation-swap (x ∷ y ∷ ys) (y ∷ x ∷ ys) 0 1 (omega arith) (omega arith) refl

put-same : (x : ℕ) (ys : List ℕ) → IsPermutation (x ∷ ys) (put x ys)
put-same x [] = itself (x ∷ [])
put-same x (y ∷ ys) = by (leb x y) (put-same x ys)
  where
    by : (b : Bool) → IsPermutation (x ∷ ys) (put x ys) → IsPermutation (x ∷ y ∷ ys) (cond b (x ∷ y ∷ ys) (y ∷ put x ys))
    by true rest = itself (x ∷ y ∷ ys)
    by false rest = IsPermutation-trans (x ∷ y ∷ ys) (y ∷ x ∷ ys) (y ∷ put x ys) (flipped x y ys) (IsPermutation-cons y (x ∷ ys) (put x ys) rest)

put-order : (x : ℕ) (ys : List ℕ) → InOrder ys → InOrder (put x ys)
put-order x [] order = AllPairs-cons (λ (one other : ℕ). one ≤ other) x [] (All-nil (λ (z : ℕ). x ≤ z)) (pairs-none (λ (one other : ℕ). one ≤ other))
put-order x (y ∷ ys) order = elim (cases_Bool (leb x y)) [
  | inl low ↦
      let le = leb-true x y low in
      let above = pairs-head (λ (one other : ℕ). one ≤ other) y ys order in
      subst (λ b. InOrder (cond b (x ∷ y ∷ ys) (y ∷ put x ys))) (sym low)
      (AllPairs-cons (λ (one other : ℕ). one ≤ other) x (y ∷ ys) (All-cons (λ (z : ℕ). x ≤ z) y ys le (λ k d h. let more = above k d h in omega (arith, more, le))) order)
  | inr high ↦
      let less = leb-false x y high in
      subst (λ b. InOrder (cond b (x ∷ y ∷ ys) (y ∷ put x ys))) (sym high)
      (AllPairs-cons (λ (one other : ℕ). one ≤ other) y (put x ys)
      (All-permutation (λ (z : ℕ). y ≤ z) (x ∷ ys) (put x ys) (put-same x ys) (All-cons (λ (z : ℕ). y ≤ z) x ys (omega (arith, less)) (pairs-head (λ (one other : ℕ). one ≤ other) y ys order)))
      (put-order x ys (pairs-tail (λ (one other : ℕ). one ≤ other) y ys order)))
]

-- Every list of stops can be put in order.
pub in-order : (stops : List ℕ) → (those : List ℕ) × IsPermutation stops those × InOrder those
in-order [] = ([], itself [], pairs-none (λ (one other : ℕ). one ≤ other))
in-order (x ∷ stops) =
    let rest = in-order stops in (
      put x rest.0,
      IsPermutation-trans (x ∷ stops) (x ∷ rest.0) (put x rest.0) (IsPermutation-cons x stops rest.0 rest.1) (put-same x rest.0),
      put-order x rest.0 rest.2,
    )
