-- The next stop depends on which stops there are, and not on their order (docs/RULES.md, "Pages").
use Rattle.std.proofs.Common.{◌≡◌, ℕ, zero, suc, ◌<◌, ◌≤◌, ◌⊎◌, ◌&&◌, ltb, cond, List, [], ◌∷◌, Contains, refl, sym, ap, ◌∙◌, inl, inr, subst, arith}
use Rattle.std.specs.Prelude.{IsPermutation}
use Rattle.std.proofs.lemmas.Bool.{cases_Bool, ltb-true, ltb-false}
use Rattle.std.proofs.lemmas.List.Sorted.{Contains-permutation, IsPermutation-sym}
use Rattle.spec_text.proofs.ListLaws.{Contains-first, Contains-later, Contains-either}
use Rattle.spec_pages.specs.Heights.{Heights, sooner, next_stop, end_of, starts_behind, starts_of}

-- The least stop above row p, or this place where none is lower.
pub record IsNextStop (count : ℕ) (stops : List ℕ) (p next : ℕ) : Type 0 where
  pub within : next ≤ count
  pub least : (stop : ℕ) → Contains stops stop → p < stop → next ≤ stop
  pub kind : (next ≡ count) ⊎ ((p < next) × Contains stops next)

-- What one more stop does.
sooner-is : (p least stop : ℕ) → (sooner p least stop ≡ least) ⊎ ((sooner p least stop ≡ stop) × (p < stop) × (stop < least))
sooner-is p least stop =
    elim (cases_Bool (ltb p stop)) [
      | inl behind ↦ elim (cases_Bool (ltb stop least)) [
        | inl before ↦ inr (ap (λ b. cond (b && ltb stop least) stop least) behind ∙ ap (λ b. cond b stop least) before, ltb-true p stop behind, ltb-true stop least before)
        | inr other ↦ inl (ap (λ b. cond (b && ltb stop least) stop least) behind ∙ ap (λ b. cond b stop least) other)
      ]
      | inr other ↦ inl (ap (λ b. cond (b && ltb stop least) stop least) other)
    ]

sooner-low : (p least stop : ℕ) → p < stop → sooner p least stop ≤ stop
sooner-low p least stop above =
    elim (cases_Bool (ltb p stop)) [
      | inl behind ↦ elim (cases_Bool (ltb stop least)) [
        | inl first ↦
            let is : sooner p least stop ≡ stop = ap (λ b. cond (b && ltb stop least) stop least) behind ∙ ap (λ b. cond b stop least) first in
            omega (arith, is)
        | inr other ↦
            let is : sooner p least stop ≡ least = ap (λ b. cond (b && ltb stop least) stop least) behind ∙ ap (λ b. cond b stop least) other in
            omega (arith, is, ltb-false stop least other)
      ]
      | inr other ↦ absurd (omega (arith, above, ltb-false p stop other))
    ]

pub next_stop-is : (count p : ℕ) (stops : List ℕ) → IsNextStop count stops p (next_stop count stops p)
next_stop-is count p [] = record { within = omega arith; least = λ stop found above. absurd (omega (arith, found.1)); kind = inl refl }
next_stop-is count p (x ∷ stops) =
    let later = next_stop-is (sooner p count x) p stops in
    let here = sooner-is p count x in
    record {
      within = elim here [ inl same ↦ omega (arith, later.within, same) | inr taken ↦ omega (arith, later.within, taken.0, taken.2) ];
      least = λ stop found above. elim (Contains-either x stop stops found) [
        | inl first ↦ omega (arith, later.within, subst (λ n. sooner p count x ≤ n) first (sooner-low p count x (omega (arith, above, first))))
        | inr behind ↦ later.least stop behind above
      ];
      kind = elim later.kind [
        | inl end ↦ elim here [
          | inl same ↦ inl (end ∙ same)
          | inr taken ↦ inr (omega (arith, end, taken.0, taken.1), subst (Contains (x ∷ stops)) (sym (end ∙ taken.0)) (Contains-first x x stops refl))
        ]
        | inr found ↦ inr (found.0, Contains-later x (next_stop (sooner p count x) stops p) stops found.1)
      ];
    }

-- Two lists with the same stops have the same next stop above each row.
next_stop-le : (count p : ℕ) (one other : List ℕ) → ((stop : ℕ) → Contains one stop → Contains other stop) → next_stop count other p ≤ next_stop count one p
next_stop-le count p one other has =
    let a = next_stop-is count p one in
    let b = next_stop-is count p other in
    elim a.kind [
      | inl end ↦ omega (arith, end, b.within)
      | inr found ↦ b.least (next_stop count one p) (has (next_stop count one p) found.1) found.0
    ]

pub next_stop-permutation : (count p : ℕ) (one other : List ℕ) → IsPermutation one other → next_stop count one p ≡ next_stop count other p
next_stop-permutation count p one other permuted =
    let less = next_stop-le count p one other (λ stop found. Contains-permutation one other stop permuted found) in
    let more = next_stop-le count p other one (λ stop found. Contains-permutation other one stop (IsPermutation-sym one other permuted) found) in
    omega (arith, less, more)

starts_behind-permutation : (limit : ℕ) (rows : Heights) (count : ℕ) (one other : List ℕ) → IsPermutation one other → (pages p : ℕ) → starts_behind limit rows count one pages p ≡ starts_behind limit rows count other pages p
starts_behind-permutation limit rows count one other permuted zero p = refl
starts_behind-permutation limit rows count one other permuted (suc pages) p =
    let next = ap (end_of limit rows p) (next_stop-permutation count p one other permuted) in
    let rest = ap (starts_behind limit rows count one pages) next ∙ starts_behind-permutation limit rows count one other permuted pages (end_of limit rows p (next_stop count other p)) in
    ap (λ (starts : List ℕ). cond (ltb p count) (p ∷ starts) []) rest

-- The first rows of pages are the same for stops in another order.
pub starts_of-permutation : (limit : ℕ) (rows : Heights) (count : ℕ) (one other : List ℕ) → IsPermutation one other → starts_of limit rows count one ≡ starts_of limit rows count other
starts_of-permutation limit rows count one other permuted = starts_behind-permutation limit rows count one other permuted count 0
