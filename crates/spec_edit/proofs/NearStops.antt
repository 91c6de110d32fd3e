-- The next stop above a row, by what the list of stops contains.
use Rattle.std.proofs.Common.{◌≡◌, ℕ, zero, suc, ◌+◌, ◌-◌, ◌<◌, ◌≤◌, ◌⊎◌, Bool, cond, ltb, Some, List, [], ◌∷◌, length, get_or, find, unwrap_or, Contains, All, AllPairs, refl, sym, inl, inr, subst, arith}
use Rattle.std.proofs.lemmas.Bool.{cases_Bool, cases_lt, ltb-true, ltb-false}
use Rattle.spec_text.proofs.ListLaws.{Contains-later}
use Rattle.spec_pages.specs.declared.Shape.{Shape}
use Rattle.spec_pages.specs.Heights.{next_stop}
use Rattle.spec_pages.specs.Pages.{stop_above}
use Rattle.spec_pages.proofs.StopLaws.{IsNextStop, next_stop-is}
use Rattle.spec_edit.specs.PageWindows.{AreStops}
use Rattle.spec_edit.proofs.NearRows.{near_stop}

-- The least stop above the row, or the number of rows.
pub record IsStopAbove (rows : ℕ) (stops : List ℕ) (p stop : ℕ) : Type 0 where
  pub above : p < stop
  pub within : stop ≤ rows
  pub least : (row : ℕ) → p < row → row < stop → Contains stops row → ⊥
  pub kind : (stop ≡ rows) ⊎ Contains stops stop

ordered_later : (x : ℕ) (xs : List ℕ) → AllPairs (λ one other. one ≤ other) (x ∷ xs) → AllPairs (λ one other. one ≤ other) xs
ordered_later x xs ordered i j d order inside = ordered (suc i) (suc j) d (omega arith) (omega arith)

within_later : (rows x : ℕ) (xs : List ℕ) → All (λ (stop : ℕ). stop ≤ rows) (x ∷ xs) → All (λ (stop : ℕ). stop ≤ rows) xs
within_later rows x xs within k d inside = within (suc k) d (omega arith)

least_first : (x : ℕ) (xs : List ℕ) → AllPairs (λ one other. one ≤ other) (x ∷ xs) → (row k : ℕ) → k < length (x ∷ xs) → get_or (x ∷ xs) k row ≡ row → x ≤ row
least_first x xs ordered row zero inside is = omega (arith, is)
least_first x xs ordered row (suc k) inside is = omega (arith, is, ordered 0 (suc k) row (omega arith) inside)

contains_tail : (x row : ℕ) (xs : List ℕ) (k : ℕ) → k < length (x ∷ xs) → get_or (x ∷ xs) k row ≡ row → x < row → Contains xs row
contains_tail x row xs zero inside is other = absurd (omega (arith, is, other))
contains_tail x row xs (suc k) inside is other = (k, omega arith, is)

above-from : (rows : ℕ) (stops : List ℕ) (p : ℕ) → AreStops rows stops → p < rows → IsStopAbove rows stops p (unwrap_or (find (λ stop. ltb p stop) stops) rows)
above-from rows [] p are inside = record {
  above = inside;
  within = omega arith;
  least = λ row above below found. absurd (omega (arith, found.1));
  kind = inl refl;
}
above-from rows (x ∷ stops) p are inside =
    let P : Bool → Type 0 = λ b. IsStopAbove rows (x ∷ stops) p (unwrap_or (cond b (Some x) (find (λ stop. ltb p stop) stops)) rows) in
    elim (cases_Bool (ltb p x)) [
      | inl first ↦ subst P (sym first) (record {
        above = ltb-true p x first;
        within = are.within 0 x (omega arith);
        least = λ row above below found. absurd (omega (arith, below, least_first x stops are.ordered row found.0 found.1 found.2));
        kind = inr (0, omega arith, refl);
      })
      | inr other ↦ (let low = ltb-false p x other in
          let later = above-from rows stops p (record { ordered = ordered_later x stops are.ordered; within = within_later rows x stops are.within }) inside in
          subst P (sym other) (record {
            above = later.above;
            within = later.within;
            least = λ row above below found. later.least row above below (contains_tail x row stops found.0 found.1 found.2 (omega (arith, low, above)));
            kind = elim later.kind [ inl end ↦ inl end | inr found ↦ inr (Contains-later x (unwrap_or (find (λ stop. ltb p stop) stops) rows) stops found) ];
          }))
    ]

-- Among stops that never fall the next one is the first that stands above the row.
pub next_stop-find : (rows : ℕ) (stops : List ℕ) (p : ℕ) → AreStops rows stops → p < rows → next_stop rows stops p ≡ unwrap_or (find (λ stop. ltb p stop) stops) rows
next_stop-find rows stops p are inside = omega (arith, low, high)
  where
    next : ℕ
    next = next_stop rows stops p

    found : ℕ
    found = unwrap_or (find (λ stop. ltb p stop) stops) rows

    one : IsNextStop rows stops p next
    one = next_stop-is rows p stops

    two : IsStopAbove rows stops p found
    two = above-from rows stops p are inside

    low : next ≤ found
    low = elim two.kind [ inl end ↦ omega (arith, end, one.within) | inr there ↦ one.least found there two.above ]

    high : found ≤ next
    high = elim one.kind [
      | inl end ↦ omega (arith, end, two.within)
      | inr there ↦ elim (cases_lt next found) [ inl before ↦ absurd (two.least next there.0 before there.1) | inr le ↦ le ]
    ]

pub stop_above-is : (shapes : List Shape) (stops : List ℕ) (p : ℕ) → AreStops (length shapes) stops → p < length shapes → IsStopAbove (length shapes) stops p (stop_above shapes stops p)
stop_above-is shapes stops p are inside =
    subst (IsStopAbove (length shapes) stops p) (sym (next_stop-find (length shapes) stops p are inside)) (above-from (length shapes) stops p are inside)

-- What is near row p is not nearer to row q, where each near stop above p stands so above q too.
pub near_stop-le : (limit rows others p q stop other : ℕ) (stops those : List ℕ) → IsStopAbove rows stops p stop → IsStopAbove others those q other
    → ((i : ℕ) → 0 < i → i ≤ limit → p + i < rows → Contains stops (p + i) → Contains those (q + i)) → (rows ≤ p + limit → others + p ≡ rows + q)
    → near_stop limit q other ≤ near_stop limit p stop
near_stop-le limit rows others p q stop other stops those one two found ends =
    elim (cases_lt (p + limit) stop) [
      | inl far ↦ omega (arith, far)
      | inr near ↦
          let i : ℕ = stop - p in
          let is : p + i ≡ stop = omega (arith, one.above) in
          elim (cases_lt stop rows) [
            | inr end ↦ omega (arith, ends (omega (arith, end, near)), two.within, end, one.within)
            | inl inside ↦
                (let there : Contains those (q + i) = elim one.kind [
                  | inl last ↦ absurd (omega (arith, last, inside))
                  | inr here ↦ found i (omega (arith, one.above)) (omega (arith, near)) (omega (arith, is, inside)) (subst (Contains stops) (sym is) here)
                ] in
                elim (cases_lt (q + i) other) [
                  | inl later ↦ absurd (two.least (q + i) (omega (arith, one.above)) later there)
                  | inr le ↦ omega (arith, le, one.above)
                ])
          ]
    ]
