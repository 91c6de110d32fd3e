-- Every edit has a window.
use Rattle.std.proofs.Common.{◌≡◌, ◌⊎◌, ℕ, zero, suc, ◌+◌, ◌-◌, ◌<◌, Option, Some, None, List, length, map, slice_get, inl, inr, refl, sym, ap, subst, arith}
use Rattle.std.proofs.lemmas.Bool.{cases_lt, cases_eq, true≢false}
use Rattle.spec_script.specs.declared.Sort.{Sort}
use Rattle.spec_script.specs.Stanzas.{is_empty, kept_lines, sort_at}
use Rattle.spec_edit.specs.Windows.{IsFreshPoint, IsGreatest, IsLeast, MayStart, MayEnd, IsWindow}
use Rattle.spec_script.specs.declared.Sort.TheVariants as sorts

abbrev Decided : Type 0 → Type 0
Decided P = P ⊎ (P → ⊥)

empty-or : (sort : Option Sort) → Decided (sort ≡ Some sorts.Empty)
empty-or None = inr (λ h. let bad : ⊥ = cc (h) in bad)
empty-or (Some sorts.Empty) = inl refl
empty-or (Some sorts.Absent) = inr (λ h. let bad : sorts.Absent ≡ sorts.Empty = cc (h) in absurd (true≢false (sym (ap is_empty bad))))
empty-or (Some sorts.Held) = inr (λ h. let bad : sorts.Held ≡ sorts.Empty = cc (h) in absurd (true≢false (sym (ap is_empty bad))))
empty-or (Some sorts.Plain) = inr (λ h. let bad : sorts.Plain ≡ sorts.Empty = cc (h) in absurd (true≢false (sym (ap is_empty bad))))

point-or : (texts : List (List ℕ)) (place : ℕ) → Decided (IsFreshPoint texts place)
point-or texts place =
    elim (cases_eq place 0) [
      | inl begin ↦ inl (inl begin)
      | inr some ↦ elim (cases_lt place (length texts)) [
        | inr past ↦ inr (λ h. elim h [ inl begin ↦ some begin | inr it ↦ let low = it.0 in omega (arith, low, past) ])
        | inl inside ↦ elim (empty-or (slice_get (map sort_at (kept_lines texts)) (place - 1))) [
          | inl empty ↦ inl (inr (inside, inr empty))
          | inr other ↦ inr (λ h. elim h [
            | inl begin ↦ some begin
            | inr it ↦ elim it.1 [ inl begin ↦ some begin | inr empty ↦ other empty ]
          ])
        ]
      ]
    ]

-- It begins at the last fresh point up to the edit.
begins : (texts : List (List ℕ)) (first : ℕ) → (a : ℕ) × IsGreatest (MayStart texts first) a
begins texts zero = (0, record { meets = record { fresh = inl refl; low = omega arith }; above = λ p m. m.low })
begins texts (suc first) = elim (point-or texts (suc first)) [
  | inl fresh ↦ (suc first, record { meets = record { fresh = fresh; low = omega arith }; above = λ p m. m.low })
  | inr not ↦
      let before = begins texts first in
      let is = before.1 in
      let low = is.meets.low in (
        before.0,
        record {
          meets = record { fresh = is.meets.fresh; low = omega (arith, low) };
          above = λ p m. elim (cases_eq p (suc first)) [
            | inl same ↦ absurd (not (subst (IsFreshPoint texts) same m.fresh))
            | inr other ↦ is.above p (record { fresh = m.fresh; low = let high = m.low in omega (arith, high, other) })
          ];
        },
      )
]

-- It may end at a place, or not.
end-or : (before after : List (List ℕ)) (first old new place : ℕ) → Decided (MayEnd before after first old new place)
end-or before after first old new place =
    let was = place + old - new in
    elim (cases_lt 0 place) [
      | inr none ↦ inr (λ m. let some = m.some in omega (arith, some, none))
      | inl some ↦ elim (cases_lt place (first + new)) [
        | inl early ↦ inr (λ m. let past = m.past in omega (arith, past, early))
        | inr past ↦ elim (cases_lt 0 was) [
          | inr none ↦ inr (λ m. let s = m.was_some in let shift = m.shift in omega (arith, s, shift, none, past))
          | inl was_some ↦ elim (point-or after place) [
            | inr not ↦ inr (λ m. not m.fresh)
            | inl fresh ↦ elim (point-or before was) [
              | inr not ↦ inr (λ m. let same : m.was ≡ was = let shift = m.shift in omega (arith, shift, past) in not (subst (IsFreshPoint before) same m.was_fresh))
              | inl was_fresh ↦ inl (record {
                some = some;
                fresh = fresh;
                past = past;
                was = was;
                shift = omega (arith, past);
                was_some = was_some;
                was_fresh = was_fresh;
                was_past = omega (arith, past);
              })
            ]
          ]
        ]
      ]
    ]

search-end : (before after : List (List ℕ)) (first old new place count : ℕ) → ((p : ℕ) → p < place → MayEnd before after first old new p → ⊥)
    → ((b : ℕ) × IsLeast (MayEnd before after first old new) b) ⊎ ((p : ℕ) → p < place + count → MayEnd before after first old new p → ⊥)
search-end before after first old new place zero none = inr (λ p low. none p (omega (arith, low)))
search-end before after first old new place (suc count) none = elim (end-or before after first old new place) [
  | inl meets ↦ inl (
    place,
    record {
      meets = meets;
      below = λ p m. elim (cases_lt p place) [ inl low ↦ absurd (none p low m) | inr high ↦ high ];
    },
  )
  | inr not ↦
      elim (search-end before after first old new (place + 1) count (λ p low m. elim (cases_eq p place) [
        | inl same ↦ not (subst (MayEnd before after first old new) same m)
        | inr other ↦ none p (omega (arith, low, other)) m
      ])) [
        | inl found ↦ inl found
        | inr never ↦ inr (λ p low. never p (omega (arith, low)))
      ]
]

pub window-exists : (before after : List (List ℕ)) (first old new : ℕ) → (a : ℕ) × (b : ℕ) × IsWindow before after first old new a b
window-exists before after first old new =
    let start = begins before first in
    elim (search-end before after first old new 0 (length after) (λ p low. absurd (omega (arith, low)))) [
      | inl found ↦ (start.0, found.0, record { start = start.1; end = inl found.1 })
      | inr none ↦ (
        start.0,
        length after,
        record {
          start = start.1;
          end = inr (
            (λ p m. elim m.fresh [
              | inl begin ↦ let some = m.some in omega (arith, begin, some)
              | inr inside ↦ none p (let low = inside.0 in omega (arith, low)) m
            ]),
            refl,
          );
        },
      )
    ]
