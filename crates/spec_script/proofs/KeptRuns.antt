-- The parts left of a line are the longest runs of places that aren't gone.
use Rattle.std.specs.Prelude.{◌≡◌, ℕ, zero, suc, Bool, true, false, not, ◌&&◌, ◌||◌, List, [], ◌∷◌, ◌++◌, length, slice_index_or, nat_lt, nat_le, ◌<◌, ◌≤◌, ◌+◌}
use Rattle.std.proofs.Common.{cond, refl, sym, ap, subst, ◌∙◌, inl, inr, arith}
use Rattle.std.proofs.lemmas.Bool.{cases_lt, lt-ltb, le-ltb, or_left, or_from, true≢false, false≢true}
use Rattle.std.proofs.lemmas.List.Folds.{list_any-append}
use Rattle.spec_text.specs.Parts.{SpanOf}
use Rattle.spec_script.specs.Spans.{part, runs_left}
use Rattle.spec_script.specs.FirstMarks.{lies_in, AreApart}
use Rattle.spec_script.proofs.FirstMarks.{lies-within, lies-before}

part-some : (from at : ℕ) → from < at → part from at ≡ (from, at) ∷ []
part-some from at some = ap (λ b. cond b ((from, at) ∷ []) []) (lt-ltb from at some)

part-none : (from at : ℕ) → at ≤ from → part from at ≡ []
part-none from at none = ap (λ b. cond b ((from, at) ∷ []) []) (le-ltb from at none)

lies-append : (xs ys : List SpanOf) (k : ℕ) → lies_in (xs ++ ys) k ≡ (lies_in xs k || lies_in ys k)
lies-append xs ys k = list_any-append (λ (span : SpanOf). nat_le span.0 k && nat_lt k span.1) xs ys

AreApart-lower : (low at : ℕ) (spans : List SpanOf) → low ≤ at → AreApart at spans → AreApart low spans
AreApart-lower low at [] h p = tt
AreApart-lower low at (span ∷ spans) h p = (omega (arith, p.0), p.1, p.2)

part-apart : (low from at : ℕ) (spans : List SpanOf) → low ≤ from → from ≤ at → AreApart (at + 1) spans → AreApart low (part from at ++ spans)
part-apart low from at spans h order p =
    elim (cases_lt from at) [
      | inl some ↦ subst (λ (l : List SpanOf). AreApart low (l ++ spans)) (sym (part-some from at some)) (h, some, p)
      | inr none ↦ subst (λ (l : List SpanOf). AreApart low (l ++ spans)) (sym (part-none from at none)) (AreApart-lower low (at + 1) spans (omega arith) p)
    ]

apart : (low from at : ℕ) (gone : List Bool) → low ≤ from → from ≤ at → AreApart low (runs_left from at gone)
apart low from at [] h order =
    elim (cases_lt from at) [
      | inl some ↦ subst (AreApart low) (sym (part-some from at some)) (h, some, tt)
      | inr none ↦ subst (AreApart low) (sym (part-none from at none)) tt
    ]
apart low from at (true ∷ gone) h order = part-apart low from at (runs_left (at + 1) (at + 1) gone) h order (apart (at + 1) (at + 1) (at + 1) gone (omega arith) (omega arith))
apart low from at (false ∷ gone) h order = apart low from (at + 1) gone h (omega arith)

-- Each part ends before the next begins.
pub runs_left-apart : (gone : List Bool) → AreApart 0 (runs_left 0 0 gone)
runs_left-apart gone = apart 0 0 0 gone (omega arith) (omega arith)

-- Before the place from which parts are apart there is none.
pub none_before-apart : (at k : ℕ) (spans : List SpanOf) → AreApart at spans → k < at → lies_in spans k ≡ false
none_before-apart at k [] p early = refl
none_before-apart at k (span ∷ spans) p early =
    let begins = p.0 in
    let some = p.1 in
    lies-before span.0 span.1 k spans (omega arith) (none_before-apart (span.1 + 1) k spans p.2 (omega arith))

lies-part : (from at k : ℕ) → from ≤ k → k < at → lies_in (part from at) k ≡ true
lies-part from at k low high = ap (λ l. lies_in l k) (part-some from at (omega arith)) ∙ lies-within from at k [] low ∙ or_left (nat_lt k at) false (lt-ltb k at high)

not-part : (from at k : ℕ) → at ≤ k → from ≤ at → lies_in (part from at) k ≡ false
not-part from at k past order =
    elim (cases_lt from at) [
      | inl some ↦ ap (λ l. lies_in l k) (part-some from at some) ∙ lies-within from at k [] (omega arith) ∙ ap (λ b. b || false) (le-ltb k at past)
      | inr none ↦ ap (λ l. lies_in l k) (part-none from at none)
    ]

so_far : (from at k : ℕ) (gone : List Bool) → from ≤ k → k < at → lies_in (runs_left from at gone) k ≡ true
so_far from at k [] low high = lies-part from at k low high
so_far from at k (true ∷ gone) low high =
    lies-append (part from at) (runs_left (at + 1) (at + 1) gone) k ∙ or_left _ _ (lies-part from at k low high)
so_far from at k (false ∷ gone) low high = so_far from (at + 1) k gone low (omega arith)

lies-at : (from at : ℕ) (gone : List Bool) (k : ℕ) → from ≤ at → k < length gone → lies_in (runs_left from at gone) (at + k) ≡ not (slice_index_or gone k false)
lies-at from at [] k order low = absurd (omega arith)
lies-at from at (true ∷ gone) zero order low =
    lies-append (part from at) (runs_left (at + 1) (at + 1) gone) (at + 0)
    ∙ or_from _ _ (not-part from at (at + 0) (omega arith) order) (none_before-apart (at + 1) (at + 0) _ (apart (at + 1) (at + 1) (at + 1) gone (omega arith) (omega arith)) (omega arith))
lies-at from at (true ∷ gone) (suc k) order low =
    let same : at + suc k ≡ at + 1 + k = omega arith in
    lies-append (part from at) (runs_left (at + 1) (at + 1) gone) (at + suc k)
    ∙ ap (λ b. b || lies_in (runs_left (at + 1) (at + 1) gone) (at + suc k)) (not-part from at (at + suc k) (omega arith) order)
    ∙ ap (lies_in (runs_left (at + 1) (at + 1) gone)) same ∙ lies-at (at + 1) (at + 1) gone k (omega arith) (omega arith)
lies-at from at (false ∷ gone) zero order low = so_far from (at + 1) (at + 0) gone (omega arith) (omega arith)
lies-at from at (false ∷ gone) (suc k) order low =
    let same : at + suc k ≡ at + 1 + k = omega arith in
    ap (lies_in (runs_left from (at + 1) gone)) same ∙ lies-at from (at + 1) gone k (omega arith) (omega arith)

-- A place lies in one of the parts exactly where it isn't gone.
pub runs_left-lies : (gone : List Bool) (k : ℕ) → k < length gone → lies_in (runs_left 0 0 gone) k ≡ not (slice_index_or gone k false)
runs_left-lies gone k low = ap (lies_in (runs_left 0 0 gone)) (let same : k ≡ 0 + k = omega arith in same) ∙ lies-at 0 0 gone k (omega arith) low

-- Two lists of parts that are apart and have the same places are one list: so they are the longest runs.
lies-own : (span : SpanOf) (spans : List SpanOf) (k : ℕ) → span.0 ≤ k → k < span.1 → lies_in (span ∷ spans) k ≡ true
lies-own span spans k low high = lies-within span.0 span.1 k spans low ∙ or_left _ _ (lt-ltb k span.1 high)

lies-later : (span : SpanOf) (spans : List SpanOf) (k : ℕ) → span.0 ≤ k → span.1 ≤ k → lies_in (span ∷ spans) k ≡ lies_in spans k
lies-later span spans k low past = lies-within span.0 span.1 k spans low ∙ ap (λ b. b || lies_in spans k) (le-ltb k span.1 past)

-- The first of two such lists begins no earlier, and its first part ends no later.
begins_late : (at : ℕ) (x y : SpanOf) (xs ys : List SpanOf) → AreApart at (x ∷ xs) → AreApart at (y ∷ ys) → ((k : ℕ) → lies_in (x ∷ xs) k ≡ lies_in (y ∷ ys) k) → y.0 ≤ x.0
begins_late at x y xs ys p q same =
    elim (cases_lt x.0 y.0) [
      | inl early ↦ absurd (true≢false (sym (lies-own x xs x.0 (omega arith) p.1) ∙ same x.0
          ∙ none_before-apart y.0 x.0 (y ∷ ys) ((let here : y.0 ≤ y.0 = omega arith in here), q.1, q.2) early))
      | inr late ↦ late
    ]

ends_early : (at : ℕ) (x y : SpanOf) (xs ys : List SpanOf) → AreApart at (x ∷ xs) → AreApart at (y ∷ ys) → x.0 ≡ y.0 → ((k : ℕ) → lies_in (x ∷ xs) k ≡ lies_in (y ∷ ys) k) → y.1 ≤ x.1
ends_early at x y xs ys p q from same =
    let some = p.1 in
    elim (cases_lt x.1 y.1) [
      | inl early ↦ absurd (true≢false (sym (lies-own y ys x.1 (omega arith) early) ∙ sym (same x.1)
          ∙ lies-later x xs x.1 (omega arith) (omega arith) ∙ none_before-apart (x.1 + 1) x.1 xs p.2 (omega arith)))
      | inr late ↦ late
    ]

pub apart-unique : (at : ℕ) (xs ys : List SpanOf) → AreApart at xs → AreApart at ys → ((k : ℕ) → lies_in xs k ≡ lies_in ys k) → xs ≡ ys
apart-unique at [] [] p q same = refl
apart-unique at [] (y ∷ ys) p q same = absurd (false≢true (same y.0 ∙ lies-own y ys y.0 (omega arith) q.1))
apart-unique at (x ∷ xs) [] p q same = absurd (false≢true (sym (same x.0) ∙ lies-own x xs x.0 (omega arith) p.1))
apart-unique at (x ∷ xs) (y ∷ ys) p q same =
    let back : (k : ℕ) → lies_in (y ∷ ys) k ≡ lies_in (x ∷ xs) k = λ k. sym (same k) in
    let low = begins_late at x y xs ys p q same in
    let high = begins_late at y x ys xs q p back in
    let from : x.0 ≡ y.0 = omega arith in
    let least = ends_early at x y xs ys p q from same in
    let most = ends_early at y x ys xs q p (sym from) back in
    let to : x.1 ≡ y.1 = omega arith in
    let some = p.1 in
    let others : (k : ℕ) → lies_in xs k ≡ lies_in ys k = λ k.
    elim (cases_lt k (x.1 + 1)) [
      | inl early ↦ none_before-apart (x.1 + 1) k xs p.2 early ∙ sym (none_before-apart (y.1 + 1) k ys q.2 (omega arith))
      | inr late ↦ sym (lies-later x xs k (omega arith) (omega arith)) ∙ same k ∙ lies-later y ys k (omega arith) (omega arith)
    ] in
    let rest = apart-unique (x.1 + 1) xs ys p.2 (subst (λ n. AreApart (n + 1) ys) (sym to) q.2) others in
    let span : ℕ → ℕ → SpanOf = λ m n. (m, n) in
    ap (λ m. span m x.1 ∷ xs) from ∙ ap (λ n. span y.0 n ∷ xs) to ∙ ap (λ (l : List SpanOf). y ∷ l) rest
