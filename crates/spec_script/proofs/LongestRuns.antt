-- To each list there is exactly one list of its longest runs.
use Rattle.std.proofs.Common.{◌≡◌, ℕ, ◌+◌, ◌-◌, ◌<◌, ◌≤◌, zero, suc, Bool, true, List, [], ◌∷◌, length, take, drop, refl, sym, ap, subst, ◌∙◌, inl, inr, arith, length-drop, drop-drop}
use Rattle.std.proofs.lemmas.Bool.{cases_Bool, cond-true, cond-false}
use Rattle.spec_script.specs.LongestRuns.{Group, members, Apart, AreRuns, in_front, longest_runs, run_more, run_len}

-- A run alone.
abbrev alone : {X : Type 0} → X → Group X
alone x = record { first = x; more = [] }

-- x, put in front of a run.
abbrev onto : {X : Type 0} → X → Group X → Group X
onto x g = record { first = x; more = members g }

onto_apart : {X : Type 0} (joins : X → X → Bool) (x : X) (g : Group X) (gs : List (Group X)) → Apart joins (g ∷ gs) → Apart joins (onto x g ∷ gs)
onto_apart joins x g [] apart = tt
onto_apart joins x g (h ∷ gs) apart = apart

front-exist : {X : Type 0} (joins : X → X → Bool) (x : X) (xs : List X) (gs : List (Group X)) → AreRuns joins xs gs → AreRuns joins (x ∷ xs) (in_front joins x gs)
front-exist joins x xs [] r = record { all = ap (λ ys. x ∷ ys) r.all; together = (tt, tt); apart = tt }
front-exist joins x xs (g ∷ gs) r = elim (cases_Bool (joins x g.first)) [
  | inl joined ↦ subst (AreRuns joins (x ∷ xs)) (sym (cond-true (joins x g.first) (onto x g ∷ gs) (alone x ∷ g ∷ gs) joined)) (record {
    all = ap (λ ys. x ∷ ys) r.all;
    together = ((joined, r.together.0), r.together.1);
    apart = onto_apart joins x g gs r.apart;
  })
  | inr apart ↦ subst (AreRuns joins (x ∷ xs)) (sym (cond-false (joins x g.first) (onto x g ∷ gs) (alone x ∷ g ∷ gs) apart)) (record {
    all = ap (λ ys. x ∷ ys) r.all;
    together = (tt, r.together);
    apart = (apart, r.apart);
  })
]

-- The computed runs are the longest runs.
pub longest_runs-exist : {X : Type 0} (joins : X → X → Bool) (xs : List X) → AreRuns joins xs (longest_runs joins xs)
longest_runs-exist joins [] = record { all = refl; together = tt; apart = tt }
longest_runs-exist joins (x ∷ xs) = front-exist joins x xs (longest_runs joins xs) (longest_runs-exist joins xs)

-- A list whose first run is a given one, where the list without its first element has one list of runs.
alone-unique : {X : Type 0} (joins : X → X → Bool) (x : X) (gs rest : List (Group X)) → gs ≡ rest → Apart joins (alone x ∷ gs) → alone x ∷ gs ≡ in_front joins x rest
alone-unique joins x [] rest same apart = subst (λ gs. alone x ∷ [] ≡ in_front joins x gs) same refl
alone-unique joins x (g ∷ gs) rest same apart =
    subst (λ hs. alone x ∷ g ∷ gs ≡ in_front joins x hs) same (sym (cond-false (joins x g.first) (onto x g ∷ gs) (alone x ∷ g ∷ gs) apart.0))

rest_apart : {X : Type 0} (joins : X → X → Bool) (g : Group X) (gs : List (Group X)) → Apart joins (g ∷ gs) → Apart joins gs
rest_apart joins g [] apart = tt
rest_apart joins g (h ∷ gs) apart = apart.1

shorter_apart : {X : Type 0} (joins : X → X → Bool) (x y : X) (ys : List X) (gs : List (Group X)) → Apart joins (record { first = x; more = y ∷ ys } ∷ gs) → Apart joins (record { first = y; more = ys } ∷ gs)
shorter_apart joins x y ys [] apart = tt
shorter_apart joins x y ys (g ∷ gs) apart = apart

first-unique : {X : Type 0} (joins : X → X → Bool) (x : X) (xs : List X) (y : X) (ys : List X) (gs : List (Group X)) → ((hs : List (Group X)) → AreRuns joins xs hs → hs ≡ longest_runs joins xs) → AreRuns joins (x ∷ xs) (record { first = y; more = ys } ∷ gs) → record { first = y; more = ys } ∷ gs ≡ longest_runs joins (x ∷ xs)
first-unique joins x xs y [] gs unique r =
    let first : y ≡ x = cc (r.all) in
    let tail : AreRuns joins xs gs = record { all = cc (r.all); together = r.together.1; apart = rest_apart joins (alone y) gs r.apart } in
    let apart : Apart joins (alone x ∷ gs) = subst (λ a. Apart joins (alone a ∷ gs)) first r.apart in
    ap (λ a. alone a ∷ gs) first ∙ alone-unique joins x gs (longest_runs joins xs) (unique gs tail) apart
first-unique joins x xs y (z ∷ zs) gs unique r =
    let first : y ≡ x = cc (r.all) in
    let rest : List (Group _) = record { first = z; more = zs } ∷ gs in
    let tail : AreRuns joins xs rest = record { all = cc (r.all); together = (r.together.0.1, r.together.1); apart = shorter_apart joins y z zs gs r.apart } in
    let joined : joins x z ≡ true = subst (λ a. joins a z ≡ true) first r.together.0.0 in
    ap (λ a. record { first = a; more = z ∷ zs } ∷ gs) first
    ∙ sym (cond-true (joins x z) (onto x (record { first = z; more = zs }) ∷ gs) (alone x ∷ rest) joined)
    ∙ ap (in_front joins x) (unique rest tail)

-- No other groups are the longest runs.
pub longest_runs-unique : {X : Type 0} (joins : X → X → Bool) (xs : List X) (gs : List (Group X)) → AreRuns joins xs gs → gs ≡ longest_runs joins xs
longest_runs-unique joins [] [] r = refl
longest_runs-unique joins [] (g ∷ gs) r = cc (r.all)
longest_runs-unique joins (x ∷ xs) [] r = cc (r.all)
longest_runs-unique joins (x ∷ xs) (g ∷ gs) r = first-unique joins x xs g.first g.more gs (longest_runs-unique joins xs) r

-- The first run is x with as many others as join it one after the other; the rest has its runs by itself.
pub longest_runs-first : {X : Type 0} (joins : X → X → Bool) (x : X) (xs : List X) → longest_runs joins (x ∷ xs) ≡ record { first = x; more = take (run_more joins x xs) xs } ∷ longest_runs joins (drop (run_more joins x xs) xs)
longest_runs-first joins x [] = refl
longest_runs-first joins x (y ∷ ys) =
    let g : Group _ = record { first = y; more = take (run_more joins y ys) ys } in
    let gs : List (Group _) = longest_runs joins (drop (run_more joins y ys) ys) in
    let rest : longest_runs joins (y ∷ ys) ≡ g ∷ gs = longest_runs-first joins y ys in
    let at : ℕ → Type 0 = λ n. longest_runs joins (x ∷ y ∷ ys) ≡ record { first = x; more = take n (y ∷ ys) } ∷ longest_runs joins (drop n (y ∷ ys)) in
    elim (cases_Bool (joins x y)) [
      | inl joined ↦ subst at (sym (cond-true (joins x y) (suc (run_more joins y ys)) 0 joined))
          (ap (in_front joins x) rest ∙ cond-true (joins x y) (onto x g ∷ gs) (alone x ∷ g ∷ gs) joined)
      | inr apart ↦ subst at (sym (cond-false (joins x y) (suc (run_more joins y ys)) 0 apart))
          (ap (in_front joins x) rest ∙ cond-false (joins x y) (onto x g ∷ gs) (alone x ∷ g ∷ gs) apart ∙ ap (λ hs. alone x ∷ hs) (sym rest))
    ]

run_more-low : {X : Type 0} (joins : X → X → Bool) (x : X) (xs : List X) → run_more joins x xs ≤ length xs
run_more-low joins x [] = omega arith
run_more-low joins x (y ∷ ys) = elim (cases_Bool (joins x y)) [
  | inl joined ↦ subst (λ n. n ≤ length (y ∷ ys)) (sym (cond-true (joins x y) (suc (run_more joins y ys)) 0 joined)) (omega (arith, run_more-low joins y ys))
  | inr apart ↦ subst (λ n. n ≤ length (y ∷ ys)) (sym (cond-false (joins x y) (suc (run_more joins y ys)) 0 apart)) (omega arith)
]

-- The first n elements are the first run.
pub record FirstRun {X : Type 0} (joins : X → X → Bool) (xs : List X) (n : ℕ) : Type 0 where
  pub first : X
  pub more : List X
  pub slice : take n xs ≡ first ∷ more
  pub split : longest_runs joins xs ≡ record { first = first; more = more } ∷ longest_runs joins (drop n xs)
  pub some : 0 < n
  pub low : n ≤ length xs

pub first_run : {X : Type 0} (joins : X → X → Bool) (xs : List X) → 0 < length xs → FirstRun joins xs (run_len joins xs)
first_run joins [] some = absurd (omega (arith, some))
first_run joins (x ∷ xs) some = record {
  first = x;
  more = take (run_more joins x xs) xs;
  slice = refl;
  split = longest_runs-first joins x xs;
  some = omega arith;
  low = omega (arith, run_more-low joins x xs);
}

-- The last element is a run alone.
pub run_len-last : {X : Type 0} (joins : X → X → Bool) (xs : List X) (i : ℕ) → i < length xs → length xs ≤ i + 1 → run_len joins (drop i xs) ≡ 1
run_len-last joins [] i low high = absurd (omega (arith, low))
run_len-last joins (x ∷ []) zero low high = refl
run_len-last joins (x ∷ y ∷ xs) zero low high = absurd (omega (arith, high))
run_len-last joins (x ∷ xs) (suc i) low high = run_len-last joins xs i (omega arith) (omega arith)

-- The elements from one place to another are a longest run of those from the first place on.
pub record RunAt {X : Type 0} (joins : X → X → Bool) (xs : List X) (from to : ℕ) : Type 0 where
  pub first : X
  pub more : List X
  pub slice : take (to - from) (drop from xs) ≡ first ∷ more
  pub split : longest_runs joins (drop from xs) ≡ record { first = first; more = more } ∷ longest_runs joins (drop to xs)

pub run_at : {X : Type 0} (joins : X → X → Bool) (xs : List X) (from to : ℕ) → from < length xs → to ≡ from + run_len joins (drop from xs) → RunAt joins xs from to
run_at joins xs from to some end =
    let r = first_run joins (drop from xs) (omega (arith, length-drop from xs)) in
    let n = run_len joins (drop from xs) in
    let len : to - from ≡ n = omega arith in
    record {
      first = r.first;
      more = r.more;
      slice = ap (λ k. take k (drop from xs)) len ∙ r.slice;
      split = r.split ∙ ap (λ ys. record { first = r.first; more = r.more } ∷ longest_runs joins ys) (drop-drop n from xs ∙ ap (λ k. drop k xs) (sym end));
    }
