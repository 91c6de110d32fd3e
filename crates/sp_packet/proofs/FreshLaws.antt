-- The counts of fresh records tell which sheets are handed out.
use Rattle.std.proofs.Common.{◌≡◌, inl, inr, ℕ, zero, suc, ◌+◌, ◌-◌, ◌<◌, ◌≤◌, Bool, true, false, ◌||◌, ◌==◌, cond, Option, Some, None, List, [], ◌∷◌, ◌++◌, map, take, drop, get_or, refl, ap, ap₂, sym, ◌∙◌, arith}
use Rattle.std.specs.Prelude.{nat_lt, slice_range}
use Rattle.std.specs.List.{list_any}
use Rattle.std.proofs.lemmas.Bool.{cases_lt, lt-ltb, le-ltb}
use Rattle.spec_packet.specs.SheetFacts.{PlacesOf, SheetFactsOf, itself, cue_fresh, fresh_before, fresh_behind, is_chosen}
use Rattle.sp_packet.specs.Fresh.{one_more, counts_behind, count_of, counts_of, has_fresh, has_fresh_cue, is_handed_by}

abbrev bit : Bool → ℕ
bit true = 1
bit false = 0

abbrev true_count : List Bool → ℕ
true_count [] = 0
true_count (fresh ∷ later) = bit fresh + true_count later

one_more-bit : (count : ℕ) (fresh : Bool) → one_more count fresh ≡ count + bit fresh
one_more-bit count true = refl
one_more-bit count false = omega arith

before-is : (count : ℕ) (fresh : List Bool) (place : ℕ) → get_or (count ∷ counts_behind count fresh) place (count_of count fresh) ≡ count + true_count (take place fresh)
before-is count [] zero = omega arith
before-is count [] (suc place) = omega arith
before-is count (it ∷ later) zero = omega arith
before-is count (it ∷ later) (suc place) =
    let ih = before-is (one_more count it) later place in
    let more = one_more-bit count it in
    omega (arith, ih, more)

count-append : (xs ys : List Bool) → true_count (xs ++ ys) ≡ true_count xs + true_count ys
count-append [] ys = omega arith
count-append (x ∷ xs) ys = let ih = count-append xs ys in omega (arith, ih)

take-parts : {X : Type 0} (from more : ℕ) (xs : List X) → take (from + more) xs ≡ take from xs ++ take more (drop from xs)
take-parts zero more xs = let e : 0 + more ≡ more = omega arith in ap (λ n. take n xs) e
take-parts (suc from) more [] = let e : suc from + more ≡ suc (from + more) = omega arith in ap (λ n. take n []) e ∙ none more
  where
    none : {X : Type 0} (n : ℕ) → ◌≡◌ {A = List X} [] (take n [])
    none zero = refl
    none (suc n) = refl
take-parts {X} (suc from) more (x ∷ xs) =
    let e : suc from + more ≡ suc (from + more) = omega arith in
    ap (λ n. take n (x ∷ xs)) e ∙ ap (λ (l : List X). x ∷ l) (take-parts from more xs)

any-count : (xs : List Bool) → list_any itself xs ≡ nat_lt 0 (true_count xs)
any-count [] = refl
any-count (true ∷ xs) = sym (lt-ltb 0 (1 + true_count xs) (omega arith))
any-count (false ∷ xs) = let e : true_count xs ≡ 0 + true_count xs = omega arith in any-count xs ∙ ap (nat_lt 0) e

lt-more : (n more : ℕ) → nat_lt n (n + more) ≡ nat_lt 0 more
lt-more n zero = le-ltb n (n + 0) (omega arith)
lt-more n (suc more) = lt-ltb n (n + suc more) (omega arith) ∙ sym (lt-ltb 0 (suc more) (omega arith))

-- Records between two places, by how many of those before each are fresh.
fresh-between : (fresh : List Bool) (from to : ℕ) → has_fresh (counts_of fresh) from to ≡ list_any itself (slice_range fresh from to)
fresh-between fresh from to =
    ap₂ nat_lt (before-is 0 fresh from ∙ plain (true_count (take from fresh))) (before-is 0 fresh to ∙ plain (true_count (take to fresh)))
    ∙ elim (cases_lt to from) [ inl below ↦ none below | inr upto ↦ some upto ]
  where
    plain : (n : ℕ) → 0 + n ≡ n
    plain n = omega arith

    within : (a b : ℕ) → a ≤ b → true_count (take b fresh) ≡ true_count (take a fresh) + true_count (take (b - a) (drop a fresh))
    within a b upto =
        let e : b ≡ a + (b - a) = omega (arith, upto) in
        ap (λ n. true_count (take n fresh)) e ∙ ap true_count (take-parts a (b - a) fresh) ∙ count-append (take a fresh) (take (b - a) (drop a fresh))

    none : to < from → nat_lt (true_count (take from fresh)) (true_count (take to fresh)) ≡ list_any itself (slice_range fresh from to)
    none below =
        let less = within to from (omega (arith, below)) in
        let empty : to - from ≡ 0 = omega (arith, below) in
        le-ltb (true_count (take from fresh)) (true_count (take to fresh)) (omega (arith, less)) ∙ sym (ap (λ n. list_any itself (take n (drop from fresh))) empty)

    some : from ≤ to → nat_lt (true_count (take from fresh)) (true_count (take to fresh)) ≡ list_any itself (slice_range fresh from to)
    some upto =
        ap (nat_lt (true_count (take from fresh))) (within from to upto) ∙ lt-more (true_count (take from fresh)) (true_count (slice_range fresh from to)) ∙ sym (any-count (slice_range fresh from to))

fresh-cue : (fresh : List Bool) (cue : Option PlacesOf) → has_fresh_cue (counts_of fresh) cue ≡ cue_fresh fresh cue
fresh-cue fresh None = refl
fresh-cue fresh (Some places) = fresh-between fresh places.first (places.last + 1)

-- By the counts a sheet is handed out just where it is by its facts.
pub handed-chosen : (fresh : List Bool) (facts : SheetFactsOf) → is_handed_by (counts_of fresh) facts ≡ is_chosen fresh facts
handed-chosen fresh facts =
    ap₂ (λ a b. a || b) (fresh-between fresh facts.records.first (facts.records.last + 1)) (by (facts.pages == 0))
  where
    near : (has_fresh (counts_of fresh) (facts.records.first - 1) facts.records.first || has_fresh (counts_of fresh) (facts.records.last + 1) (facts.records.last + 2))
        ≡ (fresh_before fresh facts.records.first || fresh_behind fresh facts.records.last)
    near = ap₂ (λ a b. a || b) (fresh-between fresh (facts.records.first - 1) facts.records.first) (fresh-between fresh (facts.records.last + 1) (facts.records.last + 2))

    by : (b : Bool) → cond b (has_fresh (counts_of fresh) (facts.records.first - 1) facts.records.first || has_fresh (counts_of fresh) (facts.records.last + 1) (facts.records.last + 2)) (nat_lt 1 facts.pages || has_fresh_cue (counts_of fresh) facts.cue)
        ≡ cond b (fresh_before fresh facts.records.first || fresh_behind fresh facts.records.last) (nat_lt 1 facts.pages || cue_fresh fresh facts.cue)
    by true = near
    by false = ap (λ c. nat_lt 1 facts.pages || c) (fresh-cue fresh facts.cue)

pub all-chosen : (fresh : List Bool) (facts : List SheetFactsOf) → map (is_handed_by (counts_of fresh)) facts ≡ map (is_chosen fresh) facts
all-chosen fresh [] = refl
all-chosen fresh (it ∷ facts) = ap₂ (λ (b : Bool) (l : List Bool). b ∷ l) (handed-chosen fresh it) (all-chosen fresh facts)
