-- Past which of the scenes that are gone a walk goes.
use Rattle.std.proofs.Common.{◌≡◌, ◌⊎◌, inl, inr, not, ◌-◌, ℕ, zero, suc, ◌+◌, ◌<◌, ◌≤◌, ◌==◌, Bool, true, false, cond, List, [], ◌∷◌, length, filter, take, drop, get_or, refl, sym, ap, ◌∙◌, subst, eq-eqb, ne_eqb, take_all, length-drop, arith}
use Rattle.std.specs.Prelude.{AllPairs, slice_range}
use Rattle.std.specs.List.{position_or_len, prefix_len}
use Rattle.std.specs.Ordering.{is_lt}
use Rattle.std.specs.declared.cmp.Ordering.{Ordering}
use Rattle.std.specs.declared.cmp.Ordering.TheVariants.{Less, Equal, Greater}
use Rattle.std.proofs.lemmas.Bool.{cases_lt}
use Rattle.std.proofs.lemmas.List.Sums.{prefix_len-le-length}
use Rattle.spec_labels.specs.Labels.{LabelOf, plain_label, label_cmp, Below}
use Rattle.spec_labels.proofs.LabelOrder.{Below-transitive}
use Rattle.spec_machine.specs.Outlines.{first_above}
use Rattle.sp_contents.specs.Walks.{IsWalked, IsAbove, label_at}

-- ---- filters

-- None passes.
filter-none : {X : Type 0} (f : X → ℕ) (i : ℕ) (d : X) (xs : List X) → ((j : ℕ) → j < length xs → i < f (get_or xs j d)) → filter (λ x. f x == i) xs ≡ []
filter-none f i d [] above = refl
filter-none f i d (x ∷ xs) above =
    let no : (f x == i) ≡ false = (let high : i < f x = above 0 (omega arith) in ne_eqb (f x) i (λ e. omega (arith, e, high))) in
    ap (λ b. cond b (x ∷ filter (λ y. f y == i) xs) (filter (λ y. f y == i) xs)) no ∙ filter-none f i d xs (λ j below. above (suc j) (omega (arith, below)))

-- Those at which a number is one, in a list where it is below that first, and above it at last.
pub filter-part : {X : Type 0} (f : X → ℕ) (i : ℕ) (d : X) (xs : List X) (p n : ℕ) → p + n ≤ length xs
    → ((j : ℕ) → j < p → f (get_or xs j d) < i) → ((j : ℕ) → p ≤ j → j < p + n → f (get_or xs j d) ≡ i) → ((j : ℕ) → p + n ≤ j → j < length xs → i < f (get_or xs j d))
    → filter (λ x. f x == i) xs ≡ take n (drop p xs)
filter-part f i d [] zero zero within before here behind = refl
filter-part f i d [] zero (suc n) within before here behind = absurd (omega (arith, within))
filter-part f i d [] (suc p) n within before here behind = absurd (omega (arith, within))
filter-part f i d (x ∷ xs) zero zero within before here behind = filter-none f i d (x ∷ xs) (λ j below. behind j (omega arith) below)
filter-part f i d (x ∷ xs) zero (suc n) within before here behind =
    let yes : (f x == i) ≡ true = eq-eqb (f x) i (here 0 (omega arith) (omega arith)) in
    ap (λ b. cond b (x ∷ filter (λ y. f y == i) xs) (filter (λ y. f y == i) xs)) yes
    ∙ ap (λ ys. x ∷ ys)
    (filter-part f i d xs zero n (omega (arith, within)) (λ j below. absurd (omega (arith, below))) (λ j low below. here (suc j) (omega arith) (omega (arith, below)))
    (λ j low below. behind (suc j) (omega (arith, low)) (omega (arith, below))))
filter-part f i d (x ∷ xs) (suc p) n within before here behind =
    let no : (f x == i) ≡ false = (let low : f x < i = before 0 (omega arith) in ne_eqb (f x) i (λ e. omega (arith, e, low))) in
    ap (λ b. cond b (x ∷ filter (λ y. f y == i) xs) (filter (λ y. f y == i) xs)) no
    ∙ filter-part f i d xs p n (omega (arith, within)) (λ j below. before (suc j) (omega (arith, below)))
    (λ j low below. here (suc j) (omega (arith, low)) (omega (arith, below))) (λ j low below. behind (suc j) (omega (arith, low)) (omega (arith, below)))

-- ---- first places

-- The first place that passes isn't behind one that passes.
place-low : {X : Type 0} (p : X → Bool) (d : X) (xs : List X) (i : ℕ) → i < length xs → p (get_or xs i d) ≡ true → position_or_len p xs ≤ i
place-low p d [] i inside passes = absurd (omega (arith, inside))
place-low p d (x ∷ xs) zero inside passes = let P : Bool → Type 0 = λ b. cond (not b) (1 + prefix_len (λ y. not (p y)) xs) 0 ≤ 0 in subst P (sym passes) (omega arith)
place-low p d (x ∷ xs) (suc i) inside passes = by (p x) (place-low p d xs i (omega (arith, inside)) passes)
  where
    by : (b : Bool) → position_or_len p xs ≤ i → cond (not b) (1 + prefix_len (λ y. not (p y)) xs) 0 ≤ suc i
    by true less = omega arith
    by false less = omega (arith, less)

place-low-all : {X : Type 0} (p : X → Bool) (xs : List X) → position_or_len p xs ≤ length xs
place-low-all p xs = prefix_len-le-length (λ x. not (p x)) xs

-- The first place that passes does.
place-passes : {X : Type 0} (p : X → Bool) (d : X) (xs : List X) (i : ℕ) → position_or_len p xs ≡ i → i < length xs → p (get_or xs i d) ≡ true
place-passes p d [] i is inside = absurd (omega (arith, inside))
place-passes p d (x ∷ xs) i is inside = by (p x) refl (place-passes p d xs) i is inside
  where
    by : (b : Bool) → p x ≡ b → ((i : ℕ) → position_or_len p xs ≡ i → i < length xs → p (get_or xs i d) ≡ true) → (i : ℕ) → cond (not b) (1 + prefix_len (λ y. not (p y)) xs) 0 ≡ i → i < length (x ∷ xs) → p (get_or (x ∷ xs) i d) ≡ true
    by true here later zero at in_it = here
    by true here later (suc i) at in_it = absurd (omega (arith, at))
    by false here later zero at in_it = absurd (omega (arith, at))
    by false here later (suc i) at in_it = later i (omega (arith, at)) (omega (arith, in_it))

-- Where all that passes one test passes another, the first place of the other isn't behind.
place-order : {X : Type 0} (p q : X → Bool) → ((x : X) → p x ≡ true → q x ≡ true) → (xs : List X) → position_or_len q xs ≤ position_or_len p xs
place-order p q leads [] = omega arith
place-order p q leads (x ∷ xs) = by (p x) (q x) (leads x) (place-order p q leads xs)
  where
    by : (a b : Bool) → (a ≡ true → b ≡ true) → position_or_len q xs ≤ position_or_len p xs → cond (not b) (1 + prefix_len (λ y. not (q y)) xs) 0 ≤ cond (not a) (1 + prefix_len (λ y. not (p y)) xs) 0
    by a true leads_on less = omega arith
    by true false leads_on less = let no : false ≡ true = leads_on refl in cc
    by false false leads_on less = omega (arith, less)

-- ---- labels above others

lt-Less : (o : Ordering) → is_lt o ≡ true → o ≡ Less
lt-Less Less e = refl
lt-Less Equal e = cc
lt-Less Greater e = cc

below-of : (one other : LabelOf) → is_lt (label_cmp one other) ≡ true → Below one other
below-of one other e = record { less = lt-Less (label_cmp one other) e }

-- The first heading whose label is above one stands no later than the first whose label is above a higher one.
above-order : (labels : List LabelOf) (one other : LabelOf) → Below one other → first_above labels one ≤ first_above labels other
above-order labels one other low =
    place-order (λ label. is_lt (label_cmp other label)) (λ label. is_lt (label_cmp one label)) (λ label e. ap is_lt (Below-transitive low (below-of other label e)).less) labels

-- ---- walks

pub record IsPassed (labels gone : List LabelOf) (i p q : ℕ) : Type 0 where
  pub here : (j : ℕ) → p ≤ j → j < q → first_above labels (label_at gone j) ≡ i
  pub behind : (j : ℕ) → q ≤ j → j < length gone → i < first_above labels (label_at gone j)

passed : (labels gone : List LabelOf) (i p q : ℕ) → AllPairs Below gone → i < length labels → IsWalked labels gone i p → IsAbove (label_at labels i) gone p q → IsPassed labels gone i p q
passed labels gone i p q rising inside walked above = record {
  here = λ j late below.
      (let low = place-low (λ label. is_lt (label_cmp (label_at gone j) label)) (plain_label 0) labels i inside (above.above j late below) in
      let high = walked.behind j late (let w = above.within in omega (arith, below, w)) in omega (arith, low, high));
  behind = λ j late below. by j late below (cases_lt q j);
}
  where
    at : q < length gone → i < first_above labels (label_at gone q)
    at more =
        let low : i ≤ first_above labels (label_at gone q) = walked.behind q above.order more in
        let other : first_above labels (label_at gone q) ≡ i → ⊥ = λ e.
        (let yes = place-passes (λ label. is_lt (label_cmp (label_at gone q) label)) (plain_label 0) labels i e inside in let no = above.next more in let two : true ≡ false = sym yes ∙ no in cc) in
        omega (arith, low, other)

    by : (j : ℕ) → q ≤ j → j < length gone → (q < j) ⊎ (j ≤ q) → i < first_above labels (label_at gone j)
    by j late below (inl higher) =
        let more = at (omega (arith, late, below)) in
        let rises = above-order labels (label_at gone q) (label_at gone j) (rising q j (plain_label 0) higher below) in omega (arith, more, rises)
    by j late below (inr same) =
        let e : q ≡ j = omega (arith, late, same) in subst (λ k. i < first_above labels (label_at gone k)) e (at (omega (arith, late, below)))

-- Behind a heading the walk goes on where its label isn't above what is left.
pub walk-on : (labels gone : List LabelOf) (i p q : ℕ) → AllPairs Below gone → i < length labels → IsWalked labels gone i p → IsAbove (label_at labels i) gone p q → IsWalked labels gone (i + 1) q
walk-on labels gone i p q rising inside walked above = record {
  within = above.within;
  before = λ j below. by j below (cases_lt j p);
  behind = λ j late below. (let more = all.behind j late below in omega (arith, more));
}
  where
    all : IsPassed labels gone i p q
    all = passed labels gone i p q rising inside walked above

    by : (j : ℕ) → j < q → (j < p) ⊎ (p ≤ j) → first_above labels (label_at gone j) < i + 1
    by j below (inl early) = let low = walked.before j early in omega (arith, low)
    by j below (inr late) = let low = all.here j late below in omega (arith, low)

-- The scenes that are gone to which the label of a heading is the first above.
pub walk-part : (labels gone : List LabelOf) (i p q : ℕ) → AllPairs Below gone → i < length labels → IsWalked labels gone i p → IsAbove (label_at labels i) gone p q
    → filter (λ it. first_above labels it == i) gone ≡ slice_range gone p q
walk-part labels gone i p q rising inside walked above =
    let all = passed labels gone i p q rising inside walked above in
    let order = above.order in
    let within = above.within in
    filter-part (first_above labels) i (plain_label 0) gone p (q - p) (omega (arith, order, within)) walked.before
    (λ j late below. all.here j late (omega (arith, order, below)))
    (λ j late below. all.behind j (omega (arith, order, late)) below)

-- Those that are left behind all headings.
pub walk-end : (labels gone : List LabelOf) (p : ℕ) → IsWalked labels gone (length labels) p → filter (λ it. first_above labels it == length labels) gone ≡ drop p gone
walk-end labels gone p walked =
    let within = walked.within in
    let n = length gone - p in
    filter-part (first_above labels) (length labels) (plain_label 0) gone p n (omega (arith, within)) walked.before
    (λ j late below. (let low = place-low-all (λ label. is_lt (label_cmp (label_at gone j) label)) labels in let high = walked.behind j late (omega (arith, within, below)) in omega (arith, low, high)))
    (λ j late below. absurd (omega (arith, within, late, below)))
    ∙ take_all n (drop p gone) (omega (arith, length-drop p gone))
