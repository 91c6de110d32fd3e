-- A label between two others lies strictly between them, rises with its place, and is a label.
use Rattle.std.proofs.Common.{◌≡◌, ℕ, zero, suc, ◌+◌, ◌-◌, ◌<◌, ◌≢◌, ◌&&◌, true, false, List, [], ◌∷◌, ◌++◌, length, drop, cond, ne_eqb, ⊎_elim, refl, ap, ap₂, sym, ◌∙◌, subst, append_assoc, append-nil, length-append, eq-eqb, eqb-true, nat_cmp, Ordering, Less, Equal, Greater, arith}
use Rattle.std.specs.Prelude.{Option, Some, None, IfSome, slice_get, replicate, nat_eq}
use Rattle.std.specs.Cmp.{nat_cmp_is}
use Rattle.std.specs.Cmp.Lexicographic.{slice_cmp}
use Rattle.std.specs.List.{starts_with}
use Rattle.std.specs.Ordering.{ordering_then}
use Rattle.std.proofs.lemmas.Bool.{cases_Bool, and_parts}
use Rattle.std.proofs.lemmas.Bool.Decides.{Decides-eqb}
use Rattle.std.proofs.lemmas.Cmp.{nat_cmp_total, tied_itself, ranked}
use Rattle.std.proofs.lemmas.Map.Lookups.{exact_unsigned}
use Rattle.std.proofs.lemmas.Slice.Eq.{starts_is}
use Rattle.spec_labels.specs.Labels.{LabelOf, plain_label, last_step, IsLabel, Below, is_extended_by, leading_zeros, zeros_between, between}
use Rattle.spec_labels.proofs.LabelOrder.{Below-irreflexive, same-label}

-- What stands in a list behind its front.
slice_get-behind : (front rest : List ℕ) (i k : ℕ) → i ≡ length front + k → slice_get (front ++ rest) i ≡ slice_get rest k
slice_get-behind [] rest i k at = ap (slice_get rest) (omega (arith, at))
slice_get-behind (x ∷ front) rest zero k at = absurd (omega (arith, at))
slice_get-behind (x ∷ front) rest (suc i) k at = slice_get-behind front rest i k (omega (arith, at))

-- The last step of a path is that of its end.
pub last_step-behind : (front rest : List ℕ) → 0 < length rest → last_step (front ++ rest) ≡ last_step rest
last_step-behind front rest some = slice_get-behind front rest (length (front ++ rest) - 1) (length rest - 1) (omega (arith, length-append front rest))

pub last_step-push : (path : List ℕ) (step : ℕ) → last_step (path ++ step ∷ []) ≡ Some step
last_step-push path step = last_step-behind path (step ∷ []) (omega arith)

-- A path that ends in a step above 0.
pub IsLabel-push : (number step : ℕ) (path : List ℕ) → 0 < step → IsLabel (record { number = number; path = path ++ step ∷ [] })
IsLabel-push number step path above =
    let P : Option ℕ → Type 0 = λ o. IfSome o (λ s. 0 < s) in
    record { ends = subst P (sym (last_step-push path step)) above }

pub IsLabel-plain : (number : ℕ) → IsLabel (plain_label number)
IsLabel-plain number = record { ends = tt }

-- Paths with the same front are ordered by what follows it.
pub cmp-behind : (front one other : List ℕ) → slice_cmp nat_cmp (front ++ one) (front ++ other) ≡ slice_cmp nat_cmp one other
cmp-behind [] one other = refl
cmp-behind (step ∷ front) one other =
    ap (λ (o : Ordering). ordering_then o (slice_cmp nat_cmp (front ++ one) (front ++ other))) (tied_itself nat_cmp_total step) ∙ cmp-behind front one other

-- A path is before the same path with further steps.
cmp-longer : (path more : List ℕ) → 0 < length more → slice_cmp nat_cmp path (path ++ more) ≡ Less
cmp-longer [] [] some = absurd (omega (arith, some))
cmp-longer [] (step ∷ more) some = refl
cmp-longer (step ∷ path) more some =
    ap (λ (o : Ordering). ordering_then o (slice_cmp nat_cmp path (path ++ more))) (tied_itself nat_cmp_total step) ∙ cmp-longer path more some

-- A path that is before another one, which doesn't go on behind it, stays before it with further steps.
cmp-apart : (low high more : List ℕ) → slice_cmp nat_cmp low high ≡ Less → ((rest : List ℕ) → high ≢ low ++ rest) → slice_cmp nat_cmp (low ++ more) high ≡ Less
cmp-apart [] high more less apart = absurd (apart high refl)
cmp-apart (x ∷ low) [] more less apart = cc
cmp-apart (x ∷ low) (y ∷ high) more less apart =
    by (nat_cmp x y) refl less (λ h same. cmp-apart low high more h (λ rest e. apart rest (ap₂ (λ (s : ℕ) (p : List ℕ). s ∷ p) (sym same) e)))
  where
    by : (o : Ordering) → nat_cmp x y ≡ o → ordering_then o (slice_cmp nat_cmp low high) ≡ Less
        → (slice_cmp nat_cmp low high ≡ Less → x ≡ y → slice_cmp nat_cmp (low ++ more) high ≡ Less)
        → ordering_then (nat_cmp x y) (slice_cmp nat_cmp (low ++ more) high) ≡ Less
    by Less is h tail = ap (λ (o : Ordering). ordering_then o (slice_cmp nat_cmp (low ++ more) high)) is
    by Equal is h tail = ap (λ (o : Ordering). ordering_then o (slice_cmp nat_cmp (low ++ more) high)) is ∙ tail h (exact_unsigned x y is)
    by Greater is h tail = cc

-- Before steps that end above 0 come one zero step more than they begin with, and any step behind these.
cmp-zeros : (steps : List ℕ) (m : ℕ) → 0 < length steps → IfSome (last_step steps) (λ step. 0 < step)
    → slice_cmp nat_cmp (replicate (leading_zeros steps + 1) 0 ++ m ∷ []) steps ≡ Less
cmp-zeros [] m some ends = absurd (omega (arith, some))
cmp-zeros (zero ∷ []) m some ends = absurd (omega (arith, ends))
cmp-zeros (zero ∷ step ∷ steps) m some ends =
    let P : Option ℕ → Type 0 = λ o. IfSome o (λ s. 0 < s) in
    let n : ℕ = leading_zeros (step ∷ steps) in
    let count : (1 + n) + 1 ≡ suc (n + 1) = omega arith in
    ap (λ k. slice_cmp nat_cmp (replicate k 0 ++ m ∷ []) (0 ∷ step ∷ steps)) count
    ∙ cmp-zeros (step ∷ steps) m (omega arith) (subst P (last_step-behind (0 ∷ []) (step ∷ steps) (omega arith)) ends)
cmp-zeros (suc step ∷ steps) m some ends =
    let none : leading_zeros (suc step ∷ steps) ≡ 0 = ap (λ b. cond b (1 + leading_zeros steps) 0) (ne_eqb (suc step) 0 (λ e. omega (arith, e))) in
    ap (λ k. slice_cmp nat_cmp (replicate (k + 1) 0 ++ m ∷ []) (suc step ∷ steps)) none
    ∙ ap (λ (o : Ordering). ordering_then o (slice_cmp nat_cmp (m ∷ []) steps)) (sym (nat_cmp_is 0 (suc step) Less (omega arith)))

-- What it says that one label is another one with further steps, or none.
pub extended-parts : (low high : LabelOf) → is_extended_by low high ≡ true → (low.number ≡ high.number) × (high.path ≡ low.path ++ drop (length low.path) high.path)
extended-parts low high is =
    let (number, path) = and_parts _ _ is in
    (eqb-true low.number high.number number, (starts_is Decides-eqb high.path low.path (starts_with nat_eq high.path low.path) refl).0 path)

pub extended-is : (low high : LabelOf) (rest : List ℕ) → low.number ≡ high.number → high.path ≡ low.path ++ rest → is_extended_by low high ≡ true
extended-is low high rest number path =
    ap₂ (λ a b. a && b) (eq-eqb low.number high.number number) ((starts_is Decides-eqb high.path low.path (starts_with nat_eq high.path low.path) refl).1 rest path)

-- The number decides.
below-number : (low high : LabelOf) (path : List ℕ) → low.number < high.number → Below (record { number = low.number; path = path }) high
below-number low high path less =
    record { less = ap (λ (o : Ordering). ordering_then o (slice_cmp nat_cmp path high.path)) (sym (nat_cmp_is low.number high.number Less less)) }

-- At one number the path decides.
below-path : (number other : ℕ) (path steps : List ℕ) → number ≡ other → slice_cmp nat_cmp path steps ≡ Less
    → Below (record { number = number; path = path }) (record { number = other; path = steps })
below-path number other path steps same less =
    record { less = ap (λ (o : Ordering). ordering_then o (slice_cmp nat_cmp path steps)) (sym (nat_cmp_is number other Equal same)) ∙ less }

-- What stands behind a label in one that is above it and goes on behind it: some steps, which end above 0.
pub rest-ends : (low high : LabelOf) → Below low high → IsLabel high → low.number ≡ high.number → high.path ≡ low.path ++ drop (length low.path) high.path
    → (0 < length (drop (length low.path) high.path)) × IfSome (last_step (drop (length low.path) high.path)) (λ step. 0 < step)
rest-ends low high below label number path = by (drop (length low.path) high.path) path
  where
    P : Option ℕ → Type 0
    P o = IfSome o (λ step. 0 < step)

    by : (rest : List ℕ) → high.path ≡ low.path ++ rest → (0 < length rest) × P (last_step rest)
    by [] is = absurd (Below-irreflexive high (subst (λ (it : LabelOf). Below it high) (same-label low high number (sym (append-nil low.path) ∙ sym is)) below))
    by (step ∷ rest) is =
        (omega arith, subst P (ap last_step is ∙ last_step-behind low.path (step ∷ rest) (omega arith)) label.ends)

-- A label between is above the lower one.
pub between-above : (low : LabelOf) (high : Option LabelOf) (m : ℕ) → 0 < m → Below low (between low high m)
between-above low None m some = below-number low (plain_label (low.number + m)) low.path (omega arith)
between-above low (Some high) m some =
    let zeros = zeros_between low high in
    below-path low.number low.number low.path (low.path ++ zeros ++ m ∷ []) refl
    (ap (slice_cmp nat_cmp low.path) (append_assoc low.path zeros (m ∷ [])) ∙ cmp-longer low.path (zeros ++ m ∷ []) (omega (arith, length-append zeros (m ∷ []))))

-- A label between is below the upper one.
pub between-below : (low high : LabelOf) (m : ℕ) → Below low high → IsLabel high → Below (between low (Some high) m) high
between-below low high m below label = ⊎_elim extended apart (cases_Bool (is_extended_by low high))
  where
    rest : List ℕ
    rest = drop (length low.path) high.path

    extended : is_extended_by low high ≡ true → Below (between low (Some high) m) high
    extended is =
        let (number, path) = extended-parts low high is in
        let (some, ends) = rest-ends low high below label number path in
        let zeros : zeros_between low high ≡ replicate (leading_zeros rest + 1) 0 = ap (λ b. cond b (replicate (leading_zeros rest + 1) 0) []) is in
        below-path low.number high.number (low.path ++ zeros_between low high ++ m ∷ []) high.path number
        (ap₂ (slice_cmp nat_cmp) (ap (λ zs. low.path ++ zs ++ m ∷ []) zeros ∙ append_assoc low.path (replicate (leading_zeros rest + 1) 0) (m ∷ [])) path
        ∙ cmp-behind low.path (replicate (leading_zeros rest + 1) 0 ++ m ∷ []) rest ∙ cmp-zeros rest m some ends)

    apart : is_extended_by low high ≡ false → Below (between low (Some high) m) high
    apart is = by (nat_cmp low.number high.number) refl below.less
      where
        zeros : zeros_between low high ≡ []
        zeros = ap (λ b. cond b (replicate (leading_zeros rest + 1) 0) []) is

        by : (o : Ordering) → nat_cmp low.number high.number ≡ o → ordering_then o (slice_cmp nat_cmp low.path high.path) ≡ Less → Below (between low (Some high) m) high
        by Less number h = below-number low high (low.path ++ zeros_between low high ++ m ∷ []) (ranked low.number high.number Less (sym number))
        by Equal number h =
            below-path low.number high.number (low.path ++ zeros_between low high ++ m ∷ []) high.path (exact_unsigned low.number high.number number)
            (ap (λ zs. slice_cmp nat_cmp (low.path ++ zs ++ m ∷ []) high.path) zeros
            ∙ ap (λ front. slice_cmp nat_cmp (front ++ m ∷ []) high.path) (append-nil low.path)
            ∙ cmp-apart low.path high.path (m ∷ []) h
            (λ rest e. let no : true ≡ false = sym (extended-is low high rest (exact_unsigned low.number high.number number) e) ∙ is in cc))
        by Greater number h = cc

-- Labels between the same two rise with their places.
pub between-rises : (low : LabelOf) (high : Option LabelOf) (m n : ℕ) → m < n → Below (between low high m) (between low high n)
between-rises low None m n less = below-number (plain_label (low.number + m)) (plain_label (low.number + n)) [] (omega (arith, less))
between-rises low (Some high) m n less =
    let front = low.path ++ zeros_between low high in
    below-path low.number low.number (front ++ m ∷ []) (front ++ n ∷ []) refl
    (cmp-behind front (m ∷ []) (n ∷ []) ∙ ap (λ (o : Ordering). ordering_then o Equal) (sym (nat_cmp_is m n Less less)))

-- A label between is a label.
pub between-IsLabel : (low : LabelOf) (high : Option LabelOf) (m : ℕ) → 0 < m → IsLabel (between low high m)
between-IsLabel low None m some = IsLabel-plain (low.number + m)
between-IsLabel low (Some high) m some = IsLabel-push low.number m (low.path ++ zeros_between low high) some
