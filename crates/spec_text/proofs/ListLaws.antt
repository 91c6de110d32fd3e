-- Laws of lists.
use Rattle.std.proofs.Common.{◌≡◌, ◌⊎◌, inl, inr, ℕ, zero, suc, ◌+◌, ◌<◌, Bool, true, List, [], ◌∷◌, ◌++◌, map, cond, refl, ap, ◌∙◌, arith, length}
use Rattle.std.specs.Prelude.{All, AllPairs, Contains, filter, slice_get}
use Rattle.std.proofs.lemmas.List.Elements.{All-nil, All-cons, All-head, All-tail, All-append, All-map}
use Rattle.std.proofs.lemmas.List.Kept.{AllPairs-cons}

-- Where all pass, all are kept.
pub filter-whole : {X : Type 0} (p : X → Bool) (xs : List X) → All (λ x. p x ≡ true) xs → filter p xs ≡ xs
filter-whole p [] all = refl
filter-whole {X} p (x ∷ xs) all =
    let P : X → Type 0 = λ x. p x ≡ true in
    ap (λ b. cond b (x ∷ filter p xs) (filter p xs)) (All-head P x xs all) ∙ ap (λ (zs : List X). x ∷ zs) (filter-whole p xs (All-tail P x xs all))

-- ---- pairs

pub pairs-none : {X : Type 0} (R : X → X → Type 0) → AllPairs R []
pairs-none R i j d less inside = absurd (omega (arith, less, inside))

pub pairs-head : {X : Type 0} (R : X → X → Type 0) (x : X) (xs : List X) → AllPairs R (x ∷ xs) → All (R x) xs
pairs-head R x xs all j d inside = all 0 (suc j) d (omega arith) (omega (arith, inside))

pub pairs-tail : {X : Type 0} (R : X → X → Type 0) (x : X) (xs : List X) → AllPairs R (x ∷ xs) → AllPairs R xs
pairs-tail R x xs all i j d less inside = all (suc i) (suc j) d (omega (arith, less)) (omega (arith, inside))

pub pairs-join : {X : Type 0} (R : X → X → Type 0) (xs ys : List X) → AllPairs R xs → AllPairs R ys → All (λ x. All (R x) ys) xs → AllPairs R (xs ++ ys)
pairs-join R [] ys one other across = other
pairs-join {X} R (x ∷ xs) ys one other across =
    let Q : X → Type 0 = λ z. All (R z) ys in
    AllPairs-cons R x (xs ++ ys) (All-append (R x) xs ys (pairs-head R x xs one) (All-head Q x xs across)) (pairs-join R xs ys (pairs-tail R x xs one) other (All-tail Q x xs across))

pub pairs-map : {X Y : Type 0} (R : Y → Y → Type 0) (f : X → Y) (xs : List X) → AllPairs (λ (a b : X). R (f a) (f b)) xs → AllPairs R (map f xs)
pairs-map R f [] pairs = pairs-none R
pairs-map {X} R f (x ∷ xs) pairs =
    let S : X → X → Type 0 = λ a b. R (f a) (f b) in
    AllPairs-cons R (f x) (map f xs) (All-map (R (f x)) f xs (pairs-head S x xs pairs)) (pairs-map R f xs (pairs-tail S x xs pairs))

pub all-unmap : {X Y : Type 0} (P : Y → Type 0) (f : X → Y) (xs : List X) → All P (map f xs) → All (λ (x : X). P (f x)) xs
all-unmap {X} P f [] all = All-nil (λ (x : X). P (f x))
all-unmap {X} P f (x ∷ xs) all = All-cons (λ (z : X). P (f z)) x xs (All-head P (f x) (map f xs) all) (all-unmap P f xs (All-tail P (f x) (map f xs) all))

pub pairs-unmap : {X Y : Type 0} (R : Y → Y → Type 0) (f : X → Y) (xs : List X) → AllPairs R (map f xs) → AllPairs (λ (a b : X). R (f a) (f b)) xs
pairs-unmap {X} R f [] pairs = pairs-none (λ (a b : X). R (f a) (f b))
pairs-unmap {X} R f (x ∷ xs) pairs =
    AllPairs-cons (λ (a b : X). R (f a) (f b)) x xs (all-unmap (R (f x)) f xs (pairs-head R (f x) (map f xs) pairs)) (pairs-unmap R f xs (pairs-tail R (f x) (map f xs) pairs))

pub pairs-back : {X : Type 0} (R : X → X → Type 0) (xs ys : List X) → AllPairs R (xs ++ ys) → AllPairs R ys
pairs-back R [] ys pairs = pairs
pairs-back R (x ∷ xs) ys pairs = pairs-back R xs ys (pairs-tail R x (xs ++ ys) pairs)

-- ---- parts

pub All-front : {X : Type 0} (P : X → Type 0) (xs ys : List X) → All P (xs ++ ys) → All P xs
All-front P [] ys all = All-nil P
All-front P (x ∷ xs) ys all = All-cons P x xs (All-head P x (xs ++ ys) all) (All-front P xs ys (All-tail P x (xs ++ ys) all))

pub All-back : {X : Type 0} (P : X → Type 0) (xs ys : List X) → All P (xs ++ ys) → All P ys
All-back P [] ys all = all
All-back P (x ∷ xs) ys all = All-back P xs ys (All-tail P x (xs ++ ys) all)

pub slice_get-front : {X : Type 0} (xs ys : List X) (k : ℕ) → k < length xs → slice_get (xs ++ ys) k ≡ slice_get xs k
slice_get-front [] ys k inside = absurd (omega (arith, inside))
slice_get-front (x ∷ xs) ys zero inside = refl
slice_get-front (x ∷ xs) ys (suc k) inside = slice_get-front xs ys k (omega (arith, inside))

pub slice_get-back : {X : Type 0} (xs ys : List X) (k : ℕ) → slice_get (xs ++ ys) (length xs + k) ≡ slice_get ys k
slice_get-back [] ys k = let e : 0 + k ≡ k = omega arith in ap (slice_get ys) e
slice_get-back (x ∷ xs) ys k =
    let e : suc (length xs) + k ≡ suc (length xs + k) = omega arith in
    ap (slice_get (x ∷ (xs ++ ys))) e ∙ slice_get-back xs ys k

-- ---- what stands in a list

pub Contains-first : {X : Type 0} (x y : X) (xs : List X) → x ≡ y → Contains (x ∷ xs) y
Contains-first x y xs is = (0, omega arith, is)

pub Contains-later : {X : Type 0} (x y : X) (xs : List X) → Contains xs y → Contains (x ∷ xs) y
Contains-later x y xs (k, within, is) = (suc k, omega (arith, within), is)

pub Contains-either : {X : Type 0} (x y : X) (xs : List X) → Contains (x ∷ xs) y → (x ≡ y) ⊎ Contains xs y
Contains-either x y xs (zero, within, is) = inl is
Contains-either x y xs (suc k, within, is) = inr (k, omega (arith, within), is)
