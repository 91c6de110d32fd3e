-- Elements that a part of theirs tells apart stay so in another order.
use Rattle.std.proofs.Common.{◌≡◌, ◌≢◌, ℕ, ◌==◌, Bool, true, List, [], ◌∷◌, ◌++◌, map, get_or, Ordering, Less, Equal, Greater, refl, ap, sym, ◌∙◌, arith}
use Rattle.std.specs.Prelude.{All, AllPairs, IsPermutation}
use Rattle.std.specs.Bool.{Decides}
use Rattle.std.specs.Ordering.{is_eq, ordering_reverse}
use Rattle.std.proofs.lemmas.Bool.Decides.{Decides-eqb}
use Rattle.std.proofs.lemmas.Cmp.{tied_itself}
use Rattle.std.proofs.lemmas.List.{get_or-map, length-map}
use Rattle.std.proofs.lemmas.List.Elements.{All-append, All-head, All-map, All-tail}
use Rattle.std.proofs.lemmas.List.Kept.{AllPairs-cons}
use Rattle.std.proofs.lemmas.List.Sorted.{IsPermutation-map}
use Rattle.std.proofs.lemmas.Map.Keys.{IsDistinct-IsPermutation}
use Rattle.std.proofs.lemmas.Map.Made.{AllPairs-from_IsDistinct, IsDistinct-from_AllPairs}
use Rattle.spec_text.proofs.ListLaws.{pairs-head, pairs-tail}
use Rattle.spec_labels.specs.Labels.{LabelOf, label_cmp}
use Rattle.spec_labels.proofs.LabelOrder.{label_cmp_total, label_cmp-Equal}

-- A test of sameness, which is the same both ways.
pub record TellsApart {K : Type 0} (eq : K → K → Bool) : Type 0 where
  pub same : (a b : K) → Decides (eq a b) (a ≡ b)
  pub flips : (a b : K) → eq a b ≡ eq b a

abbrev pub Apart : {X K : Type 0} → (X → K) → X → X → Type 0
Apart f one other = f one ≢ f other

apart-map : {X K : Type 0} (f : X → K) (xs : List X) → AllPairs (Apart f) xs → AllPairs (λ (a b : K). a ≢ b) (map f xs)
apart-map f [] pairs = λ i j d less within. absurd (omega (arith, within))
apart-map {X} {K} f (x ∷ xs) pairs =
    AllPairs-cons (λ (a b : K). a ≢ b) (f x) (map f xs)
    (All-map (λ (k : K). f x ≢ k) f xs (pairs-head (Apart f) x xs pairs))
    (apart-map f xs (pairs-tail (Apart f) x xs pairs))

map-apart : {X K : Type 0} (f : X → K) (xs : List X) → AllPairs (λ (a b : K). a ≢ b) (map f xs) → AllPairs (Apart f) xs
map-apart f [] pairs = λ i j d less within. absurd (omega (arith, within))
map-apart {X} {K} f (x ∷ xs) pairs =
    AllPairs-cons (Apart f) x xs
    (λ k d within same.
    pairs-head (λ (a b : K). a ≢ b) (f x) (map f xs) pairs k (f d) (omega (arith, within, length-map xs f)) (same ∙ sym (get_or-map f xs k d (f d) within)))
    (map-apart f xs (pairs-tail (λ (a b : K). a ≢ b) (f x) (map f xs) pairs))

pub apart-permutation : {X K : Type 0} (eq : K → K → Bool) → TellsApart eq → (f : X → K) (xs ys : List X) → IsPermutation xs ys → AllPairs (Apart f) xs → AllPairs (Apart f) ys
apart-permutation eq tells f xs ys permuted pairs =
    map-apart f ys
    (AllPairs-from_IsDistinct tells.same (map f ys)
    (IsDistinct-IsPermutation eq tells.flips (map f xs) (map f ys) (IsPermutation-map f xs ys permuted)
    (IsDistinct-from_AllPairs tells.same (map f xs) (apart-map f xs pairs))))

-- Pairs of two lists, one behind the other.
pub apart-append : {X K : Type 0} (f : X → K) (xs ys : List X) → AllPairs (Apart f) xs → AllPairs (Apart f) ys → All (λ y. All (λ x. Apart f x y) xs) ys → AllPairs (Apart f) (xs ++ ys)
apart-append f [] ys first second across = second
apart-append {X} f (x ∷ xs) ys first second across =
    AllPairs-cons (Apart f) x (xs ++ ys)
    (All-append (Apart f x) xs ys (pairs-head (Apart f) x xs first) (λ k d within. All-head (λ z. Apart f z (get_or ys k d)) x xs (across k d within)))
    (apart-append f xs ys (pairs-tail (Apart f) x xs first) second (λ k d within. All-tail (λ z. Apart f z (get_or ys k d)) x xs (across k d within)))

-- Numbers and labels are told apart.
pub numbers-apart : TellsApart (λ (a b : ℕ). a == b)
numbers-apart = record { same = Decides-eqb; flips = λ a b. grind arith }

abbrev pub same_label : LabelOf → LabelOf → Bool
same_label one other = is_eq (label_cmp one other)

pub labels-apart : TellsApart same_label
labels-apart = record {
  same = λ a b. (equal a b (label_cmp a b) refl, λ e. ap (λ l. same_label l b) e ∙ ap is_eq (tied_itself label_cmp_total b));
  flips = λ a b. flip (label_cmp a b) (label_cmp b a) (label_cmp_total.antisymm a b);
}
  where
    equal : (a b : LabelOf) (o : Ordering) → label_cmp a b ≡ o → is_eq o ≡ true → a ≡ b
    equal a b Less is same = cc
    equal a b Equal is same = label_cmp-Equal a b is
    equal a b Greater is same = cc

    flip : (o p : Ordering) → o ≡ ordering_reverse p → is_eq o ≡ is_eq p
    flip o Less is = ap is_eq is
    flip o Equal is = ap is_eq is
    flip o Greater is = ap is_eq is
