-- What is in a list, and lists in order.
use Rattle.std.proofs.Common.{◌≡◌, ◌⊎◌, inl, inr, Bool, true, false, cond, List, [], ◌∷◌, ◌++◌, map, refl, ap, ap₂, sym, subst, ◌∙◌}
use Rattle.std.specs.Prelude.{filter}
use Rattle.spec_packet.specs.SheetLists.{IsIn, InOrder}

-- In one list or the other.
pub in-left : {X : Type 0} (x : X) (xs ys : List X) → IsIn x xs → IsIn x (xs ++ ys)
in-left x [] ys is = absurd is
in-left x (z ∷ xs) ys is = elim is [ inl same ↦ inl same | inr later ↦ inr (in-left x xs ys later) ]

pub in-right : {X : Type 0} (x : X) (xs ys : List X) → IsIn x ys → IsIn x (xs ++ ys)
in-right x [] ys is = is
in-right x (z ∷ xs) ys is = inr (in-right x xs ys is)

pub append-in : {X : Type 0} (x : X) (xs ys : List X) → IsIn x (xs ++ ys) → IsIn x xs ⊎ IsIn x ys
append-in x [] ys is = inr is
append-in x (z ∷ xs) ys is = elim is [
  | inl same ↦ inl (inl same)
  | inr later ↦ elim (append-in x xs ys later) [ inl one ↦ inl (inr one) | inr other ↦ inr other ]
]

pub in-map : {X Y : Type 0} (f : X → Y) (x : X) (xs : List X) → IsIn x xs → IsIn (f x) (map f xs)
in-map f x [] is = is
in-map f x (y ∷ ys) is = elim is [ inl same ↦ inl (ap f same) | inr later ↦ inr (in-map f x ys later) ]

-- One of a changed list comes from one of the list.
pub record From {X Y : Type 0} (f : X → Y) (y : Y) (xs : List X) : Type 0 where
  pub it : X
  pub there : IsIn it xs
  pub is : f it ≡ y

pub map-in : {X Y : Type 0} (f : X → Y) (y : Y) (xs : List X) → IsIn y (map f xs) → From f y xs
map-in f y [] is = absurd is
map-in f y (x ∷ xs) is = elim is [
  | inl same ↦ record { it = x; there = inl refl; is = same }
  | inr later ↦ let from = map-in f y xs later in record { it = from.it; there = inr from.there; is = from.is }
]

pub in-filter : {X : Type 0} (p : X → Bool) (x : X) (xs : List X) → IsIn x xs → p x ≡ true → IsIn x (filter p xs)
in-filter p x [] is passes = is
in-filter {X} p x (y ∷ ys) is passes = elim is [
  | inl same ↦ subst (λ b. IsIn x (cond b (y ∷ filter p ys) (filter p ys))) (sym (ap p same ∙ passes)) (inl same)
  | inr later ↦ behind (p y) (in-filter p x ys later passes)
]
  where
    behind : (b : Bool) → IsIn x (filter p ys) → IsIn x (cond b (y ∷ filter p ys) (filter p ys))
    behind true later = inr later
    behind false later = later

-- One that passes a test, of a list.
pub record Passes {X : Type 0} (p : X → Bool) (x : X) (xs : List X) : Type 0 where
  pub there : IsIn x xs
  pub passes : p x ≡ true

pub filter-in : {X : Type 0} (p : X → Bool) (x : X) (xs : List X) → IsIn x (filter p xs) → Passes p x xs
filter-in p x [] is = absurd is
filter-in {X} p x (y ∷ ys) is = by (p y) refl is (filter-in p x ys)
  where
    by : (b : Bool) → p y ≡ b → IsIn x (cond b (y ∷ filter p ys) (filter p ys)) → (IsIn x (filter p ys) → Passes p x ys) → Passes p x (y ∷ ys)
    by true hit is later = elim is [
      | inl same ↦ record { there = inl same; passes = sym (ap p same) ∙ hit }
      | inr there ↦ let l = later there in record { there = inr l.there; passes = l.passes }
    ]
    by false other is later = let l = later is in record { there = inr l.there; passes = l.passes }

pub order-filter : {X : Type 0} (R : X → X → Type 0) (p : X → Bool) (xs : List X) → InOrder R xs → InOrder R (filter p xs)
order-filter R p [] order = tt
order-filter {X} R p (x ∷ xs) order = by (p x) (order-filter R p xs order.1)
  where
    by : (b : Bool) → InOrder R (filter p xs) → InOrder R (cond b (x ∷ filter p xs) (filter p xs))
    by true later = ((λ y is. order.0 y (filter-in p y xs is).there), later)
    by false later = later

pub order-map : {X Y : Type 0} (R : Y → Y → Type 0) (f : X → Y) (xs : List X) → InOrder (λ a b. R (f a) (f b)) xs → InOrder R (map f xs)
order-map R f [] order = tt
order-map R f (x ∷ xs) order =
    ((λ y is. let from = map-in f y xs is in subst (R (f x)) from.is (order.0 from.it from.there)), order-map R f xs order.1)

pub map-order : {X Y : Type 0} (R : Y → Y → Type 0) (f : X → Y) (xs : List X) → InOrder R (map f xs) → InOrder (λ a b. R (f a) (f b)) xs
map-order R f [] order = tt
map-order R f (x ∷ xs) order = ((λ y is. order.0 (f y) (in-map f y xs is)), map-order R f xs order.1)

pub order-weaker : {X : Type 0} (R S : X → X → Type 0) (xs : List X) → ((x y : X) → IsIn x xs → IsIn y xs → R x y → S x y) → InOrder R xs → InOrder S xs
order-weaker R S [] weaker order = tt
order-weaker R S (x ∷ xs) weaker order = (
  (λ y is. weaker x y (inl refl) (inr is) (order.0 y is)),
  order-weaker R S xs (λ a b one other. weaker a b (inr one) (inr other)) order.1,
)

-- Orders of parts of a list.
pub order-back : {X : Type 0} (R : X → X → Type 0) (xs ys : List X) → InOrder R (xs ++ ys) → InOrder R ys
order-back R [] ys order = order
order-back R (x ∷ xs) ys order = order-back R xs ys order.1

pub order-front : {X : Type 0} (R : X → X → Type 0) (xs ys : List X) → InOrder R (xs ++ ys) → InOrder R xs
order-front R [] ys order = tt
order-front R (x ∷ xs) ys order = ((λ y there. order.0 y (in-left y xs ys there)), order-front R xs ys order.1)

-- Two of a list in order: they are the same, or one stands before the other.
pub order-pair : {X : Type 0} (R : X → X → Type 0) (x y : X) (xs : List X) → InOrder R xs → IsIn x xs → IsIn y xs → (x ≡ y) ⊎ (R x y ⊎ R y x)
order-pair R x y [] order one other = absurd one
order-pair R x y (z ∷ zs) order one other = elim one [
  | inl first ↦ elim other [
    | inl second ↦ inl (sym first ∙ second)
    | inr later ↦ inr (inl (subst (λ a. R a y) first (order.0 y later)))
  ]
  | inr behind ↦ elim other [
    | inl second ↦ inr (inr (subst (λ a. R a x) second (order.0 x behind)))
    | inr later ↦ order-pair R x y zs order.1 behind later
  ]
]

-- Two lists in one strict order with the same elements are equal.
pub same-list : {X : Type 0} (R : X → X → Type 0) → ((x y : X) → R x y → R y x → ⊥) → (xs ys : List X) → InOrder R xs → InOrder R ys
    → ((z : X) → IsIn z xs → IsIn z ys) → ((z : X) → IsIn z ys → IsIn z xs) → xs ≡ ys
same-list R never [] [] one other there here = refl
same-list R never [] (y ∷ ys) one other there here = absurd (here y (inl refl))
same-list R never (x ∷ xs) [] one other there here = absurd (there x (inl refl))
same-list {X} R never (x ∷ xs) (y ∷ ys) one other there here =
    ap₂ (λ (a : X) (later : List X). a ∷ later) heads
    (same-list R never xs ys one.1 other.1
    (λ z is. elim (there z (inr is)) [
      | inl same ↦ let r : R x x = subst (R x) (sym same ∙ sym heads) (one.0 z is) in absurd (never x x r r)
      | inr later ↦ later
    ])
    (λ z is. elim (here z (inr is)) [
      | inl same ↦ let r : R y y = subst (R y) (sym same ∙ heads) (other.0 z is) in absurd (never y y r r)
      | inr later ↦ later
    ]))
  where
    heads : x ≡ y
    heads = elim (there x (inl refl)) [
      | inl same ↦ sym same
      | inr behind ↦ elim (here y (inl refl)) [
        | inl same ↦ same
        | inr later ↦ absurd (never x y (one.0 y later) (other.0 x behind))
      ]
    ]
