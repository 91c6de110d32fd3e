-- Entries gathered one by one, and what is made of groups.
use Rattle.std.proofs.Common.{◌≡◌, ℕ, suc, ◌+◌, ◌||◌, Bool, true, false, not, cond, List, [], ◌∷◌, ◌++◌, filter, map, append-nil, refl, ap, ap₂, sym, ◌∙◌, inl, inr, arith}
use Rattle.std.specs.Prelude.{bytes_eq}
use Rattle.std.specs.List.{flat_map, list_any, position_or_len}
use Rattle.std.proofs.lemmas.List.{map-append}
use Rattle.indexmap.specs.IndexSet.{insert_key}
use Rattle.spec_cast.specs.Sides.{SaidOf, each_once, name_of, scene_of, scene_eq, scene_bytes, side_bytes, sides_of, spoken_in, scenes_in}
use Rattle.spec_cast.specs.Groups.{grouped, add_at, with_head, scene_of_group, side_of_group}
use Rattle.spec_cast.proofs.Counts.{TellsSame, IsIn, turned, names-tell, scenes-tell}
use Rattle.spec_cast.proofs.Inserting.{still, each_once-more, group-more}

-- A value stands among values each once where it stands among them all.
once-if : {X : Type 0} (same : X → X → Bool) → TellsSame same → (k y : X) (ys : List X) (t : Bool) → same k y ≡ t → list_any (same k) (each_once same ys) ≡ list_any (same k) ys
    → t || list_any (same k) (filter (λ z. not (same y z)) (each_once same ys)) ≡ t || list_any (same k) ys
once-if same tells k y ys true is rest = refl
once-if same tells k y ys false is rest = still same tells y k (each_once same ys) (turned same tells k y is) ∙ rest

any-once : {X : Type 0} (same : X → X → Bool) → TellsSame same → (k : X) (ys : List X) → list_any (same k) (each_once same ys) ≡ list_any (same k) ys
any-once same tells k [] = refl
any-once same tells k (y ∷ ys) = once-if same tells k y ys (same k y) refl (any-once same tells k ys)

-- ---- no value stands twice

abbrev pub IsOnce : {X : Type 0} → (X → X → Bool) → List X → Type 0
IsOnce same [] = Unit {0}
IsOnce same (x ∷ xs) = (list_any (same x) xs ≡ false) × IsOnce same xs

or-none : (a b : Bool) → a || b ≡ false → b ≡ false
or-none false b is = is
or-none true b is = cc

or-first : (a b : Bool) → a || b ≡ false → a ≡ false
or-first false b is = refl
or-first true b is = cc

-- What isn't among values isn't among some of them.
none-left : {X : Type 0} (p keep : X → Bool) (xs : List X) → list_any p xs ≡ false → list_any p (filter keep xs) ≡ false
none-left p keep [] none = refl
none-left p keep (x ∷ xs) none = by (keep x) (none-left p keep xs (or-none (p x) (list_any p xs) none))
  where
    by : (t : Bool) → list_any p (filter keep xs) ≡ false → list_any p (cond t (x ∷ filter keep xs) (filter keep xs)) ≡ false
    by true rest = ap (λ a. a || list_any p (filter keep xs)) (or-first (p x) (list_any p xs) none) ∙ rest
    by false rest = rest

once-left : {X : Type 0} (same : X → X → Bool) (keep : X → Bool) (xs : List X) → IsOnce same xs → IsOnce same (filter keep xs)
once-left same keep [] once = tt
once-left same keep (x ∷ xs) once = by (keep x) (once-left same keep xs once.1)
  where
    by : (t : Bool) → IsOnce same (filter keep xs) → IsOnce same (cond t (x ∷ filter keep xs) (filter keep xs))
    by true rest = (none-left (same x) keep xs once.0, rest)
    by false rest = rest

gone-once : {X : Type 0} (same : X → X → Bool) (x : X) (xs : List X) → list_any (same x) (filter (λ y. not (same x y)) xs) ≡ false
gone-once same x [] = refl
gone-once same x (y ∷ ys) = by (same x y) refl (gone-once same x ys)
  where
    by : (t : Bool) → same x y ≡ t → list_any (same x) (filter (λ z. not (same x z)) ys) ≡ false
        → list_any (same x) (cond (not t) (y ∷ filter (λ z. not (same x z)) ys) (filter (λ z. not (same x z)) ys)) ≡ false
    by true is rest = rest
    by false is rest = ap (λ a. a || list_any (same x) (filter (λ z. not (same x z)) ys)) is ∙ rest

each-once : {X : Type 0} (same : X → X → Bool) (xs : List X) → IsOnce same (each_once same xs)
each-once same [] = tt
each-once same (x ∷ xs) = (gone-once same x (each_once same xs), once-left same (λ y. not (same x y)) (each_once same xs) (each-once same xs))

-- ---- one more entry

-- No entry has a value that isn't among theirs.
no-entries : {X K : Type 0} (same : K → K → Bool) (key : X → K) (k : K) (xs : List X) → list_any (same k) (map key xs) ≡ false → filter (λ x. same k (key x)) xs ≡ []
no-entries same key k [] none = refl
no-entries same key k (x ∷ xs) none =
    ap (λ t. cond t (x ∷ filter (λ y. same k (key y)) xs) (filter (λ y. same k (key y)) xs)) (or-first (same k (key x)) (list_any (same k) (map key xs)) none)
    ∙ no-entries same key k xs (or-none (same k (key x)) (list_any (same k) (map key xs)) none)

-- The groups of other values stay.
others-stay : {X K : Type 0} (same : K → K → Bool) → TellsSame same → (g : K → List X) (v : K) (x : X) (ks : List K) → list_any (same v) ks ≡ false
    → map (λ k. g k ++ cond (same k v) (x ∷ []) []) ks ≡ map g ks
others-stay same tells g v x [] none = refl
others-stay same tells g v x (k ∷ ks) none =
    ap₂ (λ xs yss. xs ∷ yss)
    (ap (λ t. g k ++ cond t (x ∷ []) []) (turned same tells v k (or-first (same v k) (list_any (same v) ks) none)) ∙ append-nil (g k))
    (others-stay same tells g v x ks (or-none (same v k) (list_any (same v) ks) none))

-- An entry whose value is there joins its group.
joins-if : {X K : Type 0} (same : K → K → Bool) → TellsSame same → (g : K → List X) (v : K) (x : X) (k : K) (ks : List K) (t : Bool) → same v k ≡ t → list_any (same k) ks ≡ false
    → (list_any (same v) ks ≡ true → map (λ j. g j ++ cond (same j v) (x ∷ []) []) ks ≡ add_at (map g ks) (position_or_len (same v) ks) x)
    → t || list_any (same v) ks ≡ true
    → (g k ++ cond (same k v) (x ∷ []) []) ∷ map (λ j. g j ++ cond (same j v) (x ∷ []) []) ks ≡ add_at (g k ∷ map g ks) (cond (not t) (1 + position_or_len (same v) ks) 0) x
joins-if same tells g v x k ks true is once later there =
    let here = tells.equal v k is in
    ap₂ (λ xs yss. xs ∷ yss)
    (ap (λ t. g k ++ cond t (x ∷ []) []) (ap (same k) here ∙ tells.itself k))
    (others-stay same tells g v x ks (ap (λ w. list_any (same w) ks) here ∙ once))
joins-if same tells g v x k ks false is once later there =
    let next : 1 + position_or_len (same v) ks ≡ suc (position_or_len (same v) ks) = omega arith in
    ap₂ (λ xs yss. xs ∷ yss) (ap (λ t. g k ++ cond t (x ∷ []) []) (turned same tells v k is) ∙ append-nil (g k)) (later there)
    ∙ sym (ap (λ n. add_at (g k ∷ map g ks) n x) next)

joins : {X K : Type 0} (same : K → K → Bool) → TellsSame same → (g : K → List X) (v : K) (x : X) (ks : List K) → IsOnce same ks → list_any (same v) ks ≡ true
    → map (λ k. g k ++ cond (same k v) (x ∷ []) []) ks ≡ add_at (map g ks) (position_or_len (same v) ks) x
joins same tells g v x [] once there = cc
joins same tells g v x (k ∷ ks) once there = joins-if same tells g v x k ks (same v k) refl once.0 (joins same tells g v x ks once.1) there

-- One whose value isn't there begins a group.
begins-if : {X K : Type 0} (g : K → List X) (v k : K) (x : X) (rest : List (List X)) (groups : List (List X)) (n : ℕ) (t : Bool) → t ≡ false → rest ≡ add_at groups n x
    → g k ∷ rest ≡ add_at (g k ∷ groups) (cond (not t) (1 + n) 0) x
begins-if g v k x rest groups n false is same =
    let next : 1 + n ≡ suc n = omega arith in
    ap (λ yss. g k ∷ yss) same ∙ sym (ap (λ m. add_at (g k ∷ groups) m x) next)
begins-if g v k x rest groups n true is same = cc

begins : {X K : Type 0} (same : K → K → Bool) → TellsSame same → (g : K → List X) (v : K) (x : X) (ks : List K) → list_any (same v) ks ≡ false → g v ≡ []
    → map g ks ++ (g v ++ x ∷ []) ∷ [] ≡ add_at (map g ks) (position_or_len (same v) ks) x
begins same tells g v x [] none empty = ap (λ xs. (xs ++ x ∷ []) ∷ []) empty
begins same tells g v x (k ∷ ks) none empty =
    begins-if g v k x (map g ks ++ (g v ++ x ∷ []) ∷ []) (map g ks) (position_or_len (same v) ks) (same v k) (or-first (same v k) (list_any (same v) ks) none)
    (begins same tells g v x ks (or-none (same v k) (list_any (same v) ks) none) empty)

-- The groups, where one more entry stands behind.
pub grouped-more : {X K : Type 0} (same : K → K → Bool) → TellsSame same → (key : X → K) (xs : List X) (x : X)
    → grouped same key (xs ++ x ∷ []) ≡ add_at (grouped same key xs) (position_or_len (same (key x)) (each_once same (map key xs))) x
grouped-more {X = X} {K = K} same tells key xs x =
    ap (λ ks. map (λ k. filter (λ y. same k (key y)) (xs ++ x ∷ [])) (each_once same ks)) (map-append key xs (x ∷ []))
    ∙ ap (map (λ k. filter (λ y. same k (key y)) (xs ++ x ∷ []))) (each_once-more same tells (map key xs) v)
    ∙ each (insert_key same ks v) ∙ by (list_any (same v) ks) refl
  where
    v : K
    v = key x

    ks : List K
    ks = each_once same (map key xs)

    g : K → List X
    g = λ k. filter (λ y. same k (key y)) xs

    each : (js : List K) → map (λ k. filter (λ y. same k (key y)) (xs ++ x ∷ [])) js ≡ map (λ k. g k ++ cond (same k v) (x ∷ []) []) js
    each [] = refl
    each (j ∷ js) = ap₂ (λ ys yss. ys ∷ yss) (group-more same key xs x j) (each js)

    by : (t : Bool) → list_any (same v) ks ≡ t → map (λ k. g k ++ cond (same k v) (x ∷ []) []) (cond t ks (ks ++ v ∷ [])) ≡ add_at (map g ks) (position_or_len (same v) ks) x
    by true is = joins same tells g v x ks (each-once same (map key xs)) is
    by false is =
        map-append (λ k. g k ++ cond (same k v) (x ∷ []) []) ks (v ∷ [])
        ∙ ap₂ (λ yss ys. yss ++ ys ∷ []) (others-stay same tells g v x ks is) (ap (λ t. g v ++ cond t (x ∷ []) []) (tells.itself v))
        ∙ begins same tells g v x ks is (no-entries same key v xs (sym (any-once same tells v (map key xs)) ∙ is))

-- ---- what is made of groups

-- A value stands among some of the values that stand there.
in-left : {X : Type 0} (x : X) (keep : X → Bool) (ys : List X) → IsIn x (filter keep ys) → IsIn x ys
in-left x keep [] there = there
in-left x keep (y ∷ ys) there = by (keep y) (in-left x keep ys) there
  where
    by : (t : Bool) → (IsIn x (filter keep ys) → IsIn x ys) → IsIn x (cond t (y ∷ filter keep ys) (filter keep ys)) → IsIn x (y ∷ ys)
    by true later (inl is) = inl is
    by true later (inr rest) = inr (later rest)
    by false later rest = inr (later rest)

in-all : {X : Type 0} (same : X → X → Bool) (x : X) (ys : List X) → IsIn x (each_once same ys) → IsIn x ys
in-all same x [] there = there
in-all same x (y ∷ ys) (inl is) = inl is
in-all same x (y ∷ ys) (inr there) = inr (in-all same x ys (in-left x (λ z. not (same y z)) (each_once same ys) there))

-- The group of a value that stands there begins with an entry that has it.
head-is : {X K Y : Type 0} (same : K → K → Bool) → TellsSame same → (key : X → K) (made : K → List X → List Y) (k : K) (xs : List X) → IsIn k (map key xs)
    → with_head key made (filter (λ x. same k (key x)) xs) ≡ made k (filter (λ x. same k (key x)) xs)
head-is same tells key made k [] there = absurd there
head-is {X = X} {Y = Y} same tells key made k (x ∷ xs) there = by (same k (key x)) refl (head-is same tells key made k xs) there
  where
    rest : List X
    rest = filter (λ y. same k (key y)) xs

    by : (t : Bool) → same k (key x) ≡ t → (IsIn k (map key xs) → with_head key made rest ≡ made k rest) → IsIn k (key x ∷ map key xs) → with_head key made (cond t (x ∷ rest) rest) ≡ made k (cond t (x ∷ rest) rest)
    by true is later is_there = ap (λ j. made j (x ∷ rest)) (sym (tells.equal k (key x) is))
    by false is later (inl same_key) = let e : true ≡ false = sym (tells.itself k) ∙ ap (same k) same_key ∙ is in cc
    by false is later (inr others) = later others

pub made-groups : {X K Y : Type 0} (same : K → K → Bool) → TellsSame same → (key : X → K) (made : K → List X → List Y) (xs : List X)
    → flat_map (with_head key made) (grouped same key xs) ≡ flat_map (λ k. made k (filter (λ x. same k (key x)) xs)) (each_once same (map key xs))
made-groups {K = K} same tells key made xs = each (each_once same (map key xs)) (λ k there. in-all same k (map key xs) there)
  where
    each : (ks : List K) → ((k : K) → IsIn k ks → IsIn k (map key xs))
        → flat_map (with_head key made) (map (λ k. filter (λ x. same k (key x)) xs) ks) ≡ flat_map (λ k. made k (filter (λ x. same k (key x)) xs)) ks
    each [] there = refl
    each (k ∷ ks) there = ap₂ (λ ys zs. ys ++ zs) (head-is same tells key made k xs (there k (inl refl))) (each ks (λ j is. there j (inr is)))

-- The scenes of a side, and the sides of all names, by their groups.
pub scenes-grouped : (spoken : List SaidOf) → flat_map scene_of_group (grouped scene_eq scene_of spoken) ≡ flat_map (λ scene. scene_bytes scene (spoken_in spoken scene)) (scenes_in spoken)
scenes-grouped spoken = made-groups scene_eq scenes-tell scene_of scene_bytes spoken

pub sides-grouped : (all : List SaidOf) → flat_map side_of_group (grouped bytes_eq name_of all) ≡ sides_of all
sides-grouped all = made-groups bytes_eq names-tell name_of side_bytes all
