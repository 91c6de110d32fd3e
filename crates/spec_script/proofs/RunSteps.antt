-- The first of a list's longest runs, by whether its first two elements join; and the longest runs of a mapped list.
use Rattle.std.proofs.Common.{◌≡◌, Bool, true, false, cond, List, [], ◌∷◌, map, ap, ◌∙◌, refl}
use Rattle.spec_script.specs.LongestRuns.{Group, members, in_front, longest_runs}

-- A run alone, and one of two.
abbrev pub one_alone : {X : Type 0} → X → Group X
one_alone x = record { first = x; more = [] }

abbrev pub two_together : {X : Type 0} → X → X → Group X
two_together x y = record { first = x; more = y ∷ [] }

-- An element that doesn't join the first of the runs behind it stands alone.
alone-front : {X : Type 0} (joins : X → X → Bool) (x : X) (groups : List (Group X)) → ((y : X) → joins x y ≡ false) → in_front joins x groups ≡ one_alone x ∷ groups
alone-front joins x [] apart = refl
alone-front joins x (g ∷ groups) apart = ap (λ t. cond t (record { first = x; more = members g } ∷ groups) (one_alone x ∷ g ∷ groups)) (apart g.first)

-- The first two join, and the second joins nothing.
pub longest_runs-pair : {X : Type 0} (joins : X → X → Bool) (x y : X) (later : List X) → joins x y ≡ true → ((z : X) → joins y z ≡ false)
    → longest_runs joins (x ∷ y ∷ later) ≡ two_together x y ∷ longest_runs joins later
longest_runs-pair joins x y later both last =
    ap (in_front joins x) (alone-front joins y (longest_runs joins later) last)
    ∙ ap (λ t. cond t (two_together x y ∷ longest_runs joins later) (one_alone x ∷ one_alone y ∷ longest_runs joins later)) both

-- The first two don't join.
next-front : {X : Type 0} (joins : X → X → Bool) (x y : X) (groups : List (Group X)) → joins x y ≡ false
    → in_front joins x (in_front joins y groups) ≡ one_alone x ∷ in_front joins y groups
next-front joins x y [] apart = ap (λ t. cond t (two_together x y ∷ []) (one_alone x ∷ one_alone y ∷ [])) apart
next-front {X} joins x y (g ∷ groups) apart = next-if (joins y g.first)
  where
    next-if : (t : Bool) → in_front joins x (cond t (record { first = y; more = members g } ∷ groups) (one_alone y ∷ g ∷ groups))
        ≡ one_alone x ∷ cond t (record { first = y; more = members g } ∷ groups) (one_alone y ∷ g ∷ groups)
    next-if true = ap (λ t. cond t (record { first = x; more = y ∷ members g } ∷ groups) (one_alone x ∷ record { first = y; more = members g } ∷ groups)) apart
    next-if false = ap (λ t. cond t (two_together x y ∷ g ∷ groups) (one_alone x ∷ one_alone y ∷ g ∷ groups)) apart

pub longest_runs-alone : {X : Type 0} (joins : X → X → Bool) (x y : X) (later : List X) → joins x y ≡ false
    → longest_runs joins (x ∷ y ∷ later) ≡ one_alone x ∷ longest_runs joins (y ∷ later)
longest_runs-alone joins x y later apart = next-front joins x y (longest_runs joins later) apart

-- A run of mapped elements.
abbrev pub map_group : {X Y : Type 0} → (X → Y) → Group X → Group Y
map_group f group = record { first = f group.first; more = map f group.more }

front-map : {X Y : Type 0} (f : X → Y) (joins : Y → Y → Bool) (x : X) (groups : List (Group X))
    → map (map_group f) (in_front (λ one other. joins (f one) (f other)) x groups) ≡ in_front joins (f x) (map (map_group f) groups)
front-map f joins x [] = refl
front-map f joins x (g ∷ groups) = by (joins (f x) (f g.first))
  where
    by : (t : Bool) → map (map_group f) (cond t (record { first = x; more = members g } ∷ groups) (one_alone x ∷ g ∷ groups))
        ≡ cond t (record { first = f x; more = members (map_group f g) } ∷ map (map_group f) groups) (one_alone (f x) ∷ map_group f g ∷ map (map_group f) groups)
    by true = refl
    by false = refl

-- The longest runs of a mapped list are those of the list, mapped.
pub longest_runs-map : {X Y : Type 0} (f : X → Y) (joins : Y → Y → Bool) (xs : List X)
    → map (map_group f) (longest_runs (λ one other. joins (f one) (f other)) xs) ≡ longest_runs joins (map f xs)
longest_runs-map f joins [] = refl
longest_runs-map f joins (x ∷ xs) =
    front-map f joins x (longest_runs (λ one other. joins (f one) (f other)) xs) ∙ ap (in_front joins (f x)) (longest_runs-map f joins xs)
