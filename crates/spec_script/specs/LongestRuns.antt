-- A list cut into its longest runs (docs/RULES.md, "Stanzas", "Blocks" and "Title page").
use Rattle.std.specs.Prelude.{◌≡◌, ℕ, suc, Bool, true, false, List, [], ◌∷◌, flat_map, if◌then◌else◌}

-- A run: it has a first element.
pub record Group (X : Type 0) : Type 0 where
  pub first : X
  pub more : List X

-- The elements of a run.
abbrev pub members : {X : Type 0} → Group X → List X
members group = group.first ∷ group.more

-- The last element of x followed by the others.
abbrev pub last_of : {X : Type 0} → X → List X → X
last_of x [] = x
last_of x (y ∷ ys) = last_of y ys

-- Each element joins the next, from x on.
abbrev pub Together : {X : Type 0} → (X → X → Bool) → X → List X → Type 0
Together joins x [] = Unit {0}
Together joins x (y ∷ ys) = (joins x y ≡ true) × Together joins y ys

-- In each run, each element joins the next.
abbrev pub AllTogether : {X : Type 0} → (X → X → Bool) → List (Group X) → Type 0
AllTogether joins [] = Unit {0}
AllTogether joins (g ∷ gs) = Together joins g.first g.more × AllTogether joins gs

-- The last element of each run doesn't join the first of the next.
abbrev pub Apart : {X : Type 0} → (X → X → Bool) → List (Group X) → Type 0
Apart joins [] = Unit {0}
Apart joins (g ∷ []) = Unit {0}
Apart joins (g ∷ h ∷ gs) = (joins (last_of g.first g.more) h.first ≡ false) × Apart joins (h ∷ gs)

-- The groups are the longest runs of the list: they are the whole list, neighbours in a run join, neighbours of two runs don't.
pub record AreRuns {X : Type 0} (joins : X → X → Bool) (xs : List X) (groups : List (Group X)) : Type 0 where
  pub all : flat_map members groups ≡ xs
  pub together : AllTogether joins groups
  pub apart : Apart joins groups

-- The runs of x followed by a list with these runs.
abbrev pub in_front : {X : Type 0} → (X → X → Bool) → X → List (Group X) → List (Group X)
in_front joins x [] = record { first = x; more = [] } ∷ []
in_front joins x (g ∷ gs) =
    if joins x g.first then record { first = x; more = members g } ∷ gs else record { first = x; more = [] } ∷ g ∷ gs

-- The longest runs of a list, computed from its end.
abbrev pub longest_runs : {X : Type 0} → (X → X → Bool) → List X → List (Group X)
longest_runs joins [] = []
longest_runs joins (x ∷ xs) = in_front joins x (longest_runs joins xs)

-- How many elements follow x in its run.
abbrev pub run_more : {X : Type 0} → (X → X → Bool) → X → List X → ℕ
run_more joins x [] = 0
run_more joins x (y ∷ ys) = if joins x y then suc (run_more joins y ys) else 0

-- How long the first run is.
abbrev pub run_len : {X : Type 0} → (X → X → Bool) → List X → ℕ
run_len joins [] = 0
run_len joins (x ∷ xs) = suc (run_more joins x xs)
