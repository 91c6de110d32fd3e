-- Entries gathered by a value that they have, in order of the first of each (docs/RULES.md, "Cast sides").
use Rattle.std.specs.Prelude.{ℕ, zero, suc, Bool, List, [], ◌∷◌, ◌++◌, map, filter}
use Rattle.spec_cast.specs.Sides.{SaidOf, each_once, name_of, scene_of, scene_bytes, side_bytes}

-- The entries of each value.
abbrev pub grouped : {X K : Type 0} → (K → K → Bool) → (X → K) → List X → List (List X)
grouped same key xs = map (λ k. filter (λ x. same k (key x)) xs) (each_once same (map key xs))

-- One more entry in the group at a place, or in a group of its own behind all.
abbrev pub add_at : {X : Type 0} → List (List X) → ℕ → X → List (List X)
add_at [] n x = (x ∷ []) ∷ []
add_at (group ∷ groups) zero x = (group ++ x ∷ []) ∷ groups
add_at (group ∷ groups) (suc n) x = group ∷ add_at groups n x

-- What is made of a group and the value of its first entry; nothing of an empty one.
abbrev pub with_head : {X K Y : Type 0} → (X → K) → (K → List X → List Y) → List X → List Y
with_head key made [] = []
with_head key made (x ∷ xs) = made (key x) (x ∷ xs)

-- A scene and a side, by the speeches gathered there.
abbrev pub scene_of_group : List SaidOf → List ℕ
scene_of_group there = with_head scene_of scene_bytes there

abbrev pub side_of_group : List SaidOf → List ℕ
side_of_group spoken = with_head name_of side_bytes spoken
