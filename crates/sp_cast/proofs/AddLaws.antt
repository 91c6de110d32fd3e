-- One more entry in a group.
use Rattle.std.proofs.Common.{◌≡◌, ℕ, zero, suc, ◌<◌, List, [], ◌∷◌, ◌++◌, length, get_or, refl, ap, arith}
use Rattle.std.specs.Prelude.{slice_set}
use Rattle.spec_cast.specs.Groups.{add_at}

-- The group at a place with one more entry.
pub add_at-inside : {X : Type 0} (groups : List (List X)) (place : ℕ) (d : List X) (x : X) → place < length groups → slice_set groups place (get_or groups place d ++ x ∷ []) ≡ add_at groups place x
add_at-inside [] place d x low = absurd (omega (arith, low))
add_at-inside (group ∷ groups) zero d x low = refl
add_at-inside (group ∷ groups) (suc place) d x low = ap (λ gs. group ∷ gs) (add_at-inside groups place d x (omega (arith, low)))

-- A group behind all.
pub add_at-behind : {X : Type 0} (groups : List (List X)) (place : ℕ) (x : X) → place ≡ length groups → groups ++ (x ∷ []) ∷ [] ≡ add_at groups place x
add_at-behind [] zero x is = refl
add_at-behind [] (suc place) x is = cc
add_at-behind (group ∷ groups) zero x is = cc
add_at-behind (group ∷ groups) (suc place) x is = ap (λ gs. group ∷ gs) (add_at-behind groups place x (omega (arith, is)))
