-- Lists by places.
use Rattle.std.proofs.Common.{◌≡◌, ℕ, ◌+◌, ◌-◌, ◌≤◌, ◌<◌, List, ◌++◌, length, map, get_or, slice_get, ap, sym, ◌∙◌, subst, arith}
use Rattle.std.specs.Prelude.{All}
use Rattle.std.proofs.lemmas.List.{length-map, get_or-map}
use Rattle.spec_text.proofs.ListLaws.{slice_get-back}

pub slice_get-past : {X : Type 0} (xs ys : List X) (k n : ℕ) → length xs ≡ n → n ≤ k → slice_get (xs ++ ys) k ≡ slice_get ys (k - n)
slice_get-past xs ys k n size past =
    let e : k ≡ length xs + (k - n) = omega (arith, size, past) in
    ap (slice_get (xs ++ ys)) e ∙ slice_get-back xs ys (k - n)

-- What holds of the images of elements holds of that of the one at a place.
pub All-image : {X Y : Type 0} (P : Y → Type 0) (f : X → Y) (xs : List X) (i : ℕ) (x : X) → All P (map f xs) → i < length xs → x ≡ get_or xs i x → P (f x)
All-image P f xs i x all inside is =
    let size = length-map xs f in
    subst P (get_or-map f xs i x (f x) inside ∙ ap f (sym is)) (all i (f x) (omega (arith, inside, size)))
