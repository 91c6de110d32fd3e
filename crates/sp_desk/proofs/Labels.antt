-- One more of the values that stand for those of a list.
use Rattle.std.proofs.Common.{◌≡◌, ◌+◌, ◌≤◌, List, [], ◌∷◌, ◌++◌, map, length, take, get_or, sym, ap, ◌∙◌, arith}
use Rattle.std.specs.Prelude.{Some, slice_get}
use Rattle.std.proofs.lemmas.List.{length-append, map-append, take_more}
use Rattle.std.proofs.lemmas.Option.{slice_get_within, get_or_from_slice_get}

-- The values so far stand for the first of the list.
pub record AreFirst {X Y Z : Type 0} (f : X → Z) (g : Y → Z) (xs : List X) (ys : List Y) : Type 0 where
  pub few : length xs ≤ length ys
  pub same : map f xs ≡ map g (take (length xs) ys)

pub first-more : {X Y Z : Type 0} (f : X → Z) (g : Y → Z) (xs : List X) (ys : List Y) (x : X) (y : Y) → AreFirst f g xs ys → slice_get ys (length xs) ≡ Some y → f x ≡ g y → AreFirst f g (xs ++ x ∷ []) ys
first-more f g xs ys x y first at is =
    let inside = slice_get_within ys (length xs) y at in
    let count : length (xs ++ x ∷ []) ≡ length xs + 1 = length-append xs (x ∷ []) in
    record {
      few = omega (arith, count, inside);
      same =
          map-append f xs (x ∷ [])
          ∙ ap (λ zs. zs ++ f x ∷ []) first.same
          ∙ ap (λ z. map g (take (length xs) ys) ++ z ∷ []) (is ∙ ap g (sym (get_or_from_slice_get ys (length xs) y y at)))
          ∙ sym (map-append g (take (length xs) ys) (get_or ys (length xs) y ∷ []))
          ∙ ap (map g) (sym (take_more ys (length xs) y inside))
          ∙ ap (λ n. map g (take n ys)) (sym count);
    }
