-- What a loop over items makes of each of them.
use Rattle.std.proofs.Common.{◌≡◌, ℕ, ◌+◌, ◌<◌, List, [], ◌∷◌, ◌++◌, map, length, drop, get_or, sym, ap, ◌∙◌, append_assoc}
use Rattle.std.proofs.lemmas.List.{drop_more}

-- What is made of one item more.
pub each-more : {X A : Type 0} (f : X → A) (items : List X) (i : ℕ) (item : X) (made : A) (done more all : List A) → i < length items → item ≡ get_or items i item → made ≡ f item → more ≡ done ++ made ∷ [] → done ++ map f (drop i items) ≡ all → more ++ map f (drop (i + 1) items) ≡ all
each-more f items i item made done more all inside is told pushed same =
    let rest = map f (drop (i + 1) items) in
    let here : drop i items ≡ item ∷ drop (i + 1) items = drop_more items i item inside ∙ ap (λ x. x ∷ drop (i + 1) items) (sym is) in
    ap (λ l. l ++ rest) (pushed ∙ ap (λ x. done ++ x ∷ []) told) ∙ append_assoc done (f item ∷ []) rest ∙ sym (ap (λ xs. done ++ map f xs) here) ∙ same
