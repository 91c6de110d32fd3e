-- Rows and breaks of texts one behind the other.
use Rattle.std.proofs.Common.{◌≡◌, ℕ, suc, ◌+◌, List, [], ◌∷◌, ◌++◌, length, map, refl, ap, ◌∙◌, arith}
use Rattle.std.proofs.lemmas.List.{map-append}
use Rattle.spec_sheets.specs.Shown.{Shown, shape_of}
use Rattle.spec_edit.specs.Items.{Sight, page_break, row, rows_among, shapes_among, breaks_among}

pub rows_among-append : (xs ys : List Sight) → rows_among (xs ++ ys) ≡ rows_among xs ++ rows_among ys
rows_among-append [] ys = refl
rows_among-append (page_break ∷ xs) ys = rows_among-append xs ys
rows_among-append (row it ∷ xs) ys = ap (λ (zs : List Shown). it ∷ zs) (rows_among-append xs ys)

pub shapes_among-append : (xs ys : List Sight) → shapes_among (xs ++ ys) ≡ shapes_among xs ++ shapes_among ys
shapes_among-append xs ys = ap (map shape_of) (rows_among-append xs ys) ∙ map-append shape_of (rows_among xs) (rows_among ys)

pub breaks_among-append : (count : ℕ) (xs ys : List Sight) → breaks_among count (xs ++ ys) ≡ breaks_among count xs ++ breaks_among (count + length (shapes_among xs)) ys
breaks_among-append count [] ys = let e : count ≡ count + 0 = omega arith in ap (λ n. breaks_among n ys) e
breaks_among-append count (page_break ∷ xs) ys = ap (λ (zs : List ℕ). count ∷ zs) (breaks_among-append count xs ys)
breaks_among-append count (row it ∷ xs) ys =
    let e : count + 1 + length (shapes_among xs) ≡ count + suc (length (shapes_among xs)) = omega arith in
    breaks_among-append (count + 1) xs ys ∙ ap (λ n. breaks_among (count + 1) xs ++ breaks_among n ys) e
