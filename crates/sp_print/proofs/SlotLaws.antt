-- How many rows a page has, row by row.
use Rattle.std.proofs.Common.{◌≡◌, ℕ, ◌+◌, ◌<◌, cond, Option, Some, None, List, [], ◌∷◌, length, map, drop, refl, ap, sym, arith}
use Rattle.std.specs.Prelude.{MatchOption, sum_by}
use Rattle.std.proofs.lemmas.List.Sums.{sum_by-cons}
use Rattle.spec_script.specs.LongestRuns.{last_of}
use Rattle.spec_pages.specs.declared.Shape.{Shape}
use Rattle.spec_pages.specs.Pages.{goes_on}
use Rattle.spec_sheets.specs.Shown.{Shown, shape_of}
use Rattle.spec_sheets.specs.PageRows.{lead_of, height_above, page_height}
use Rattle.sp_print.proofs.Places.{drop-none, drop-step}

-- The shape of the last row.
last-shape : (it : Shown) (rows : List Shown) → (last_of it rows).shape ≡ last_of it.shape (map shape_of rows)
last-shape it [] = refl
last-shape it (next ∷ rows) = last-shape next rows

-- How many rows these and what stands below them take, behind a row with this shape.
abbrev pub height_from : Shape → List Shown → ℕ
height_from last rows = length rows + sum_by lead_of rows + cond (goes_on (last_of last (map shape_of rows))) 1 0

pub height-first : (it : Shown) (rows : List Shown) → page_height (it ∷ rows) ≡ height_above it + 1 + height_from it.shape rows
height-first it rows =
    let below : Shape → ℕ = λ shape. cond (goes_on shape) 1 0 in
    let last = ap below (last-shape it rows) in
    omega (arith, last)

pub height-next : (last : Shape) (it : Shown) (rows : List Shown) → height_from last (it ∷ rows) ≡ lead_of it + 1 + height_from it.shape rows
height-next last it rows =
    let sum = sum_by-cons lead_of it rows in
    omega (arith, sum)

-- A step of a walk that is not at its end.
pub next-step : {X : Type 0} (xs : List X) (i : ℕ) (next : Option X) (rest : List X) → i < length xs → MatchOption next (drop i xs ≡ []) (λ x. drop i xs ≡ x ∷ rest) → rest ≡ drop (i + 1) xs
next-step xs i None rest inside none = absurd (let past = drop-none xs i none in omega (arith, past, inside))
next-step xs i (Some x) rest inside some = sym ((drop-step xs i x rest some).behind)
