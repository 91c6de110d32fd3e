-- The sheets of a state by their places.
use Rattle.std.proofs.Common.{◌≡◌, ℕ, zero, suc, ◌+◌, ◌-◌, ◌<◌, ◌≤◌, List, [], ◌∷◌, ◌++◌, length, map, slice_get, get_or, refl, sym, ap, ◌∙◌, arith, length-append}
use Rattle.std.specs.Prelude.{Some, slice_range, slice_index_or, option_map}
use Rattle.std.proofs.lemmas.List.{length-map}
use Rattle.spec_text.proofs.ListLaws.{slice_get-front, slice_get-back}
use Rattle.spec_sheets.specs.Shown.{Shown}
use Rattle.spec_state.specs.State.{State}
use Rattle.spec_state.specs.StateSheets.{title_sheet, title_sheets, titles_in, title_starts, rows_in, body_sheets, shown_sheet, sheets_of_state}

pub length-title_sheets : (titles : List Shown) (starts : List ℕ) → length (title_sheets titles starts) ≡ length starts
length-title_sheets titles [] = refl
length-title_sheets titles (page ∷ later) = ap suc (length-title_sheets titles later)

-- The title sheet at a place.
pub title_sheets-get : (titles : List Shown) (starts : List ℕ) (i : ℕ) → i < length starts
    → slice_get (title_sheets titles starts) i ≡ Some (title_sheet (slice_range titles (get_or starts i 0) (slice_index_or starts (i + 1) (length titles))))
title_sheets-get titles [] i inside = absurd (omega (arith, inside))
title_sheets-get titles (page ∷ later) zero inside = refl
title_sheets-get titles (page ∷ later) (suc i) inside =
    let next : suc i + 1 ≡ suc (i + 1) = omega arith in
    title_sheets-get titles later i (omega (arith, inside))
    ∙ ap (λ n. Some (title_sheet (slice_range titles (get_or later i 0) (get_or (page ∷ later) n (length titles))))) (sym next)

get-map : {X Y : Type 0} (f : X → Y) (xs : List X) (i : ℕ) → slice_get (map f xs) i ≡ option_map f (slice_get xs i)
get-map f [] i = refl
get-map f (x ∷ xs) zero = refl
get-map f (x ∷ xs) (suc i) = get-map f xs i

-- How many sheets a state has.
pub length-sheets : (state : State) → length (sheets_of_state state) ≡ length (title_starts state) + length (body_sheets state)
length-sheets state =
    let all = length-append (title_sheets (titles_in state) (title_starts state)) (map (shown_sheet (rows_in state)) (body_sheets state)) in
    let titles = length-title_sheets (titles_in state) (title_starts state) in
    let body = length-map (body_sheets state) (shown_sheet (rows_in state)) in
    omega (arith, all, titles, body)

-- The sheet at a place of the title page.
pub sheets-title : (state : State) (i : ℕ) → i < length (title_starts state)
    → slice_get (sheets_of_state state) i ≡ Some (title_sheet (slice_range (titles_in state) (get_or (title_starts state) i 0) (slice_index_or (title_starts state) (i + 1) (length (titles_in state)))))
sheets-title state i inside =
    let titles = length-title_sheets (titles_in state) (title_starts state) in
    slice_get-front (title_sheets (titles_in state) (title_starts state)) (map (shown_sheet (rows_in state)) (body_sheets state)) i (omega (arith, inside, titles))
    ∙ title_sheets-get (titles_in state) (title_starts state) i inside

-- The sheet at a place behind the title page.
pub sheets-body : (state : State) (i : ℕ) → length (title_starts state) ≤ i
    → slice_get (sheets_of_state state) i ≡ option_map (shown_sheet (rows_in state)) (slice_get (body_sheets state) (i - length (title_starts state)))
sheets-body state i behind =
    let titles = title_sheets (titles_in state) (title_starts state) in
    let body = map (shown_sheet (rows_in state)) (body_sheets state) in
    let count = length-title_sheets (titles_in state) (title_starts state) in
    let at : length titles + (i - length (title_starts state)) ≡ i = omega (arith, behind, count) in
    ap (slice_get (titles ++ body)) (sym at)
    ∙ slice_get-back titles body (i - length (title_starts state))
    ∙ get-map (shown_sheet (rows_in state)) (body_sheets state) (i - length (title_starts state))
