-- A page has as many rows as its height says.
use Rattle.std.proofs.Common.{◌≡◌, ℕ, ◌+◌, Bool, true, false, cond, List, [], ◌∷◌, ◌++◌, length, refl, arith, length-append}
use Rattle.std.specs.Prelude.{sum_by, replicate}
use Rattle.std.specs.List.{flat_map}
use Rattle.std.proofs.lemmas.List.{length-replicate}
use Rattle.std.proofs.lemmas.List.Sums.{sum_by-cons}
use Rattle.spec_script.specs.LongestRuns.{last_of}
use Rattle.spec_pages.specs.Pages.{continues_speech}
use Rattle.spec_sheets.specs.Shown.{Shown}
use Rattle.spec_sheets.specs.RowBytes.{ShownRow}
use Rattle.spec_sheets.specs.PageRows.{empty_row, starred, led, cue_above, more_row, goes_on, more_below, page_body, lead_of, page_height}

-- One row, or none.
length-if : {X : Type 0} (t : Bool) (x : X) → length (cond t (x ∷ []) []) ≡ cond t 1 0
length-if true x = refl
length-if false x = refl

pub length-led : (round : ℕ) (it : Shown) → length (led round it) ≡ lead_of it + 1
length-led round it =
    let whole = length-append (replicate it.shape.lead empty_row) (starred round it ∷ []) in
    let size = length-replicate it.shape.lead empty_row in
    omega (arith, whole, size)

-- Rows with their leads.
pub length-all-led : (round : ℕ) (rows : List Shown) → length (flat_map (led round) rows) ≡ length rows + sum_by lead_of rows
length-all-led round [] = refl
length-all-led round (it ∷ rows) =
    let whole = length-append (led round it) (flat_map (led round) rows) in
    let here = length-led round it in
    let later = length-all-led round rows in
    let sum = sum_by-cons lead_of it rows in
    omega (arith, whole, here, later, sum)

pub page_body-height : (round : ℕ) (rows : List Shown) → length (page_body round rows) ≡ page_height rows
page_body-height round [] = refl
page_body-height round (it ∷ more) =
    let below = more_below (last_of it more) in
    let middle = flat_map (led round) more in
    let whole = length-append (cue_above it) (starred round it ∷ (middle ++ below)) in
    let lower = length-append middle below in
    let above_size = length-if (continues_speech it.shape) cue_row in
    let below_size = length-if (goes_on (last_of it more).shape) more_row in
    let size = length-all-led round more in
    omega (arith, whole, lower, above_size, below_size, size)
  where
    cue_row : ShownRow
    cue_row = record { cells = it.cue; star = false }
