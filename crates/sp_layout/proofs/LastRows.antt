-- The last of a line's rows.
use Rattle.std.proofs.Common.{◌≡◌, ℕ, ◌-◌, List, [], ◌∷◌, length, slice_get, Some, nat_eq, refl, ap, ◌∙◌, arith}
use Rattle.std.specs.List.{ends_with}
use Rattle.spec_script.specs.LongestRuns.{last_of}
use Rattle.spec_pages.specs.Wrapping.{WrappedRow}
use Rattle.spec_sheets.specs.Cells.{continued}
use Rattle.spec_sheets.specs.Speakers.{shown_text, last_row_continued}

last_of-get : (row : WrappedRow) (later : List WrappedRow) → slice_get (row ∷ later) (length later) ≡ Some (last_of row later)
last_of-get row [] = refl
last_of-get row (next ∷ later) = last_of-get next later

pub last_row-get : (text : List ℕ) (those : List WrappedRow) (row : WrappedRow) → Some row ≡ slice_get those (length those - 1)
    → ends_with nat_eq (shown_text text row.runs) continued ≡ last_row_continued text those
last_row-get text [] row at = cc
last_row-get text (next ∷ later) row at =
    let place : length (next ∷ later) - 1 ≡ length later = omega arith in
    let last : Some row ≡ Some (last_of next later) = at ∙ ap (slice_get (next ∷ later)) place ∙ last_of-get next later in
    let same : row ≡ last_of next later = cc in
    ap (λ (it : WrappedRow). ends_with nat_eq (shown_text text it.runs) continued) same
