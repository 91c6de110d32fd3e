-- The rows of a page, one after the other (docs/RULES.md, "Sheets").
use Rattle.std.specs.Prelude.{ℕ, ◌≤◌, Option, Some, None, List, [], ◌∷◌, ◌++◌, length, replicate}
use Rattle.std.specs.List.{flat_map}
use Rattle.std.specs.Option.{option_to_list}
use Rattle.spec_script.specs.LongestRuns.{last_of}
use Rattle.spec_sheets.specs.Shown.{Shown}
use Rattle.spec_sheets.specs.RowBytes.{ShownRow}
use Rattle.spec_sheets.specs.PageRows.{empty_row, starred, led, more_below, page_body, omitted_rows}

-- The rows of a page from one of its rows on, and what stands below them.
abbrev pub rows_from : ℕ → Option Shown → List Shown → List ShownRow
rows_from round None later = []
rows_from round (Some it) later = starred round it ∷ (flat_map (led round) later ++ more_below (last_of it later))

-- A row that stands by itself, so many empty rows, and then the rows from one on.
abbrev pub slots : Option ShownRow → ℕ → Option Shown → List Shown → ℕ → List ShownRow
slots extra empty at later round = option_to_list extra ++ (replicate empty empty_row ++ rows_from round at later)

-- The rows of a sheet: those of a page, or the one of omitted pages.
abbrev pub lent_rows : ℕ → Option (List Shown) → List ShownRow
lent_rows round None = omitted_rows
lent_rows round (Some rows) = page_body round rows

-- There are no more rows than a text has.
abbrev pub IsFew : List Shown → Type 0
IsFew rows = length rows ≤ 16777216
