-- The rows below the header of a page, by the page's own rows (docs/RULES.md, "Sheets").
use Rattle.std.specs.Prelude.{ℕ, ◌+◌, ◌==◌, ◌&&◌, nat_lt, Bool, false, if◌then◌else◌, List, [], ◌∷◌, ◌++◌, length, sum_by, codes, replicate}
use Rattle.std.specs.List.{flat_map}
use Rattle.spec_script.specs.LongestRuns.{last_of}
use Rattle.spec_pages.specs.Pages.{continues_speech}
pub use Rattle.spec_pages.specs.Pages.{goes_on}
use Rattle.spec_sheets.specs.Cells.{fixed_cell}
use Rattle.spec_sheets.specs.Shown.{Shown}
use Rattle.spec_sheets.specs.RowBytes.{ShownRow}

abbrev pub empty_row : ShownRow
empty_row = record { cells = []; star = false }

-- The row was changed in this round.
abbrev pub has_star : ℕ → ℕ → Bool
has_star round mark = nat_lt 0 mark && (mark == round)

-- The row as a sheet of this round shows it.
abbrev pub starred : ℕ → Shown → ShownRow
starred round it = record { cells = it.cells; star = has_star round it.mark }

-- The row with its lead, as empty rows before it.
abbrev pub led : ℕ → Shown → List ShownRow
led round it = replicate it.shape.lead empty_row ++ starred round it ∷ []

-- The cue stands again above a page that goes on with a speech.
abbrev pub cue_above : Shown → List ShownRow
cue_above it = if continues_speech it.shape then record { cells = it.cue; star = false } ∷ [] else []

abbrev pub more_row : ShownRow
more_row = record { cells = fixed_cell 37 (codes "(MORE)") ∷ []; star = false }

-- `(MORE)` stands below a page behind whose last row its speech goes on.
abbrev pub more_below : Shown → List ShownRow
more_below it = if goes_on it.shape then more_row ∷ [] else []

-- The rows of a page with these rows: the first without its lead.
abbrev pub page_body : ℕ → List Shown → List ShownRow
page_body round [] = []
page_body round (it ∷ more) = cue_above it ++ (starred round it ∷ (flat_map (led round) more ++ more_below (last_of it more)))

abbrev pub lead_of : Shown → ℕ
lead_of it = it.shape.lead

-- The row that a speech takes above a page that goes on with it, and below one behind which it goes on.
abbrev pub height_above : Shown → ℕ
height_above it = if continues_speech it.shape then 1 else 0

abbrev pub height_below : Shown → ℕ
height_below it = if goes_on it.shape then 1 else 0

-- How many rows a page with these rows has: the rows, the leads of all but the first, and what a cut speech takes at both ends.
abbrev pub page_height : List Shown → ℕ
page_height [] = 0
page_height (it ∷ more) = length (it ∷ more) + sum_by lead_of more + height_above it + height_below (last_of it more)

-- The one row of a sheet that stands for omitted pages.
abbrev pub omitted_rows : List ShownRow
omitted_rows = record { cells = fixed_cell 15 (codes "OMITTED") ∷ []; star = false } ∷ []
