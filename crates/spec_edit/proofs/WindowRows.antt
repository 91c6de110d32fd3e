-- Telling windows (docs/RULES.md, "Pages").
use Rattle.std.proofs.Common.{◌≡◌, ℕ, zero, suc, false, List, [], ◌∷◌, refl}
use Rattle.spec_pages.specs.declared.RowKind.TheVariants.{Action}
use Rattle.spec_pages.specs.declared.Shape.{Shape}
use Rattle.spec_pages.specs.Pages.{page_starts}
use Rattle.spec_edit.specs.PageWindows.{page_window, settled_starts}

-- So many rows of action, each an element with a lead of 1.
abbrev single_rows : ℕ → List Shape
single_rows zero = []
single_rows (suc count) = record { lead = 1; kind = Action; index = 0; rest = 0; sentence_end = false } ∷ single_rows count

-- 108 rows of action have four pages, since 27 rows and 26 leads are 53.
pub four_pages : page_starts 54 (single_rows 108) [] ≡ 0 ∷ 27 ∷ 54 ∷ 81 ∷ []
four_pages = refl

-- A change of row 60 alone fills two of them, row 61 being the one behind it.
pub two_filled : page_window 54 (record { first = 60; old = 2; new = 2 }) (0 ∷ 27 ∷ 54 ∷ 81 ∷ []) (0 ∷ 27 ∷ 54 ∷ 81 ∷ []) ≡ 27 ∷ 54 ∷ []
two_filled = refl

-- A page of the old length at another place isn't settled: a row put in before row 60 leaves the pages of 27 rows, and all are filled.
pub all_filled : page_window 54 (record { first = 60; old = 1; new = 2 }) (0 ∷ 27 ∷ 54 ∷ 81 ∷ []) (0 ∷ 27 ∷ 54 ∷ 81 ∷ 108 ∷ []) ≡ 27 ∷ 54 ∷ 81 ∷ 108 ∷ []
all_filled = refl

-- With a page break before row 70, which the row put in moves to 71, the pages behind it stay.
pub stop_settles : page_window 54 (record { first = 60; old = 1; new = 2 }) (0 ∷ 27 ∷ 54 ∷ 70 ∷ 97 ∷ []) (0 ∷ 27 ∷ 54 ∷ 71 ∷ 98 ∷ []) ≡ 27 ∷ 54 ∷ []
stop_settles = refl

pub stop_keeps : settled_starts 54 (record { first = 60; old = 1; new = 2 }) (0 ∷ 27 ∷ 54 ∷ 70 ∷ 97 ∷ []) (0 ∷ 27 ∷ 54 ∷ 71 ∷ 98 ∷ []) ≡ 70 ∷ 97 ∷ []
stop_keeps = refl
