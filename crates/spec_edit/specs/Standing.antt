-- Which elements stand in a segment (docs/RULES.md, "Windows").
use Rattle.std.specs.Prelude.{◌≡◌, ◌⊎◌, ℕ, ◌+◌, ◌-◌, ◌<◌, ◌≤◌, Bool, true, List, [], ◌∷◌, length}
use Rattle.spec_text.specs.Lines.{LineState}
use Rattle.spec_script.specs.LongestRuns.{Group}
use Rattle.spec_sheets.specs.Speakers.{Spoken}
use Rattle.spec_sheets.specs.Layout.{laid_out, in_body, rows_behind}

-- Row k is one of the segment of the rows from s to before e.
abbrev pub IsRowOf : ℕ → ℕ → ℕ → Type 0
IsRowOf s e k = (s ≤ k) × (k < e)

-- An element with so many rows, before which so many rows stand, stands in the segment: one of its rows does; or it has none, and
-- the last row before it does, or the first row behind it.
abbrev pub StandsIn : ℕ → ℕ → ℕ → ℕ → Type 0
StandsIn s e before rows =
    ((k : ℕ) × (before ≤ k) × (k < before + rows) × IsRowOf s e k)
    ⊎ ((rows ≡ 0) × (((0 < before) × IsRowOf s e (before - 1)) ⊎ IsRowOf s e before))

-- None of the touched elements of a text stands in the segment; so many rows stand before these elements. A title page stands
-- nowhere.
abbrev pub NoneStands : (Group Spoken → Bool) → List LineState → ℕ → ℕ → ℕ → List (Group Spoken) → Type 0
NoneStands touched lines s e before [] = Unit {0}
NoneStands touched lines s e before (it ∷ elements) =
    (in_body it ≡ true → touched it ≡ true → StandsIn s e before (length (laid_out lines it).rows) → ⊥)
    × NoneStands touched lines s e (rows_behind lines before it) elements
