-- The lines that an edit replaces (docs/RULES.md, "Edits").
use Rattle.std.specs.Prelude.{◌⊎◌, ℕ, ◌+◌, ◌-◌, ◌<◌, ◌≤◌, nat_lt, if◌then◌else◌, length}
use Rattle.spec_text.specs.Edits.{Replacement}

-- What an edit replaces: so many lines from a place on, by so many others.
pub record RangeOf : Type 0 where
  pub first : ℕ
  pub old : ℕ
  pub new : ℕ

abbrev pub range_of : Replacement → RangeOf
range_of it = record { first = it.first; old = it.old; new = length it.texts }

-- The place stands before the lines that an edit replaces, or behind them.
abbrev pub IsOutside : RangeOf → ℕ → Type 0
IsOutside range place = (place < range.first) ⊎ (range.first + range.old ≤ place)

-- Where a line that an edit leaves stands after it.
abbrev pub place_after : RangeOf → ℕ → ℕ
place_after range place = if nat_lt place range.first then place else place + range.new - range.old
