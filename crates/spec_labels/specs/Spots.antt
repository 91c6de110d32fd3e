-- Places of rows in a text, and what an edit does to them (docs/RULES.md, "Page records").
use Rattle.std.specs.Prelude.{◌≡◌, ℕ, ◌+◌, ◌-◌, min, Bool, false, ◌&&◌, ◌||◌, not, ◌==◌, nat_lt, if◌then◌else◌}
use Rattle.spec_text.specs.Ranges.{RangeOf, IsOutside, place_after}

-- Where a row stands: the place of its line, and its number in that line.
pub record Spot : Type 0 where
  pub place : ℕ
  pub row : ℕ

-- One spot is before another.
abbrev pub is_ahead : Spot → Spot → Bool
is_ahead one other = nat_lt one.place other.place || ((one.place == other.place) && nat_lt one.row other.row)

-- One spot isn't behind another.
abbrev pub AtMost : Spot → Spot → Type 0
AtMost one other = is_ahead other one ≡ false

-- A segment: the spots from its low one on, and before its high one.
pub record Bounds : Type 0 where
  pub low : Spot
  pub high : Spot

abbrev pub is_within : Bounds → Spot → Bool
is_within bounds spot = not (is_ahead spot bounds.low) && is_ahead spot bounds.high

-- Where a row of a line that an edit leaves stands after it.
abbrev pub spot_after : RangeOf → Spot → Spot
spot_after range spot = record { place = place_after range spot.place; row = spot.row }

-- Where an anchor stands after an edit: a paired line keeps its place, and one that is gone gives it to the line that follows.
abbrev pub anchor_after : RangeOf → Spot → Spot
anchor_after range spot =
    if nat_lt spot.place (range.first + min range.old range.new) then spot
    else (if nat_lt spot.place (range.first + range.old) then record { place = range.first + range.new; row = 0 }
    else record { place = spot.place + range.new - range.old; row = spot.row })

-- After an edit, the rows that it leaves are before the new spot just where they were before the old one.
pub record Follows (range : RangeOf) (old new : Spot) : Type 0 where
  pub same : (spot : Spot) → IsOutside range spot.place → is_ahead (spot_after range spot) new ≡ is_ahead spot old

-- Both ends of a segment follow an edit.
pub record BoundsFollow (range : RangeOf) (old new : Bounds) : Type 0 where
  pub low : Follows range old.low new.low
  pub high : Follows range old.high new.high
