-- Changes of a text, and where a range stands after them (docs/RULES.md, "The room").
use Rattle.std.specs.Prelude.{◌≡◌, ℕ, ◌+◌, ◌-◌, nat_le, Result, Ok, Err, List, [], ◌∷◌, ◌++◌, length, if◌then◌else◌}
use Rattle.spec_text.specs.Lines.{LineState}
use Rattle.spec_text.specs.Ranges.{RangeOf}

-- The lines of a text.
abbrev pub Text : Type 0
Text = List LineState

-- The change that takes a change back.
abbrev pub turned : RangeOf → RangeOf
turned change = record { first = change.first; old = change.new; new = change.old }

-- The new text is the old one, but that at the change's place the lines that it takes away stand no longer and those that it puts
-- there do. Lines are compared with id, mark and text.
pub record Changes (change : RangeOf) (old new : Text) : Type 0 where
  pub front : Text
  pub gone : Text
  pub come : Text
  pub back : Text
  pub was : old ≡ front ++ (gone ++ back)
  pub is : new ≡ front ++ (come ++ back)
  pub first : length front ≡ change.first
  pub taken : length gone ≡ change.old
  pub put : length come ≡ change.new

-- Where `count` lines at `first` stand after these changes, or the version that the first change in their way made. The version before
-- the changes is `seen`, and each change raises it by one.
abbrev pub place_of : ℕ → ℕ → ℕ → List RangeOf → Result ℕ ℕ
place_of seen first count [] = Ok first
place_of seen first count (change ∷ changes) =
    if nat_le (change.first + change.old) first then place_of (seen + 1) (first + change.new - change.old) count changes
    else (if nat_le (first + count) change.first then place_of (seen + 1) first count changes
    else Err (seen + 1))

-- How many lines there were before these changes, where there are `lines` after them.
abbrev pub lines_then : ℕ → List RangeOf → ℕ
lines_then lines [] = lines
lines_then lines (change ∷ changes) = lines_then lines changes - change.new + change.old
