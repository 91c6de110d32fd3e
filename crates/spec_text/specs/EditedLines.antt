-- The lines of a text after an edit, place by place (docs/RULES.md, "Edits").
use Rattle.std.specs.Prelude.{◌≡◌, ◌≢◌, ℕ, ◌+◌, ◌-◌, ◌<◌, ◌≤◌, min, List, [], length, slice_index_or, All, AllPairs}
use Rattle.spec_text.specs.Limits.{id_limit}
use Rattle.spec_text.specs.Lines.{LineState}
use Rattle.spec_text.specs.Ranges.{RangeOf}

abbrev pub no_line : LineState
no_line = record { id = 0; mark = 0; text = [] }

-- The line at a place.
abbrev pub line_of : List LineState → ℕ → LineState
line_of lines k = slice_index_or lines k no_line

-- Ids are distinct and below the next, which keeps the limit.
pub record HasIds (next : ℕ) (lines : List LineState) : Type 0 where
  pub distinct : AllPairs (λ (one other : LineState). one.id ≢ other.id) lines
  pub below : All (λ (line : LineState). line.id < next) lines
  pub limit : next ≤ id_limit

-- The lines before the range and behind it stay, those paired in it keep their ids, and the ids of the others are new.
pub record IsEdited (range : RangeOf) (next : ℕ) (old new : List LineState) : Type 0 where
  pub inside : range.first + range.old ≤ length old
  pub count : length new + range.old ≡ length old + range.new
  pub before : (k : ℕ) → k < range.first → line_of new k ≡ line_of old k
  pub paired : (k : ℕ) → range.first ≤ k → k < range.first + min range.old range.new → (line_of new k).id ≡ (line_of old k).id
  pub fresh : (k : ℕ) → range.first + min range.old range.new ≤ k → k < range.first + range.new → (line_of new k).id ≡ next + (k - (range.first + min range.old range.new))
  pub behind : (k : ℕ) → range.first + range.old ≤ k → k < length old → line_of new (k + range.new - range.old) ≡ line_of old k

-- The next id after an edit.
abbrev pub next_after : RangeOf → ℕ → ℕ
next_after range next = next + (range.new - range.old)
