-- Runs of elements and of page breaks that are exchanged.
use Rattle.std.specs.Prelude.{ℕ, ◌+◌, ◌-◌, ◌<◌, ◌≤◌, ◌^◌, List, ◌++◌, length, map, take, drop, slice_range, All}
use Rattle.spec_pages.specs.Rows.{ElementOf}
use Rattle.sp_gap.specs.Moves.{shifted, CanShift}
use Rattle.sp_layout.specs.Bodies.{KeyedElements, BodyOf, row_count}

-- A place that can be moved, and back again.
pub record MovesBack (less more place : ℕ) : Type 0 where
  pub here : CanShift less more place
  pub was : place < 2 ^ 64

abbrev pub ElementMoves : ℕ → ℕ → ElementOf → Type 0
ElementMoves less more element = MovesBack less more element.first

-- The elements from one place to before another can be exchanged, and the later ones moved.
pub record CanExchange (body : KeyedElements) (from to less more : ℕ) : Type 0 where
  pub order : from ≤ to
  pub within : to ≤ length body.elements
  pub later : All (ElementMoves less more) (drop to body.elements)

-- There is room for others in their place, and for them where the others were.
pub record HasRoom (body : BodyOf) (from to : ℕ) (other : BodyOf) : Type 0 where
  pub room : length body.elements + length other.elements ≤ body.room
  pub row_room : row_count body.elements + row_count other.elements ≤ body.row_room
  pub back_room : to - from ≤ other.room
  pub back_row_room : row_count (slice_range body.elements from to) ≤ other.row_room

-- Page breaks in place of those from one place to before another: they count from an element on, and the later ones are moved.
abbrev pub with_breaks : List ℕ → ℕ → ℕ → List ℕ → ℕ → ℕ → ℕ → List ℕ
with_breaks breaks from to others base less more = take from breaks ++ (map (shifted 0 base) others ++ map (shifted less more) (drop to breaks))

abbrev pub breaks_in : List ℕ → ℕ → ℕ → ℕ → List ℕ
breaks_in breaks from to base = map (shifted base 0) (slice_range breaks from to)

pub record CanExchangeBreaks (breaks : List ℕ) (from to : ℕ) (others : List ℕ) (base less more : ℕ) : Type 0 where
  pub order : from ≤ to
  pub within : to ≤ length breaks
  pub come : All (MovesBack 0 base) others
  pub go : All (MovesBack base 0) (slice_range breaks from to)
  pub later : All (MovesBack less more) (drop to breaks)
