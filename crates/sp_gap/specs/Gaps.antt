-- Lists round a gap.
use Rattle.std.specs.Prelude.{◌≡◌, ℕ, ◌+◌, ◌-◌, ◌<◌, ◌≤◌, ◌^◌, ◌++◌, List, All, drop, map, reverse, slice_range, take}
use Rattle.sp_gap.specs.Moves.{shifted}

-- The items of a list in order, and for how many it has room without taking memory.
pub record GapListOf (X : Type 0) : Type 0 where
  pub items : List X
  pub room : ℕ

-- The same of places, with an end that none of them is behind.
pub record GapPlacesOf : Type 0 where
  pub items : List ℕ
  pub end : ℕ
  pub room : ℕ

-- The items behind a gap stand first in a ring, so many, and then those before it. In order:
abbrev pub turned : {X : Type 0} → ℕ → List X → List X
turned behind ring = drop behind ring ++ take behind ring

-- Where in a ring of so many items, so many of them behind the gap, the item at a place stands.
pub record IsSlot (count behind place slot : ℕ) : Type 0 where
  pub before : place < count - behind → slot ≡ behind + place
  pub later : count - behind ≤ place → slot ≡ place - (count - behind)

-- A place counted from an end, backwards.
abbrev pub mirrored : ℕ → ℕ → ℕ
mirrored end place = end - place

-- The places before a gap, and those behind it, which stand the last first and count from an end.
abbrev pub round_gap : List ℕ → List ℕ → ℕ → List ℕ
round_gap front back end = front ++ map (mirrored end) (reverse back)

-- The places from one to before another are others now, which count from a base, and the later ones are moved.
abbrev pub with_places : List ℕ → ℕ → ℕ → List ℕ → ℕ → ℕ → ℕ → List ℕ
with_places list from to items base less more = take from list ++ (map (shifted 0 base) items ++ map (shifted less more) (drop to list))

-- Places up to an end can be exchanged so for others up to theirs.
pub record CanExchangePlaces (list : List ℕ) (end from to base less more others_end : ℕ) : Type 0 where
  pub above : base ≤ less
  pub inside : less ≤ end
  pub come : base + others_end ≤ more
  pub fits : end - less + more < 2 ^ 64
  pub before : All (λ place. place ≤ base) (take from list)
  pub from_base : All (λ place. base ≤ place) (slice_range list from to)
  pub to_less : All (λ place. place ≤ less) (slice_range list from to)
  pub later : All (λ place. less ≤ place) (drop to list)
