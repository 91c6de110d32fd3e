-- Pages of some rows of a text by these rows alone (docs/RULES.md, "Pages").
use Rattle.std.specs.Prelude.{◌≡◌, ◌⊎◌, ℕ, ◌+◌, ◌-◌, ◌<◌, ◌≤◌, Bool, true, false, ◌&&◌, ◌||◌, ◌==◌, nat_lt, nat_le, if◌then◌else◌, List, [], ◌∷◌, slice_get, slice_range, sum_by, Option, Some, None}
use Rattle.spec_pages.specs.declared.Shape.{Shape}
use Rattle.spec_pages.specs.Heights.{Heights}
use Rattle.spec_pages.specs.Pages.{is_legal, lead_of, carried, goes_on}

-- The row that a page takes at its end where its last row's speech goes on behind it.
abbrev pub left_open : Option Shape → ℕ
left_open None = 0
left_open (Some shape) = if goes_on shape then 1 else 0

-- The height of a page by its own rows alone.
abbrev pub own_height : List Shape → ℕ → ℕ → ℕ
own_height shapes p q =
    (q - p) + sum_by lead_of (slice_range shapes (p + 1) q) + carried (slice_get shapes p) + left_open (slice_get shapes (q - 1))

abbrev pub own_heights : List Shape → Heights
own_heights shapes = record { height = own_height shapes; legal = is_legal shapes }

-- A speech goes on behind a row exactly where the next row continues it.
abbrev pub AreJoined : List Shape → Type 0
AreJoined shapes = (q : ℕ) → 0 < q → carried (slice_get shapes q) ≡ left_open (slice_get shapes (q - 1))

-- The place is among the stops.
abbrev pub is_among : List ℕ → ℕ → Bool
is_among [] q = false
is_among (stop ∷ stops) q = (stop == q) || is_among stops q

-- A page start is one of the rows from one place to before another.
abbrev pub lies_in : ℕ → ℕ → ℕ → Bool
lies_in start end page = nat_le start page && nat_lt page end

-- The next stop above row p, or the end.
pub record IsStopAbove (count : ℕ) (stops : List ℕ) (p next : ℕ) : Type 0 where
  pub above : p < count → p < next
  pub within : next ≤ count
  pub stop : (next ≡ count) ⊎ (is_among stops next ≡ true)
  pub least : (q : ℕ) → p < q → q < next → is_among stops q ≡ false

-- A whole text's rows, and so many of them from row s on: the stops inside are those of these rows alone, and both ends are stops.
pub record StopsAt (count : ℕ) (stops : List ℕ) (s len : ℕ) (own : List ℕ) : Type 0 where
  pub within : s + len ≤ count
  pub begin : (s ≡ 0) ⊎ (is_among stops s ≡ true)
  pub end : (s + len ≡ count) ⊎ (is_among stops (s + len) ≡ true)
  pub inside : (q : ℕ) → 0 < q → q < len → is_among stops (s + q) ≡ is_among own q
