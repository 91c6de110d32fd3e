-- Runs of lists.
use Rattle.std.specs.Prelude.{◌≡◌, ℕ, List, ◌++◌, length, take, drop, reverse}

-- So many items were taken off the end of one list and put behind the other, the last first.
pub record Poured {X : Type 0} (from to from_now to_now : List X) (count : ℕ) : Type 0 where
  pub moved : List X
  pub count_is : length moved ≡ count
  pub taken : from ≡ from_now ++ moved
  pub put : to_now ≡ to ++ reverse moved

-- So many items were taken off the end of one list and put before the other, in their order.
pub record HandedOver {X : Type 0} (from to from_now to_now : List X) (count : ℕ) : Type 0 where
  pub moved : List X
  pub count_is : length moved ≡ count
  pub taken : from ≡ from_now ++ moved
  pub put : to_now ≡ moved ++ to

-- The list with these items in place of its own from one place to before another.
abbrev pub exchanged : {X : Type 0} → List X → ℕ → ℕ → List X → List X
exchanged list from to items = take from list ++ (items ++ drop to list)
