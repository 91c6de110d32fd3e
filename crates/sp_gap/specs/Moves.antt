-- Places that are moved.
use Rattle.std.specs.Prelude.{ℕ, ◌+◌, ◌-◌, ◌<◌, ◌≤◌, ◌^◌}

abbrev pub shifted : ℕ → ℕ → ℕ → ℕ
shifted less more place = place - less + more

-- A place that can be moved so.
pub record CanShift (less more place : ℕ) : Type 0 where
  pub from : less ≤ place
  pub fits : place - less + more < 2 ^ 64
