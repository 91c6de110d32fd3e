-- What a journal holds.
use Rattle.std.specs.Prelude.{ℕ, List, drop, take, reverse}

-- What was done and what was undone, the last one last, and how many entries more fit in both without taking memory.
pub record Entries (T : Type 0) : Type 0 where
  pub done : List T
  pub undone : List T
  pub room : ℕ

-- The lists that stand in one queue: first so many that were undone, the last first, and then what was done.
abbrev pub queued : {T : Type 0} → ℕ → List T → ℕ → Entries T
queued undone entries room = record { done = drop undone entries; undone = reverse (take undone entries); room = room }
