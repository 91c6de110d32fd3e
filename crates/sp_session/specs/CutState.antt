-- Command lines that are being cut (docs/RULES.md, "Sessions").
use Rattle.std.specs.Prelude.{◌≡◌, ℕ, ◌+◌, ◌≤◌, List, ◌∷◌, ◌++◌, length}
use Rattle.spec_session.specs.CommandLines.{command_limit, command_count_limit, HasNoFeed, command_lines, without_last}

-- The line that was cut last, the bytes that were read and not handed out, and how many lines were.
pub record CutState : Type 0 where
  pub line : List ℕ
  pub pending : List ℕ
  pub count : ℕ

-- At most one byte past a limit was read.
pub record HasBudget (state : CutState) : Type 0 where
  pub short : length state.pending ≤ command_limit + 1
  pub few : state.count + length (command_lines (without_last state.pending)) ≤ command_count_limit

-- A line is handed out: it is no longer pending.
pub record HandsOut (before after : CutState) : Type 0 where
  pub split : before.pending ≡ after.line ++ 10 ∷ after.pending
  pub plain : HasNoFeed after.line
  pub count : after.count ≡ before.count + 1

-- No line that is pending is whole.
pub record HasNoLine (before after : CutState) : Type 0 where
  pub plain : HasNoFeed before.pending
  pub same : after.pending ≡ before.pending
  pub count : after.count ≡ before.count

-- What came is pending, and no line was handed out.
pub record Pends (before after : CutState) (bytes : List ℕ) : Type 0 where
  pub pending : after.pending ≡ before.pending ++ bytes
  pub count : after.count ≡ before.count
