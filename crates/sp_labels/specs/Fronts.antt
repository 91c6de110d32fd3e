-- What stands at the front of a text that is read as a label (docs/RULES.md, "Labels").
use Rattle.std.specs.Prelude.{◌≡◌, ℕ, ◌≤◌, List, ◌++◌, decimal}
use Rattle.spec_labels.specs.Labels.{step_text}
use Rattle.spec_labels.specs.LabelReading.{BeginsNoDigit, step_limit}

-- The text is this number in decimal, which keeps the limit, and behind it this rest, which goes on with no digit.
pub record NumberFront (text : List ℕ) (limit number : ℕ) (rest : List ℕ) : Type 0 where
  pub low : number ≤ limit
  pub written : decimal number ++ rest ≡ text
  pub ends : BeginsNoDigit rest

-- The text is this step, written, which keeps its limit, and behind it this rest.
pub record StepFront (text : List ℕ) (step : ℕ) (rest : List ℕ) : Type 0 where
  pub low : step ≤ step_limit
  pub written : step_text step ++ rest ≡ text
