-- The state of a desk (docs/RULES.md, "The desk").
use Rattle.std.specs.Prelude.{ℕ, Bool, true, List, length, Option, None}
use Rattle.spec_text.specs.Lines.{LineState, TextState, read_lines}
use Rattle.spec_pages.specs.declared.Paper.{Paper}
use Rattle.spec_pages.specs.declared.Paper.TheVariants.{Letter}
use Rattle.spec_labels.specs.Scenes.{SceneRecordOf}
use Rattle.spec_labels.specs.PageRecords.{PageRecordOf}

-- A state: its lines, the id that a new line gets, the round, the two settings, and the records where scenes and pages are locked.
pub record State : Type 0 where
  pub lines : List LineState
  pub next : ℕ
  pub round : ℕ
  pub speakers : Bool
  pub paper : Paper
  pub scenes : Option (List SceneRecordOf)
  pub pages : Option (List PageRecordOf)

-- The text of a state.
abbrev pub text_of : State → TextState
text_of state = record { lines = state.lines; next = state.next }

-- The state of a script that was read and has no records.
abbrev pub opened_state : List (List ℕ) → State
opened_state texts = record { lines = read_lines texts; next = length texts; round = 0; speakers = true; paper = Letter; scenes = None; pages = None }
