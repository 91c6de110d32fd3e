-- Where page records stand: what their first rows and their sheets ask for (docs/RULES.md, "Page records").
use Rattle.std.specs.Prelude.{◌≡◌, ℕ, ◌+◌, List, drop, All, AllPairs}
use Rattle.spec_text.specs.Lines.{LineState}
use Rattle.spec_text.specs.Ranges.{RangeOf}
use Rattle.spec_text.specs.EditedLines.{HasIds, IsEdited}
use Rattle.spec_labels.specs.PageRecords.{PageRecordOf, InOrder}
use Rattle.spec_labels.specs.Anchors.{IsAnchored}

-- Each record stands at a line of the text, or at END and its row 0; from the second one on they stand in the order of their anchors.
pub record StandInOrder (lines : List LineState) (records : List PageRecordOf) : Type 0 where
  pub anchored : All (IsAnchored lines) records
  pub order : AllPairs (InOrder lines) (drop 1 records)

-- Where these lines are those after an edit whose new lines end at this place, records that stood in order before it are followed by
-- records that stand in order.
abbrev pub StayInOrder : List LineState → ℕ → List PageRecordOf → List PageRecordOf → Type 0
StayInOrder lines place olds news =
    (range : RangeOf) (next later : ℕ) (before : List LineState) → range.first + range.new ≡ place
    → IsEdited range next before lines → HasIds next before → HasIds later lines
    → StandInOrder before olds → StandInOrder lines news
