-- What is made of a state.
use Rattle.std.specs.Prelude.{◌≡◌, ℕ, List, Option}
use Rattle.spec_labels.specs.Labels.{LabelOf}
use Rattle.spec_labels.specs.PageRecords.{SheetOf}
use Rattle.spec_state.specs.State.{State}
use Rattle.spec_state.specs.Headings.{heading_labels}
use Rattle.spec_state.specs.StateSheets.{title_starts, body_sheets}
use Rattle.sp_layout.specs.LaidOut.{LayoutOf}
use Rattle.sp_sheets.specs.Firsts.{IsLaidOf}

-- The labels of its headings, the first rows of its title sheets, and its other sheets.
pub record NumberedOf : Type 0 where
  pub labels : Option (List LabelOf)
  pub title_starts : List ℕ
  pub sheets : List SheetOf

-- Its elements laid out, and these.
pub record MadeOf : Type 0 where
  pub layout : LayoutOf
  pub numbered : NumberedOf

-- They are those of the state.
pub record IsNumberedOf (state : State) (it : NumberedOf) : Type 0 where
  pub labels : it.labels ≡ heading_labels state.lines state.scenes
  pub title_starts : it.title_starts ≡ title_starts state
  pub sheets : it.sheets ≡ body_sheets state

pub record IsMadeOf (state : State) (it : MadeOf) : Type 0 where
  pub layout : IsLaidOf state it.layout
  pub numbered : IsNumberedOf state it.numbered
