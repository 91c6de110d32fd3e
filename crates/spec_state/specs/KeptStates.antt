-- What every state of a desk keeps, part by part, with the anchors of page records as spots.
use Rattle.std.specs.Prelude.{◌≡◌, ℕ, ◌+◌, ◌≤◌, true, List, length, drop, All, AllPairs, IfSome, is_some}
use Rattle.spec_text.specs.Lines.{LineState, IsText}
use Rattle.spec_labels.specs.Labels.{plain_label, Below}
use Rattle.spec_labels.specs.Scenes.{scene_step_limit}
use Rattle.spec_labels.specs.PageRecords.{PageRecordOf, page_record_limit}
use Rattle.spec_labels.specs.Anchors.{IsAnchored, NotBehind}
use Rattle.spec_records.specs.Bounds.{IsBounded}
use Rattle.spec_records.specs.Kept.{KeepsScenes, round_limit, row_limit}
use Rattle.spec_state.specs.State.{State, text_of}
use Rattle.spec_state.specs.Keeping.{state_kept}
use Rattle.spec_state.specs.SoundStates.{AreLocked}

-- What labels ask for: rules 4 and 5 of a record file, and of its rule 6 what is said of labels.
pub record IsKept (state : State) : Type 0 where
  pub text : IsText (text_of state)
  pub round : state.round ≤ round_limit
  pub marks : All (λ (line : LineState). line.mark ≤ state.round) state.lines
  pub scenes : KeepsScenes (state_kept state) state.scenes
  pub scened : is_some state.pages ≡ true → is_some state.scenes ≡ true
  pub pages : IfSome state.pages AreLocked

-- One record of a list of so many.
pub record IsPageKept (count round : ℕ) (lines : List LineState) (it : PageRecordOf) : Type 0 where
  pub above : Below (plain_label 0) it.label
  pub bounded : IsBounded count (scene_step_limit + round) it.label
  pub anchored : IsAnchored lines it
  pub low : it.row ≤ row_limit
  pub last : it.changed ≤ round

-- Anchors never go back, from the second record on.
pub record ArePagesKept (round : ℕ) (lines : List LineState) (records : List PageRecordOf) : Type 0 where
  pub few : length records ≤ page_record_limit
  pub each : All (IsPageKept (length records) round lines) records
  pub order : AllPairs (NotBehind lines) (drop 1 records)

-- All parts.
pub record IsKeptWhole (state : State) : Type 0 where
  pub kept : IsKept state
  pub pages : IfSome state.pages (ArePagesKept state.round state.lines)
