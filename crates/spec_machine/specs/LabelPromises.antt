-- What is promised of labels (docs/RULES.md, "Labels").
use Rattle.std.specs.Prelude.{◌≡◌, ◌≢◌, ℕ, List, All, AllPairs, Some, slice_get}
use Rattle.std.specs.List.{Contains}
use Rattle.spec_labels.specs.Labels.{LabelOf, Rising}
use Rattle.spec_labels.specs.Scenes.{HeadingOf, SceneRecordOf, locked_labels}
use Rattle.spec_labels.specs.PageRecords.{AreSheets}
use Rattle.spec_state.specs.State.{State}
use Rattle.spec_state.specs.Headings.{headings_of}
use Rattle.spec_state.specs.StateSheets.{body_sheets}
use Rattle.spec_state.specs.StateLabels.{page_labels, scene_labels}

-- In a state with locked scenes the labels of headings are distinct, and the label of a record is that of its own heading alone,
-- so that of a heading that is gone is given to none.
pub record AreOwned (headings : List HeadingOf) (records : List SceneRecordOf) : Type 0 where
  pub distinct : AllPairs (λ (one other : LabelOf). one ≢ other) (locked_labels records headings)
  pub owner : (i place : ℕ) (heading : HeadingOf) (it : SceneRecordOf) → slice_get headings i ≡ Some heading → slice_get records place ≡ Some it
      → slice_get (locked_labels records headings) i ≡ Some it.label → heading.id ≡ it.line

-- In one state.
pub record AreLabelled (state : State) : Type 0 where
  pub pages : Rising (page_labels state)
  pub scenes : Rising (scene_labels state)
  pub sheets : AreSheets (body_sheets state)
  pub headings : (records : List SceneRecordOf) → state.scenes ≡ Some records → AreOwned (headings_of state.lines) records

-- All labels of an earlier list are in a later one.
abbrev pub HasAll : List LabelOf → List LabelOf → Type 0
HasAll earlier later = All (Contains later) earlier

-- From one state to a later one no locked label is lost.
pub record LosesNone (earlier later : State) : Type 0 where
  pub pages : HasAll (page_labels earlier) (page_labels later)
  pub scenes : HasAll (scene_labels earlier) (scene_labels later)
