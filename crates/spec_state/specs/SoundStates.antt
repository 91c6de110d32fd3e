-- What sheets ask of a state.
use Rattle.std.specs.Prelude.{◌<◌, List, length, All, IfSome}
use Rattle.spec_text.specs.Lines.{IsText}
use Rattle.spec_labels.specs.Labels.{IsLabel}
use Rattle.spec_labels.specs.Scenes.{AreSceneRecords}
use Rattle.spec_labels.specs.PageRecords.{PageRecordOf, RisingRecords}
use Rattle.spec_state.specs.State.{State, text_of}

-- Page records: there are some, and their labels are labels and rise.
pub record AreLocked (records : List PageRecordOf) : Type 0 where
  pub some : 0 < length records
  pub labels : All (λ (it : PageRecordOf). IsLabel it.label) records
  pub rising : RisingRecords records

pub record IsSound (state : State) : Type 0 where
  pub text : IsText (text_of state)
  pub scenes : IfSome state.scenes AreSceneRecords
  pub pages : IfSome state.pages AreLocked
