-- What a state keeps is enough for its sheets, its headings and its labels.
use Rattle.std.proofs.Common.{Option, Some, None, List, ℕ, arith}
use Rattle.std.specs.Prelude.{IfSome}
use Rattle.spec_labels.specs.Scenes.{SceneRecordOf, AreSceneRecords}
use Rattle.spec_records.specs.Kept.{KeptOf, KeepsScenes, AreKeptScenes}
use Rattle.spec_state.specs.State.{State}
use Rattle.spec_state.specs.Keeping.{state_kept}
use Rattle.spec_state.specs.KeptStates.{IsKept}
use Rattle.spec_state.specs.SoundStates.{IsSound}

pub kept-records : (next steps : ℕ) (records : List SceneRecordOf) → AreKeptScenes next steps records → AreSceneRecords records
kept-records next steps records are = record {
  labels = λ k d h. (are.locked k d h).is_label;
  above = λ k d h. (are.locked k d h).above;
  low = λ k d h. (let it = are.locked k d h in let bounded = it.bounded in let number = bounded.number in let few = are.few in omega (arith, number, few));
  rising = are.rising;
  distinct = are.distinct;
}

pub scenes-records : (it : KeptOf) (scenes : Option (List SceneRecordOf)) → KeepsScenes it scenes → IfSome scenes AreSceneRecords
scenes-records it None are = tt
scenes-records it (Some records) are = kept-records _ _ records are

-- What a state keeps, the laws of its sheets ask for.
pub kept-sound : (state : State) → IsKept state → IsSound state
kept-sound state kept = record { text = kept.text; scenes = scenes-records (state_kept state) state.scenes kept.scenes; pages = kept.pages }
