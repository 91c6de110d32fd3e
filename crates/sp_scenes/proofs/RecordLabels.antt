-- The labels of records, one beside the other.
use Rattle.std.proofs.Common.{◌≡◌, ℕ, ◌<◌, List, length, get_or, ap, sym, ◌∙◌, subst}
use Rattle.std.specs.Prelude.{Option, Some, None, option_map, slice_get, unwrap_or}
use Rattle.std.proofs.lemmas.Option.{same_Some, slice_get_within, slice_get-get_or}
use Rattle.spec_labels.specs.Labels.{LabelOf, Below}
use Rattle.spec_labels.specs.Scenes.{SceneRecordOf, AreSceneRecords, label_at, label_before}
use Rattle.spec_labels.proofs.SceneSpots.{label_of, label_at-is, label_before-below}

-- A record's label is above the one directly before it.
pub label_at-above : (records : List SceneRecordOf) (place : ℕ) (next : LabelOf) → AreSceneRecords records → label_at records place ≡ Some next → Below (label_before records place) next
label_at-above records place next are is = by (slice_get records place) (λ i. slice_get records place)
  where
    by : (o : Option SceneRecordOf) → slice_get records place ≡ o → Below (label_before records place) next
    by None none = let no_more : None ≡ Some next = sym (ap (option_map (λ (it : SceneRecordOf). it.label)) none) ∙ is in cc
    by (Some it) there =
        let within : place < length records = slice_get_within records place it there in
        subst (λ l. Below (label_before records place) l) (same_Some (label_of records place) next (sym (label_at-is records place within) ∙ is)) (label_before-below records place are within)

-- The label of the record at a place.
pub label_at-record : (records : List SceneRecordOf) (place : ℕ) (it : SceneRecordOf) (d : LabelOf) → place < length records → it ≡ get_or records place it → it.label ≡ unwrap_or (label_at records place) d
label_at-record records place it d within is =
    sym (ap (λ o. unwrap_or (option_map (λ (it : SceneRecordOf). it.label) o) d) (slice_get-get_or records place it within ∙ ap Some (sym is)))
