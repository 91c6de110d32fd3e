use Rattle.std.proofs.Common.{[], ◌∷◌, ◌++◌, List, ap, ap₂, ◌∙◌}
use Rattle.spec_labels.specs.Labels.{LabelOf}
use Rattle.spec_labels.specs.Scenes.{SceneRecordOf}
use Rattle.sp_scenes.proofs.RecordLabels.{label_at-record}
use Rattle.sp_scenes.proofs.numbering.push_recorded.Goals as goal

pub returns : goal.returns
returns c =
    let label = c.in_ok-copy.ensures ∙ ap (λ (it : SceneRecordOf). it.label) c.record.view_is ∙ label_at-record _ _ _ _ c.requires.place c.index-records-place.is in
    c.in_ok-push.ensures.items ∙ ap₂ (λ (ls : List LabelOf) (l : LabelOf). ls ++ l ∷ []) c.in_ok-push_new.ensures label
