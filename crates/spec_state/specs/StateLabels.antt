-- The locked labels of a state (docs/RULES.md, "Labels").
use Rattle.std.specs.Prelude.{List, [], map, Option, Some, None}
use Rattle.spec_labels.specs.Labels.{LabelOf}
use Rattle.spec_labels.specs.Scenes.{SceneRecordOf}
use Rattle.spec_labels.specs.PageRecords.{PageRecordOf}
use Rattle.spec_state.specs.State.{State}

abbrev pub page_label_of : PageRecordOf → LabelOf
page_label_of it = it.label

abbrev pub scene_label_of : SceneRecordOf → LabelOf
scene_label_of it = it.label

abbrev pub labels_of_pages : Option (List PageRecordOf) → List LabelOf
labels_of_pages None = []
labels_of_pages (Some records) = map page_label_of records

abbrev pub labels_of_scenes : Option (List SceneRecordOf) → List LabelOf
labels_of_scenes None = []
labels_of_scenes (Some records) = map scene_label_of records

-- The labels of its page records, and those of its scene records; none where it has none.
abbrev pub page_labels : State → List LabelOf
page_labels state = labels_of_pages state.pages

abbrev pub scene_labels : State → List LabelOf
scene_labels state = labels_of_scenes state.scenes
