-- The labels of headings by the ids of their lines (docs/RULES.md, "Scene numbers").
use Rattle.std.specs.Prelude.{ℕ, List, map}
use Rattle.spec_labels.specs.Labels.{LabelOf}
use Rattle.spec_labels.specs.Scenes.{HeadingOf, SceneRecordOf, labels_since, line_place}

abbrev pub heading_lines : List HeadingOf → List ℕ
heading_lines headings = map (λ (it : HeadingOf). it.id) headings

-- The labels of the headings of these lines, where scenes are locked.
abbrev pub line_labels : List SceneRecordOf → List ℕ → List LabelOf
line_labels records lines = labels_since records 0 (map (line_place records) lines)
