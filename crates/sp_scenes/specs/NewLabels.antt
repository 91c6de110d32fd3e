-- The labels of new headings directly behind one another (docs/RULES.md, "Scene numbers").
use Rattle.std.specs.Prelude.{ℕ, zero, suc, ◌+◌, List, [], ◌∷◌}
use Rattle.spec_labels.specs.Labels.{LabelOf}
use Rattle.spec_labels.specs.Scenes.{SceneRecordOf, label_between}

-- The labels of so many new headings before the record at a place, behind `since` others.
abbrev pub new_labels : List SceneRecordOf → ℕ → ℕ → ℕ → List LabelOf
new_labels records place since zero = []
new_labels records place since (suc count) = label_between records place (since + 1) ∷ new_labels records place (since + 1) count
