-- Scenes whose headings are gone.
use Rattle.std.specs.Prelude.{ℕ, Bool, ◌==◌, List, map, filter}
use Rattle.std.specs.List.{list_any}
use Rattle.spec_labels.specs.Labels.{LabelOf}
use Rattle.spec_labels.specs.Scenes.{HeadingOf, SceneRecordOf}
use Rattle.spec_machine.specs.Outlines.{is_gone}

-- A line is that of a heading.
abbrev pub has_line : List HeadingOf → ℕ → Bool
has_line headings line = list_any (λ (heading : HeadingOf). heading.id == line) headings

-- The labels of the records whose lines aren't.
abbrev pub gone_among : List HeadingOf → List SceneRecordOf → List LabelOf
gone_among headings records = map (λ (it : SceneRecordOf). it.label) (filter (is_gone headings) records)
