-- The labels of headings are those of their lines.
use Rattle.std.proofs.Common.{◌≡◌, ℕ, ◌<◌, false, List, length, get_or, map, ap, sym, ◌∙◌, subst}
use Rattle.std.specs.Prelude.{All, None}
use Rattle.std.proofs.lemmas.List.{get_or-map, length-map}
use Rattle.std.proofs.lemmas.Simd.{map-map}
use Rattle.spec_labels.specs.Labels.{LabelOf, IsLabel}
use Rattle.spec_labels.specs.Scenes.{HeadingOf, SceneRecordOf, AreSceneRecords, labels_since, line_place, locked_labels, record_place}
use Rattle.spec_labels.proofs.HeadingLabels.{locked_labels-IsLabel, length-locked_labels}
use Rattle.sp_scenes.specs.LineLabels.{heading_lines, line_labels}

pub labels-of_lines : (records : List SceneRecordOf) (headings : List HeadingOf) → line_labels records (heading_lines headings) ≡ locked_labels records headings
labels-of_lines records headings = ap (labels_since records 0) (map-map (line_place records) (λ (it : HeadingOf). it.id) headings)

-- A heading in this line, of which nothing else is told.
abbrev pub bare_heading : ℕ → HeadingOf
bare_heading line = record { place = 0; id = line; written = false; number = None }

abbrev pub bare_headings : List ℕ → List HeadingOf
bare_headings lines = map bare_heading lines

pub labels-bare : (records : List SceneRecordOf) (lines : List ℕ) → locked_labels records (bare_headings lines) ≡ line_labels records lines
labels-bare records lines = ap (labels_since records 0) (map-map (record_place records) bare_heading lines)

pub length-bare : (lines : List ℕ) → length (bare_headings lines) ≡ length lines
length-bare lines = length-map lines bare_heading

pub bare-at : (lines : List ℕ) (i : ℕ) (d : ℕ) → i < length lines → (get_or (bare_headings lines) i (bare_heading d)).id ≡ get_or lines i d
bare-at lines i d within = ap (λ (it : HeadingOf). it.id) (get_or-map bare_heading lines i d (bare_heading d) within)

pub line_labels-IsLabel : (records : List SceneRecordOf) (lines : List ℕ) → AreSceneRecords records → All IsLabel (line_labels records lines)
line_labels-IsLabel records lines are = subst (λ (ls : List LabelOf). All IsLabel ls) (labels-bare records lines) (locked_labels-IsLabel records (bare_headings lines) are)

pub length-line_labels : (records : List SceneRecordOf) (lines : List ℕ) → length (line_labels records lines) ≡ length lines
length-line_labels records lines = ap length (sym (labels-bare records lines)) ∙ length-locked_labels records (bare_headings lines) ∙ length-bare lines
