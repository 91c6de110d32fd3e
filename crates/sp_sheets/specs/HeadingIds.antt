-- The lines of headings, by what is kept of rows.
use Rattle.std.specs.Prelude.{◌≡◌, ℕ, ◌<◌, ◌≤◌, true, false, if◌then◌else◌, List, [], ◌∷◌, length, slice_index_or, Option, option_map}
use Rattle.spec_pages.specs.declared.Shape.{Shape}
use Rattle.spec_pages.specs.Pages.{begins_heading}
use Rattle.spec_labels.specs.declared.RowKey.{RowKey}
use Rattle.spec_labels.specs.Labels.{LabelOf}
use Rattle.spec_labels.specs.Scenes.{SceneRecordOf}
use Rattle.sp_layout.specs.Bodies.{KeyedElements, shapes_in}
use Rattle.sp_layout.specs.LaidOut.{LayoutOf}
use Rattle.sp_scenes.specs.LineLabels.{line_labels}

-- The ids of the lines of headings, by what page ends see of their rows and by the keys of these.
abbrev pub heading_ids : List Shape → List RowKey → List ℕ
heading_ids [] keys = []
heading_ids (shape ∷ shapes) [] = []
heading_ids (shape ∷ shapes) (key ∷ keys) = if begins_heading shape then key.line ∷ heading_ids shapes keys else heading_ids shapes keys

-- The first row of a heading that is not before a place, or the number of rows where there is none.
pub record IsHeadingFrom (shapes : List Shape) (from place : ℕ) : Type 0 where
  pub low : from ≤ place
  pub within : place ≤ length shapes
  pub none : (k : ℕ) (d : Shape) → from ≤ k → k < place → begins_heading (slice_index_or shapes k d) ≡ false
  pub found : (d : Shape) → place < length shapes → begins_heading (slice_index_or shapes place d) ≡ true

-- The ids of the lines of the headings of a body, and of a layout.
abbrev pub body_headings : KeyedElements → List ℕ
body_headings body = heading_ids (shapes_in body.elements) body.keys

abbrev pub laid_headings : LayoutOf → List ℕ
laid_headings layout = body_headings layout.body

-- The labels of the headings of a layout, where scenes are locked.
abbrev pub laid_labels : LayoutOf → Option (List SceneRecordOf) → Option (List LabelOf)
laid_labels layout scenes = option_map (λ (records : List SceneRecordOf). line_labels records (laid_headings layout)) scenes
