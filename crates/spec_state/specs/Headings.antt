-- The headings of a text, and their labels (docs/RULES.md, "Scene numbers").
use Rattle.std.specs.Prelude.{ℕ, Bool, true, false, not, ◌&&◌, ◌==◌, nat_le, if◌then◌else◌, List, length, map, filter, slice_range, Option, Some, None, option_and_then, option_map}
use Rattle.std.specs.List.{flat_map, list_all}
use Rattle.spec_text.specs.Lines.{LineState, line_texts}
use Rattle.spec_text.specs.Parts.{SpanOf}
use Rattle.spec_script.specs.declared.Kind.{Kind}
use Rattle.spec_script.specs.declared.Kind.TheVariants as kinds
use Rattle.spec_script.specs.Stanzas.{PlacedBlock, blocks_of}
use Rattle.spec_script.specs.Elements.{line_of_block}
use Rattle.spec_pages.specs.Rows.{line_state}
use Rattle.spec_labels.specs.Labels.{LabelOf}
use Rattle.spec_labels.specs.LabelReading.{label_read}
use Rattle.spec_labels.specs.Scenes.{HeadingOf, SceneRecordOf, scene_number_limit, scene_step_limit, locked_labels}
use Rattle.spec_sheets.specs.Cells.{text_at}

abbrev pub is_heading_kind : Kind → Bool
is_heading_kind kinds.Heading = true
is_heading_kind _ = false

abbrev pub is_heading_block : PlacedBlock → Bool
is_heading_block placed = is_heading_kind placed.block.kind

-- A number is written in the block's line.
abbrev pub is_numbered : PlacedBlock → Bool
is_numbered placed = not (length placed.block.number == 0)

abbrev pub number_text : List (List ℕ) → PlacedBlock → List ℕ
number_text texts placed = flat_map (λ (span : SpanOf). slice_range (text_at texts (line_of_block placed)) span.0 span.1) placed.block.number

-- The greatest step that is written as a letter. A written number has no brackets, so its steps are no greater.
abbrev pub letter_limit : ℕ
letter_limit = 24

-- The label, where it may stand as a scene number in a script.
abbrev pub as_scene_label : LabelOf → Option LabelOf
as_scene_label it =
    if nat_le it.number scene_number_limit && (nat_le (length it.path) scene_step_limit && list_all (λ step. nat_le step letter_limit) it.path) then Some it else None

abbrev pub written_label : List (List ℕ) → PlacedBlock → Option LabelOf
written_label texts placed = if is_numbered placed then option_and_then as_scene_label (label_read (number_text texts placed)) else None

abbrev pub heading_of : List LineState → PlacedBlock → HeadingOf
heading_of lines placed = record {
  place = line_of_block placed;
  id = (line_state lines (line_of_block placed)).id;
  written = is_numbered placed;
  number = written_label (line_texts lines) placed;
}

-- The headings of a text, in order.
abbrev pub headings_of : List LineState → List HeadingOf
headings_of lines = map (heading_of lines) (filter is_heading_block (blocks_of (line_texts lines)))

-- The labels of the headings of a text, where scenes are locked.
abbrev pub heading_labels : List LineState → Option (List SceneRecordOf) → Option (List LabelOf)
heading_labels lines scenes = option_map (λ (records : List SceneRecordOf). locked_labels records (headings_of lines)) scenes
