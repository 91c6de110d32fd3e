-- The outline of a state, and its cast (docs/RULES.md, "Outline").
use Rattle.std.specs.Prelude.{ℕ, ◌+◌, Bool, ◌&&◌, not, ◌==◌, nat_le, nat_lt, if◌then◌else◌, List, [], ◌∷◌, ◌++◌, length, map, filter, find, slice_index_or, Option, Some, None, is_some}
use Rattle.std.specs.List.{list_any, position_or_len}
use Rattle.std.specs.Option.{option_map_or}
use Rattle.std.specs.Ordering.{is_lt}
use Rattle.spec_text.specs.Lines.{line_texts}
use Rattle.spec_script.specs.declared.Kind.{Kind}
use Rattle.spec_script.specs.declared.Kind.TheVariants as kinds
use Rattle.spec_script.specs.Stanzas.{PlacedBlock, blocks_of}
use Rattle.spec_script.specs.Elements.{is_speech_block}
use Rattle.spec_pages.specs.declared.Shape.{Shape}
use Rattle.spec_pages.specs.Pages.{begins_heading}
use Rattle.spec_labels.specs.Labels.{LabelOf, plain_label, label_cmp, label_text}
use Rattle.spec_labels.specs.Scenes.{HeadingOf, SceneRecordOf, scene_labels}
use Rattle.spec_labels.specs.PageRecords.{SheetOf}
use Rattle.spec_sheets.specs.Shown.{shape_of}
use Rattle.spec_sheets.specs.Speakers.{first_text, cue_text, name_in}
use Rattle.spec_sheets.specs.Sheets.{sheet_label_text}
use Rattle.spec_machine.specs.Outline.{EntryOf, section, synopsis, scene, omitted, cast_of, outline_bytes}
use Rattle.spec_state.specs.State.{State}
use Rattle.spec_state.specs.Headings.{headings_of, is_heading_block, is_numbered, number_text}
use Rattle.spec_state.specs.StateSheets.{rows_in, body_sheets}

-- ---- the sheets of headings

-- The places of the rows that headings begin with, where so many rows stand before these.
abbrev pub heading_rows : ℕ → List Shape → List ℕ
heading_rows row [] = []
heading_rows row (shape ∷ shapes) = if begins_heading shape then row ∷ heading_rows (row + 1) shapes else heading_rows (row + 1) shapes

abbrev pub has_row : ℕ → SheetOf → Bool
has_row row sheet = nat_le sheet.start row && nat_lt row sheet.end

abbrev pub written_on : SheetOf → List ℕ
written_on sheet = sheet_label_text (record { first = sheet.first; last = sheet.last })

-- The label of the sheet with a row.
abbrev pub sheet_text : List SheetOf → ℕ → List ℕ
sheet_text sheets row = option_map_or written_on (find (has_row row) sheets) []

-- ---- scenes that are gone

-- The record's line is that of no heading.
abbrev pub is_gone : List HeadingOf → SceneRecordOf → Bool
is_gone headings it = not (list_any (λ (heading : HeadingOf). heading.id == it.line) headings)

-- The labels of records whose headings are gone.
abbrev pub gone_labels : List HeadingOf → Option (List SceneRecordOf) → List LabelOf
gone_labels headings None = []
gone_labels headings (Some records) = map (λ (it : SceneRecordOf). it.label) (filter (is_gone headings) records)

-- How many headings stand before the first whose label is above a label; all, where there is none.
abbrev pub first_above : List LabelOf → LabelOf → ℕ
first_above labels gone = position_or_len (λ label. is_lt (label_cmp gone label)) labels

-- ---- entries

-- Of the headings of a text: whether scenes are locked, the label of each, that of the sheet with its first row, and the labels of scenes that are gone.
pub record Scenes : Type 0 where
  pub locked : Bool
  pub labels : List LabelOf
  pub sheets : List (List ℕ)
  pub gone : List LabelOf

abbrev pub scenes_of : State → Scenes
scenes_of state = record {
  locked = is_some state.scenes;
  labels = scene_labels (headings_of state.lines) state.scenes;
  sheets = map (sheet_text (body_sheets state)) (heading_rows 0 (map shape_of (rows_in state)));
  gone = gone_labels (headings_of state.lines) state.scenes;
}

-- The scenes that are gone of which a label is above first at the heading behind so many others, or at none.
abbrev pub omitted_at : Scenes → ℕ → List EntryOf
omitted_at scenes i = map (λ gone. omitted (label_text gone)) (filter (λ gone. first_above scenes.labels gone == i) scenes.gone)

-- The number of a heading behind so many others: the written one where scenes aren't locked, or else its label.
abbrev pub scene_number : Scenes → List (List ℕ) → ℕ → PlacedBlock → List ℕ
scene_number scenes texts i placed =
    if not scenes.locked && is_numbered placed then number_text texts placed else label_text (slice_index_or scenes.labels i (plain_label 0))

abbrev pub scene_entry : Scenes → List (List ℕ) → ℕ → PlacedBlock → EntryOf
scene_entry scenes texts i placed = scene (scene_number scenes texts i placed) (slice_index_or scenes.sheets i []) (first_text texts placed.first placed.block.lines)

-- The entries at a block behind so many headings, by its kind.
abbrev pub kind_entries : Kind → Scenes → List (List ℕ) → ℕ → PlacedBlock → List EntryOf
kind_entries kinds.Section scenes texts i placed = section placed.block.depth (first_text texts placed.first placed.block.lines) ∷ []
kind_entries kinds.Synopsis scenes texts i placed = synopsis (first_text texts placed.first placed.block.lines) ∷ []
kind_entries kinds.Heading scenes texts i placed = omitted_at scenes i ++ scene_entry scenes texts i placed ∷ []
kind_entries _ scenes texts i placed = []

abbrev pub block_entries : Scenes → List (List ℕ) → ℕ → PlacedBlock → List EntryOf
block_entries scenes texts i placed = kind_entries placed.block.kind scenes texts i placed

abbrev pub headings_behind : ℕ → PlacedBlock → ℕ
headings_behind i placed = if is_heading_block placed then i + 1 else i

-- The entries at blocks behind so many headings.
abbrev pub entries_from : Scenes → List (List ℕ) → ℕ → List PlacedBlock → List EntryOf
entries_from scenes texts i [] = []
entries_from scenes texts i (placed ∷ blocks) = block_entries scenes texts i placed ++ entries_from scenes texts (headings_behind i placed) blocks

-- The entries of blocks; a scene that is gone with no label above its own stands behind all.
abbrev pub entries_of : Scenes → List (List ℕ) → List PlacedBlock → List EntryOf
entries_of scenes texts blocks = entries_from scenes texts 0 blocks ++ omitted_at scenes (length scenes.labels)

-- ---- speeches

-- The names of speeches, in order.
abbrev pub speaker_names : List (List ℕ) → List PlacedBlock → List (List ℕ)
speaker_names texts blocks = map (λ placed. name_in (cue_text texts placed)) (filter is_speech_block blocks)

-- ---- the outline of a state

abbrev pub outline_entries : State → List EntryOf
outline_entries state = entries_of (scenes_of state) (line_texts state.lines) (blocks_of (line_texts state.lines))

abbrev pub names_of : State → List (List ℕ)
names_of state = speaker_names (line_texts state.lines) (blocks_of (line_texts state.lines))

abbrev pub outline_of : State → List ℕ
outline_of state = outline_bytes (outline_entries state) (cast_of (names_of state))
