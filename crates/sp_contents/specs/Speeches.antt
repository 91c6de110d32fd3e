-- A walk over the rows of a script, past those that speeches begin with, and one over its blocks, past headings and speeches.
use Rattle.std.specs.Prelude.{ℕ, ◌+◌, ◌&&◌, not, Bool, false, if◌then◌else◌, List, [], ◌∷◌, ◌++◌, find, unwrap_or, Some}
use Rattle.std.specs.Option.{option_map_or}
use Rattle.spec_script.specs.Stanzas.{PlacedBlock}
use Rattle.spec_script.specs.Elements.{is_speech_block}
use Rattle.spec_pages.specs.declared.Shape.{Shape}
use Rattle.spec_labels.specs.Labels.{LabelOf, plain_label}
use Rattle.spec_labels.specs.PageRecords.{SheetOf}
use Rattle.spec_sheets.specs.Speakers.{cue_text, name_in}
use Rattle.spec_machine.specs.Outlines.{has_row, headings_behind}
use Rattle.spec_cast.specs.Sides.{SaidOf}
use Rattle.spec_cast.specs.Places.{begins_speech}
use Rattle.spec_cast.specs.Said.{last_label}

-- The first label of the sheet with a row; the label 0 where no sheet has it.
abbrev pub first_label : List SheetOf → ℕ → LabelOf
first_label sheets row = option_map_or (λ (sheet : SheetOf). sheet.first) (find (has_row row) sheets) (plain_label 0)

-- Those of the sheets on which speeches and pairs begin, where so many rows stand before these.
abbrev pub speech_sheets : List SheetOf → ℕ → List Shape → List LabelOf
speech_sheets sheets row [] = []
speech_sheets sheets row (shape ∷ shapes) =
    if begins_speech shape then first_label sheets row ∷ speech_sheets sheets (row + 1) shapes else speech_sheets sheets (row + 1) shapes

-- So many headings, and so many speeches and pairs, stand before; and the last block may be the first speech of a pair.
pub record Walk : Type 0 where
  pub headings : ℕ
  pub speeches : ℕ
  pub opened : Bool

abbrev pub walk_start : Walk
walk_start = record { headings = 0; speeches = 0; opened = false }

-- The block is a speech that is not the second of a pair.
abbrev pub is_first : Walk → PlacedBlock → Bool
is_first walk placed = is_speech_block placed && not (walk.opened && placed.block.caret)

abbrev pub walked : Walk → PlacedBlock → Walk
walked walk placed = record {
  headings = headings_behind walk.headings placed;
  speeches = if is_first walk placed then walk.speeches + 1 else walk.speeches;
  opened = is_speech_block placed && not placed.block.caret;
}

-- A speech behind so many headings and sheets, its own among them, where these are the labels of all; the label 0 where there
-- are fewer.
abbrev pub said_by : List LabelOf → List LabelOf → List (List ℕ) → Walk → PlacedBlock → SaidOf
said_by scenes sheets texts walk placed = record {
  name = name_in (cue_text texts placed);
  scene = last_label scenes walk.headings;
  sheet = Some (unwrap_or (last_label sheets walk.speeches) (plain_label 0));
}

abbrev pub block_said : List LabelOf → List LabelOf → List (List ℕ) → Walk → PlacedBlock → List SaidOf
block_said scenes sheets texts walk placed = if is_speech_block placed then said_by scenes sheets texts walk placed ∷ [] else []

abbrev pub said_from : List LabelOf → List LabelOf → List (List ℕ) → Walk → List PlacedBlock → List SaidOf
said_from scenes sheets texts walk [] = []
said_from scenes sheets texts walk (placed ∷ blocks) = block_said scenes sheets texts (walked walk placed) placed ++ said_from scenes sheets texts (walked walk placed) blocks
