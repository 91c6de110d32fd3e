-- The speeches of a state as cast sides tell them (docs/RULES.md, "Cast sides").
use Rattle.std.specs.Prelude.{ℕ, ◌-◌, ◌==◌, if◌then◌else◌, List, [], length, map, filter, slice_get, Option, None, option_map}
use Rattle.spec_text.specs.Lines.{line_texts}
use Rattle.spec_script.specs.LongestRuns.{Group, members}
use Rattle.spec_labels.specs.Labels.{LabelOf}
use Rattle.spec_labels.specs.Scenes.{scene_labels}
use Rattle.spec_labels.specs.PageRecords.{SheetOf}
use Rattle.spec_sheets.specs.Speakers.{Spoken, cue_text, name_in}
use Rattle.spec_state.specs.State.{State}
use Rattle.spec_state.specs.Headings.{headings_of}
use Rattle.spec_cast.specs.Sides.{SaidOf}
use Rattle.spec_cast.specs.Places.{state_elements, has_heading, has_speech, sheet_behind, each_behind}

-- The last of so many labels; none of none.
abbrev pub last_label : List LabelOf → ℕ → Option LabelOf
last_label labels count = if count == 0 then None else slice_get labels (count - 1)

abbrev pub first_of : SheetOf → LabelOf
first_of sheet = sheet.first

-- A speech of an element behind these: the name in its cue, the label of the last heading before it, and the first label of the
-- sheet with the first row of its element.
abbrev pub speech_said : State → List (Group Spoken) → Spoken → SaidOf
speech_said state before it = record {
  name = name_in (cue_text (line_texts state.lines) it.placed);
  scene = last_label (scene_labels (headings_of state.lines) state.scenes) (length (filter has_heading before));
  sheet = option_map first_of (sheet_behind state before);
}

-- The speeches of an element behind these: its own one, or both of a pair.
abbrev pub element_said : State → List (Group Spoken) → Group Spoken → List SaidOf
element_said state before element = if has_speech element then map (speech_said state before) (members element) else []

-- The speeches of a state, in order.
abbrev pub said_of : State → List SaidOf
said_of state = each_behind (element_said state) [] (state_elements state)
