-- What locks and rounds make of a state (docs/RULES.md, "Page records" and "Scene numbers").
use Rattle.std.specs.Prelude.{◌+◌, List, [], Option, Some, None}
use Rattle.spec_labels.specs.Scenes.{SceneRecordOf, HeadingOf, locked_records, extended_records}
use Rattle.spec_labels.specs.PageRecords.{PageRecordOf, extended_page_records}
use Rattle.spec_state.specs.State.{State}
use Rattle.spec_state.specs.Headings.{headings_of}
use Rattle.spec_state.specs.StateSheets.{keys_in, body_sheets}

-- The scene records with one for every heading, where scenes are locked.
abbrev pub scenes_extended : List HeadingOf → Option (List SceneRecordOf) → Option (List SceneRecordOf)
scenes_extended headings None = None
scenes_extended headings (Some records) = Some (extended_records records headings)

-- The page records with one for every page, where pages are locked.
abbrev pub pages_extended : State → Option (List PageRecordOf) → Option (List PageRecordOf)
pages_extended state None = None
pages_extended state (Some records) = Some (extended_page_records records (body_sheets state) (keys_in state))

-- The state with its scenes locked.
abbrev pub scenes_locked : State → State
scenes_locked state = record state { scenes = Some (locked_records (headings_of state.lines)) }

-- The state with its pages locked: each page is a record, and so is each heading.
abbrev pub pages_locked : State → State
pages_locked state = record state {
  scenes = scenes_extended (headings_of state.lines) state.scenes;
  pages = Some (extended_page_records [] (body_sheets state) (keys_in state));
}

-- The state in the next round.
abbrev pub round_begun : State → State
round_begun state = record state {
  round = state.round + 1;
  scenes = scenes_extended (headings_of state.lines) state.scenes;
  pages = pages_extended state state.pages;
}
