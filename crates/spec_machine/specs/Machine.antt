-- The machine of a desk: a state, the entries of edits that can be undone, and of those that were (docs/RULES.md, "The desk").
use Rattle.std.specs.Prelude.{◌≡◌, ◌-◌, ◌<◌, ◌≤◌, true, List, [], ◌∷◌, ◌++◌, length, take, fold, slice_get, Option, Some, None, IfSome, is_some}
use Rattle.spec_text.specs.Lines.{IsText}
use Rattle.spec_text.specs.Edits.{EditOf, Replacement, replacement_of, refusal_of}
use Rattle.spec_text.specs.Ranges.{RangeOf, range_of}
use Rattle.spec_labels.specs.Scenes.{SceneRecordOf, scene_record_limit, unlockable_place, disordered_place}
use Rattle.spec_labels.specs.PageRecords.{PageRecordOf, page_record_limit}
use Rattle.spec_records.specs.Kept.{round_limit}
use Rattle.spec_state.specs.State.{State, text_of}
use Rattle.spec_state.specs.Headings.{headings_of}
use Rattle.spec_state.specs.StateSheets.{rows_in}
use Rattle.spec_state.specs.Openings.{scenes_extended, pages_extended, scenes_locked, pages_locked, round_begun}
use Rattle.spec_state.specs.Changes.{text_after, edited_state}
use Rattle.spec_wire.specs.Commands.{CommandOf, edit, undo, redo, lock_scenes, lock_pages, next_round, speakers, paper}

-- A whole state, with the range of the edit next to it.
pub record EntryOf : Type 0 where
  pub state : State
  pub range : RangeOf

-- The last entry of each list stands last.
pub record Memory : Type 0 where
  pub state : State
  pub done : List EntryOf
  pub undone : List EntryOf

-- A memory without entries.
abbrev pub opened_memory : State → Memory
opened_memory state = record { state = state; done = []; undone = [] }

-- ---- what each command makes of a memory

abbrev pub last_entry : List EntryOf → Option EntryOf
last_entry entries = slice_get entries (length entries - 1)

abbrev pub without_last : List EntryOf → List EntryOf
without_last entries = take (length entries - 1) entries

-- The present state as an entry, with the range of an edit.
abbrev pub entry_of : State → RangeOf → EntryOf
entry_of state range = record { state = state; range = range }

abbrev pub edited_memory : Memory → Replacement → Memory
edited_memory memory it = record { state = edited_state memory.state it; done = memory.done ++ entry_of memory.state (range_of it) ∷ []; undone = [] }

abbrev pub undone_to : Memory → Option EntryOf → Memory
undone_to memory None = memory
undone_to memory (Some entry) =
    record { state = entry.state; done = without_last memory.done; undone = memory.undone ++ entry_of memory.state entry.range ∷ [] }

abbrev pub redone_to : Memory → Option EntryOf → Memory
redone_to memory None = memory
redone_to memory (Some entry) =
    record { state = entry.state; done = memory.done ++ entry_of memory.state entry.range ∷ []; undone = without_last memory.undone }

-- An accepted command's. All other commands change nothing.
abbrev pub memory_after : Memory → CommandOf → Memory
memory_after memory (edit it) = edited_memory memory (replacement_of memory.state.lines it)
memory_after memory undo = undone_to memory (last_entry memory.done)
memory_after memory redo = redone_to memory (last_entry memory.undone)
memory_after memory lock_scenes = opened_memory (scenes_locked memory.state)
memory_after memory lock_pages = opened_memory (pages_locked memory.state)
memory_after memory next_round = opened_memory (round_begun memory.state)
memory_after memory (speakers on) = opened_memory (record (memory.state) { speakers = on })
memory_after memory (paper size) = opened_memory (record (memory.state) { paper = size })
memory_after memory _ = memory

-- ---- when a command that changes a memory can be done

-- The edit isn't refused, and what it makes of the text is one, as it is where the texts of the edit are UTF-8.
pub record CanTake (state : State) (it : EditOf) : Type 0 where
  pub taken : refusal_of (text_of state) it ≡ None
  pub text : IsText (text_after state (replacement_of state.lines it))

pub record CanLockScenes (state : State) : Type 0 where
  pub unlocked : state.scenes ≡ None
  pub form : unlockable_place (headings_of state.lines) ≡ None
  pub order : disordered_place (headings_of state.lines) ≡ None
  pub few : length (headings_of state.lines) ≤ scene_record_limit

abbrev pub FewScenes : Option (List SceneRecordOf) → Type 0
FewScenes scenes = IfSome scenes (λ records. length records ≤ scene_record_limit)

abbrev pub FewPages : Option (List PageRecordOf) → Type 0
FewPages pages = IfSome pages (λ records. length records ≤ page_record_limit)

pub record CanLockPages (state : State) : Type 0 where
  pub scenes : is_some state.scenes ≡ true
  pub unlocked : state.pages ≡ None
  pub rows : 0 < length (rows_in state)
  pub few_scenes : FewScenes (scenes_extended (headings_of state.lines) state.scenes)
  pub few_pages : FewPages (pages_locked state).pages

pub record CanBegin (state : State) : Type 0 where
  pub rounds : state.round < round_limit
  pub few_scenes : FewScenes (scenes_extended (headings_of state.lines) state.scenes)
  pub few_pages : FewPages (pages_extended state state.pages)

abbrev pub CanDo : Memory → CommandOf → Type 0
CanDo memory (edit it) = CanTake memory.state it
CanDo memory undo = 0 < length memory.done
CanDo memory redo = 0 < length memory.undone
CanDo memory lock_scenes = CanLockScenes memory.state
CanDo memory lock_pages = CanLockPages memory.state
CanDo memory next_round = CanBegin memory.state
CanDo memory (speakers on) = memory.state.pages ≡ None
CanDo memory (paper size) = memory.state.pages ≡ None
CanDo memory _ = Unit {0}

-- Commands, one after another.
abbrev pub memory_behind : Memory → List CommandOf → Memory
memory_behind memory commands = fold memory_after memory commands
