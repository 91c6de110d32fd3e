-- What locking scenes answers (docs/RULES.md, "Scene numbers").
use Rattle.std.specs.Prelude.{◌≡◌, ◌<◌, ◌≤◌, List, length, Some, None, Result, Ok, Err, Vec}
use Rattle.std.specs.Global.{Global}
use Rattle.spec_labels.specs.Scenes.{HeadingOf, SceneRecordOf, scene_record_limit, unlockable_place, disordered_place, locked_records}
use Rattle.sp_scenes.specs.declared.fault.SceneFault.{SceneFault}
use Rattle.sp_scenes.specs.declared.fault.SceneFault.TheVariants.{SceneForm, SceneOrder, RecordsFull, NoMemory}

-- Scenes can be locked, and these are their records.
pub record AreLocked (headings : List HeadingOf) (records : List SceneRecordOf) : Type 0 where
  pub form : unlockable_place headings ≡ None
  pub order : disordered_place headings ≡ None
  pub few : length headings ≤ scene_record_limit
  pub made : records ≡ locked_records headings

-- Why scenes can't be locked: the first of these, or there is no memory.
abbrev pub IsRefused : List HeadingOf → SceneFault → Type 0
IsRefused headings (SceneForm place) = unlockable_place headings ≡ Some place
IsRefused headings (SceneOrder place) = (unlockable_place headings ≡ None) × (disordered_place headings ≡ Some place)
IsRefused headings RecordsFull = (unlockable_place headings ≡ None) × (disordered_place headings ≡ None) × (scene_record_limit < length headings)
IsRefused headings NoMemory = Unit {0}

-- The records of a lock, or why there is none.
abbrev pub IsLocking : List HeadingOf → Result (Vec SceneRecordOf Global) SceneFault → Type 0
IsLocking headings (Ok records) = AreLocked headings records.items
IsLocking headings (Err fault) = IsRefused headings fault
