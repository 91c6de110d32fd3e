-- What extending records answers (docs/RULES.md, "Scene numbers").
use Rattle.std.specs.Prelude.{◌≡◌, ◌<◌, ◌≤◌, List, length, Result, Ok, Err}
use Rattle.spec_labels.specs.Scenes.{HeadingOf, SceneRecordOf, scene_record_limit, extended_records}
use Rattle.sp_labels.specs.declared.fault.LockFault.{LockFault}
use Rattle.sp_labels.specs.declared.fault.LockFault.TheVariants.{RecordsFull, NoMemory}

-- What became of records: they were extended, or they are as they were.
abbrev pub IsExtension : List SceneRecordOf → List HeadingOf → List SceneRecordOf → Result (Unit {0}) LockFault → Type 0
IsExtension old headings new (Ok _) = (length (extended_records old headings) ≤ scene_record_limit) × (new ≡ extended_records old headings)
IsExtension old headings new (Err RecordsFull) = (scene_record_limit < length (extended_records old headings)) × (new ≡ old)
IsExtension old headings new (Err NoMemory) = new ≡ old
