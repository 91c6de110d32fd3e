-- Faults of locks and of records, as a script tells them (docs/RULES.md, "Commands").
use Rattle.sp_labels.specs.declared.fault.LockFault.{LockFault}
use Rattle.sp_labels.specs.declared.fault.LockFault.TheVariants as locks
use Rattle.sp_scenes.specs.declared.fault.SceneFault.{SceneFault}
use Rattle.sp_scenes.specs.declared.fault.SceneFault.TheVariants as scenes
use Rattle.sp_records.specs.declared.opening_fault.OpeningFault.{OpeningFault}
use Rattle.sp_records.specs.declared.opening_fault.OpeningFault.TheVariants.{SceneForm, SceneOrder, RecordsFull, NoMemory}

-- The fault of a lock of scenes, and of records that are extended, as a script tells it.
abbrev pub scene_fault_of : SceneFault → OpeningFault
scene_fault_of (scenes.SceneForm place) = SceneForm place
scene_fault_of (scenes.SceneOrder place) = SceneOrder place
scene_fault_of scenes.RecordsFull = RecordsFull
scene_fault_of scenes.NoMemory = NoMemory

abbrev pub lock_fault_of : LockFault → OpeningFault
lock_fault_of locks.RecordsFull = RecordsFull
lock_fault_of locks.NoMemory = NoMemory
