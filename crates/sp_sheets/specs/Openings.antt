-- What becomes of a script that locks and rounds are asked of (docs/RULES.md, "Page records", "Scene numbers" and "Commands").
use Rattle.std.specs.Prelude.{◌≡◌, ◌≤◌, Bool, true, false, nat_lt, List, length, Option, Some, None, option_map}
use Rattle.std.specs.declared.result.Result.{Result}
use Rattle.std.specs.declared.result.Result.TheVariants.{Ok, Err}
use Rattle.spec_wire.specs.Replies as replies
use Rattle.spec_wire.specs.Replies.{RefusalOf}
use Rattle.spec_labels.specs.Scenes.{HeadingOf, scene_record_limit, unlockable_place, disordered_place}
use Rattle.spec_labels.specs.PageRecords.{PageRecordOf, page_record_limit, extended_page_records}
use Rattle.spec_state.specs.State.{State}
use Rattle.spec_machine.specs.Machine.{FewPages}
use Rattle.spec_machine.specs.Refusals.{are_more, first_of, reason_if}
use Rattle.sp_labels.specs.declared.fault.LockFault.{LockFault}
use Rattle.sp_labels.specs.declared.fault.LockFault.TheVariants as locks
use Rattle.sp_records.specs.declared.opening_fault.OpeningFault.{OpeningFault}
use Rattle.sp_records.specs.declared.opening_fault.OpeningFault.TheVariants.{ScenesLocked, SceneForm, SceneOrder, ScenesNotLocked, PagesLocked, NoPages, RoundsFull, RecordsFull, NoMemory}
use Rattle.sp_sheets.specs.Made.{MadeOf}

-- The fault is the refusal, or there is no memory.
abbrev pub IsReason : Option RefusalOf → OpeningFault → Type 0
IsReason refusal ScenesLocked = refusal ≡ Some replies.scenes_locked
IsReason refusal (SceneForm place) = refusal ≡ Some (replies.scene_form place)
IsReason refusal (SceneOrder place) = refusal ≡ Some (replies.scene_order place)
IsReason refusal ScenesNotLocked = refusal ≡ Some replies.scenes_not_locked
IsReason refusal PagesLocked = refusal ≡ Some replies.pages_locked
IsReason refusal NoPages = refusal ≡ Some replies.no_pages
IsReason refusal RoundsFull = refusal ≡ Some replies.rounds_full
IsReason refusal RecordsFull = refusal ≡ Some replies.records_full
IsReason refusal NoMemory = Unit {0}

-- A state that nothing refused became another; or it is as it was, for the refusal or for want of memory.
abbrev pub IsOpening : Option RefusalOf → State → State → State → Result (Unit {0}) OpeningFault → Type 0
IsOpening refusal opened old new (Ok _) = (refusal ≡ None) × (new ≡ opened)
IsOpening refusal opened old new (Err fault) = IsReason refusal fault × (new ≡ old)

-- There would be too many records, or there is no memory.
abbrev pub IsFull : Type 0 → LockFault → Type 0
IsFull many locks.RecordsFull = many
IsFull many locks.NoMemory = Unit {0}

-- The page records with one for every page of what is made of a state, where pages are locked.
abbrev pub pages_made : MadeOf → Option (List PageRecordOf) → Option (List PageRecordOf)
pages_made it None = None
pages_made it (Some records) = Some (extended_page_records records it.numbered.sheets it.layout.body.keys)

-- They are so, or they are as they were.
abbrev pub ArePagesOpened : MadeOf → Option (List PageRecordOf) → Option (List PageRecordOf) → Result (Unit {0}) LockFault → Type 0
ArePagesOpened it old new (Ok _) = FewPages (pages_made it old) × (new ≡ pages_made it old)
ArePagesOpened it old new (Err locks.RecordsFull) = (are_more page_record_limit (pages_made it old) ≡ true) × (new ≡ old)
ArePagesOpened it old new (Err locks.NoMemory) = new ≡ old

-- Scenes with these headings can be locked, and why they can't.
pub record CanLockHeadings (locked : Bool) (headings : List HeadingOf) : Type 0 where
  pub unlocked : locked ≡ false
  pub form : unlockable_place headings ≡ None
  pub order : disordered_place headings ≡ None
  pub few : length headings ≤ scene_record_limit

abbrev pub headings_refusal : Bool → List HeadingOf → Option RefusalOf
headings_refusal locked headings =
    first_of (reason_if locked replies.scenes_locked)
    (first_of (option_map replies.scene_form (unlockable_place headings))
    (first_of (option_map replies.scene_order (disordered_place headings))
    (reason_if (nat_lt scene_record_limit (length headings)) replies.records_full)))
