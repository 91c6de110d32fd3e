-- What holds of a desk behind every list of accepted commands.
use Rattle.std.proofs.Common.{◌≡◌, ℕ, ◌<◌, Option, Some, None, List, length, get_or, refl, subst}
use Rattle.std.specs.Prelude.{IfSome}
use Rattle.spec_labels.specs.Labels.{plain_label}
use Rattle.spec_labels.specs.Scenes.{SceneRecordOf, AreSceneRecords, locked_labels, extended_records}
use Rattle.spec_labels.proofs.SceneStays.{Found, no_heading, extended-found}
use Rattle.spec_state.specs.State.{State}
use Rattle.spec_state.specs.Headings.{headings_of}
use Rattle.spec_state.specs.StateSheets.{bytes_of_state}
use Rattle.spec_state.specs.Keeping.{IsWhole}
use Rattle.spec_state.proofs.StateKeys.{text-headings}
use Rattle.spec_state.proofs.StateLaws.{whole-sound}
use Rattle.spec_state.proofs.OpeningLaw.{lock-bytes, round-bytes}
use Rattle.spec_wire.specs.Commands.{CommandOf, lock_pages, next_round}
use Rattle.spec_machine.specs.Machine.{Memory, opened_memory, memory_after, memory_behind}
use Rattle.spec_machine.specs.Refusals.{refusal_to}
use Rattle.spec_machine.specs.Sessions.{AcceptsAll}
use Rattle.spec_machine.specs.LabelPromises.{AreLabelled, LosesNone}
use Rattle.spec_machine.proofs.LabelLaw.{state-labelled}
use Rattle.spec_machine.proofs.MachineLaws.{opened-whole, steps-whole, steps-lost}
use Rattle.spec_machine.proofs.RefusalLaws.{free-pages}

pub locking-stays : (memory : Memory) → IsWhole memory.state → refusal_to memory lock_pages ≡ None → bytes_of_state (memory_after memory lock_pages).state ≡ bytes_of_state memory.state
locking-stays memory whole free = let can = free-pages memory.state free in lock-bytes memory.state (whole-sound memory.state whole) can.unlocked can.rows

pub beginning-stays : (memory : Memory) → IsWhole memory.state → bytes_of_state (memory_after memory next_round).state ≡ bytes_of_state memory.state
beginning-stays memory whole = round-bytes memory.state (whole-sound memory.state whole)

-- After an opening each heading has a record with the label that it had.
pub opening-found : (state : State) → IsWhole state → (records : List SceneRecordOf) → state.scenes ≡ Some records → (k : ℕ) → k < length (headings_of state.lines)
    → Found (extended_records records (headings_of state.lines)) (get_or (headings_of state.lines) k no_heading).id (get_or (locked_labels records (headings_of state.lines)) k (plain_label 0))
opening-found state whole records is k inside =
    let sound = whole-sound state whole in
    let are : AreSceneRecords records = subst (λ (s : Option (List SceneRecordOf)). IfSome s AreSceneRecords) is sound.scenes in
    extended-found records (headings_of state.lines) k (get_or (headings_of state.lines) k no_heading) (get_or (locked_labels records (headings_of state.lines)) k (plain_label 0)) are (text-headings state whole.text)
    (record { inside = inside; heading_is = refl; label_is = refl })

-- Its states are whole, its labels are as promised and none is lost, and a lock of pages and a new round leave the bytes of every sheet.
pub record AreDeskLaws (start now : Memory) : Type 0 where
  pub whole : IsWhole now.state
  pub labels : AreLabelled now.state
  pub lost : LosesNone start.state now.state
  pub lock : refusal_to now lock_pages ≡ None → bytes_of_state (memory_after now lock_pages).state ≡ bytes_of_state now.state
  pub round : bytes_of_state (memory_after now next_round).state ≡ bytes_of_state now.state

pub desk-laws : (state : State) (commands : List CommandOf) → IsWhole state → AcceptsAll (opened_memory state) commands → AreDeskLaws (opened_memory state) (memory_behind (opened_memory state) commands)
desk-laws state commands is can =
    let now = memory_behind (opened_memory state) commands in
    let start = opened-whole state is in
    let whole = steps-whole (opened_memory state) commands start can in
    record {
      whole = whole.state;
      labels = state-labelled now.state whole.state;
      lost = steps-lost (opened_memory state) commands start can;
      lock = locking-stays now whole.state;
      round = beginning-stays now whole.state;
    }
