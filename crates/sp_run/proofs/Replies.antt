-- Replies of a desk, and what want of memory leaves.
use Rattle.std.proofs.Common.{◌≡◌, inl, inr, refl, sym, ap, subst, ◌∙◌}
use Rattle.std.specs.Prelude.{Bool, true, false, if◌then◌else◌, is_some, slice_get, Option, Some, None, OnErr, OnOk, Ok, Err}
use Rattle.std.specs.declared.result.Result.{Result}
use Rattle.spec_sheets.specs.Sheets.{Sheet}
use Rattle.spec_state.specs.State.{State}
use Rattle.spec_state.specs.StateSheets.{sheets_of_state}
use Rattle.spec_wire.specs.Commands.{CommandOf, FaultOf, edit, undo, redo, lock_scenes, lock_pages, next_round, sheet, labels, blocks, outline, save, speakers, paper, packet}
use Rattle.spec_wire.specs.Replies as replies
use Rattle.spec_wire.specs.Replies.{RefusalOf, ReplyOf, refused, pages_not_locked}
use Rattle.spec_session.specs.Runs.{AtShelf}
use Rattle.spec_machine.specs.Machine.{Memory, memory_after}
use Rattle.spec_machine.specs.Refusals.{refusal_to}
use Rattle.spec_machine.specs.Answers.{Step, accepted_reply, found_sheet, step_by, step_of}
use Rattle.spec_packet.specs.StatePackets.{packet_places}
use Rattle.sp_wire.specs.Done.{TellsPlainly, may_have_changed}
use Rattle.sp_run.specs.Saving.{files_of}
use Rattle.sp_run.proofs.Stores.{unstored-left}
use Rattle.sp_run.specs.DeskLines.{NamedDesk, Leaves, RepliesTo, StopsAt, Stores, asks_save, is_packet, is_save, line_step_by, other_step, packet_reply, packet_step, saved_step}
use Rattle.sp_run.proofs.Plain.{plain-digest, plain-round}

-- What holds where there is an answer, and where it is an error.
pub on-ok : {T E : Type 0} {P : Type 0} (result : Result T E) → P → OnOk result P
on-ok (Ok value) holds = holds
on-ok (Err fault) holds = tt

pub on-err : {T E : Type 0} {P : Type 0} (result : Result T E) → P → OnErr result P
on-err (Ok value) holds = tt
on-err (Err fault) holds = holds

-- What holds of an error holds with what follows of it.
pub err-with : {T E : Type 0} {P Q : Type 0} (result : Result T E) → OnErr result P → (P → Q) → OnErr result Q
err-with (Ok value) holds gives = tt
err-with (Err fault) holds gives = gives holds

-- ---- the line of a reply

-- A reply that tells what was done tells short and plain texts.
sheet-plain : (found : Option Sheet) → TellsPlainly (found_sheet found)
sheet-plain None = tt
sheet-plain (Some it) = tt

accepted-plain : (memory : Memory) (after : State) (command : CommandOf) → TellsPlainly (accepted_reply memory after command)
accepted-plain memory after (edit it) = tt
accepted-plain memory after undo = tt
accepted-plain memory after redo = tt
accepted-plain memory after lock_scenes = tt
accepted-plain memory after lock_pages = tt
accepted-plain memory after next_round = plain-round after.round
accepted-plain memory after (speakers on) = tt
accepted-plain memory after (paper size) = tt
accepted-plain memory after (sheet index) = sheet-plain (slice_get (sheets_of_state after) index)
accepted-plain memory after labels = tt
accepted-plain memory after blocks = tt
accepted-plain memory after outline = tt
accepted-plain memory after save = tt
accepted-plain memory after packet = tt

pub step-plain : (memory : Memory) (command : CommandOf) → TellsPlainly (step_of memory command).reply
step-plain memory command = by (refusal_to memory command)
  where
    by : (refusal : Option RefusalOf) → TellsPlainly (step_by memory command refusal).reply
    by None = accepted-plain memory (memory_after memory command).state command
    by (Some reason) = tt

pub packet-plain : (state : State) → TellsPlainly (packet_reply state)
packet-plain state = by (is_some state.pages)
  where
    by : (b : Bool) → TellsPlainly (if b then replies.packet (packet_places state) else refused pages_not_locked)
    by true = tt
    by false = tt

line-plain : (memory : Memory) (asked : Result CommandOf FaultOf) → TellsPlainly (line_step_by memory asked).reply
line-plain memory (Err fault) = tt
line-plain memory (Ok command) = by (is_save command) (is_packet command)
  where
    by : (saves packs : Bool) → TellsPlainly (if saves then saved_step memory else (if packs then packet_step memory else step_of memory command)).reply
    by true packs = plain-digest memory.state.lines
    by false true = packet-plain memory.state
    by false false = step-plain memory command

pub replied-plain : (before after : AtShelf NamedDesk) (asked : Result CommandOf FaultOf) (reply : ReplyOf) → RepliesTo before asked after reply → TellsPlainly reply
replied-plain before after asked reply (inl it) = subst TellsPlainly (sym (ap (λ (s : Step). s.reply) it.step)) (line-plain before.it.memory asked)
replied-plain before after asked reply (inr it) = subst TellsPlainly (sym it.told) tt

-- ---- a reply that tells nothing of the kind left all as it was

accepted-undone : (memory : Memory) (command : CommandOf) → may_have_changed (accepted_reply memory (memory_after memory command).state command) ≡ false → memory_after memory command ≡ memory
accepted-undone memory (edit it) told = absurd (let bad : ⊥ = cc in bad)
accepted-undone memory undo told = absurd (let bad : ⊥ = cc in bad)
accepted-undone memory redo told = absurd (let bad : ⊥ = cc in bad)
accepted-undone memory lock_scenes told = absurd (let bad : ⊥ = cc in bad)
accepted-undone memory lock_pages told = absurd (let bad : ⊥ = cc in bad)
accepted-undone memory next_round told = absurd (let bad : ⊥ = cc in bad)
accepted-undone memory (speakers on) told = absurd (let bad : ⊥ = cc in bad)
accepted-undone memory (paper size) told = absurd (let bad : ⊥ = cc in bad)
accepted-undone memory (sheet index) told = refl
accepted-undone memory labels told = refl
accepted-undone memory blocks told = refl
accepted-undone memory outline told = refl
accepted-undone memory save told = refl
accepted-undone memory packet told = refl

step-undone : (memory : Memory) (command : CommandOf) → may_have_changed (step_of memory command).reply ≡ false → (step_of memory command).after ≡ memory
step-undone memory command = by (refusal_to memory command)
  where
    by : (refusal : Option RefusalOf) → may_have_changed (step_by memory command refusal).reply ≡ false → (step_by memory command refusal).after ≡ memory
    by None told = accepted-undone memory command told
    by (Some reason) told = refl

line-same : (memory : Memory) (asked : Result CommandOf FaultOf) → may_have_changed (line_step_by memory asked).reply ≡ false → (line_step_by memory asked).after ≡ memory
line-same memory (Err fault) = λ told. refl
line-same memory (Ok command) = by (is_save command) (is_packet command)
  where
    by : (saves packs : Bool) → may_have_changed (if saves then saved_step memory else (if packs then packet_step memory else step_of memory command)).reply ≡ false
        → (if saves then saved_step memory else (if packs then packet_step memory else step_of memory command)).after ≡ memory
    by true packs told = refl
    by false true told = refl
    by false false told = step-undone memory command told

line-unasked : (memory : Memory) (asked : Result CommandOf FaultOf) → may_have_changed (line_step_by memory asked).reply ≡ false → asks_save asked ≡ false
line-unasked memory (Err fault) = λ told. refl
line-unasked memory (Ok command) = by (is_save command)
  where
    by : (saves : Bool) → may_have_changed (if saves then saved_step memory else other_step memory command).reply ≡ false → saves ≡ false
    by true told = absurd (let bad : ⊥ = cc in bad)
    by false told = refl

pub undone-stops : (before after : AtShelf NamedDesk) (asked : Result CommandOf FaultOf) (reply : ReplyOf) → may_have_changed reply ≡ false → RepliesTo before asked after reply → StopsAt before asked after
undone-stops before after asked reply told (inl it) =
    let undone = sym (ap (λ (s : Step). may_have_changed s.reply) it.step) ∙ told in
    let unasked = line-unasked before.it.memory asked undone in
    record {
      memory = ap (λ (s : Step). s.after) it.step ∙ line-same before.it.memory asked undone;
      name = it.name;
      leaves = subst (λ (b : Bool). Leaves b before after) (sym unasked) (subst (λ (b : Bool). Stores b before after) unasked it.stores);
    }
undone-stops before after asked reply told (inr it) = absurd (let bad : true ≡ false = sym (ap may_have_changed it.told) ∙ told in let no : ⊥ = cc in no)

-- Where nothing was done, all is as it was.
pub none-left : (asks : Bool) (at : AtShelf NamedDesk) → Leaves asks at at
none-left true at = unstored-left {T = Unit {0}} {E = Unit {0}} (Err tt) (files_of at.it.name at.it.memory.state) at.shelf
none-left false at = refl

pub none-stops : (at : AtShelf NamedDesk) (asked : Result CommandOf FaultOf) → StopsAt at asked at
none-stops at asked = record { memory = refl; name = refl; leaves = none-left (asks_save asked) at }
