-- What holds from one memory to the next, whatever the command.
use Rattle.std.proofs.Common.{◌≡◌, Option, Some, None, [], refl, sym, ap, subst}
use Rattle.spec_wire.specs.Commands.{CommandOf, edit, undo, redo, lock_scenes, lock_pages, next_round, sheet, labels, blocks, outline, save, speakers, paper, packet}
use Rattle.spec_wire.specs.Replies.{RefusalOf}
use Rattle.spec_machine.specs.Machine.{Memory, memory_after, CanDo}
use Rattle.spec_machine.specs.KeptMemories.{IsWholeMemory}
use Rattle.spec_machine.specs.LabelPromises.{AreLabelled, LosesNone}
use Rattle.spec_machine.specs.SheetPromises.{KeepsSheets}
use Rattle.spec_machine.specs.Refusals.{refusal_to}
use Rattle.spec_machine.specs.Answers.{Step, step_by, step_of}
use Rattle.spec_machine.proofs.LabelLaw.{state-labelled}
use Rattle.spec_machine.proofs.MachineLaws.{step-lost, steps-lost}
use Rattle.spec_machine.proofs.RefusalLaws.{accepted-can}
use Rattle.spec_machine.proofs.DeskLaws.{locking-stays, beginning-stays}

-- ---- nothing refuses it

-- A command that nothing refuses can be done, where what it leads to is whole.
pub free-CanDo : (memory : Memory) (command : CommandOf) → IsWholeMemory (memory_after memory command) → refusal_to memory command ≡ None → CanDo memory command
free-CanDo memory command after free = accepted-can memory command (record { free = free; text = (after.state).text })

-- ---- one step

-- From one memory to the next: labels are as promised and none is lost, and a lock of pages and a new round leave the bytes of every sheet.
pub record Keeps (old : Memory) (command : CommandOf) (new : Memory) : Type 0 where
  pub labelled : AreLabelled new.state
  pub lost : LosesNone old.state new.state
  pub sheets : KeepsSheets command old new

same-sheets : (memory : Memory) (command : CommandOf) → KeepsSheets command memory memory
same-sheets memory lock_pages = refl
same-sheets memory next_round = refl
same-sheets memory (edit it) = tt
same-sheets memory undo = tt
same-sheets memory redo = tt
same-sheets memory lock_scenes = tt
same-sheets memory (speakers on) = tt
same-sheets memory (paper size) = tt
same-sheets memory (sheet index) = tt
same-sheets memory labels = tt
same-sheets memory blocks = tt
same-sheets memory outline = tt
same-sheets memory save = tt
same-sheets memory packet = tt

after-sheets : (memory : Memory) (command : CommandOf) → IsWholeMemory memory → refusal_to memory command ≡ None → KeepsSheets command memory (memory_after memory command)
after-sheets memory lock_pages whole free = locking-stays memory whole.state free
after-sheets memory next_round whole free = beginning-stays memory whole.state
after-sheets memory (edit it) whole free = tt
after-sheets memory undo whole free = tt
after-sheets memory redo whole free = tt
after-sheets memory lock_scenes whole free = tt
after-sheets memory (speakers on) whole free = tt
after-sheets memory (paper size) whole free = tt
after-sheets memory (sheet index) whole free = tt
after-sheets memory labels whole free = tt
after-sheets memory blocks whole free = tt
after-sheets memory outline whole free = tt
after-sheets memory save whole free = tt
after-sheets memory packet whole free = tt

-- Nothing is changed.
pub same-Keeps : (old new : Memory) (command : CommandOf) → IsWholeMemory old → new ≡ old → Keeps old command new
same-Keeps old new command whole is =
    subst (Keeps old command) (sym is) (record { labelled = state-labelled old.state whole.state; lost = steps-lost old [] whole tt; sheets = same-sheets old command })

after-Keeps : (old new : Memory) (command : CommandOf) → IsWholeMemory old → IsWholeMemory new → refusal_to old command ≡ None → new ≡ memory_after old command → Keeps old command new
after-Keeps old new command whole after free is =
    let can = free-CanDo old command (subst IsWholeMemory is after) free in
    subst (Keeps old command) (sym is) (record {
      labelled = subst (λ (m : Memory). AreLabelled m.state) is (state-labelled new.state after.state);
      lost = step-lost old command whole can;
      sheets = after-sheets old command whole free;
    })

-- The step of the machine.
pub step-Keeps : (old new : Memory) (command : CommandOf) (step : Step) → IsWholeMemory old → IsWholeMemory new → step ≡ step_of old command → new ≡ step.after → Keeps old command new
step-Keeps old new command step whole after is there = by (refusal_to old command) refl is
  where
    by : (refusal : Option RefusalOf) → refusal_to old command ≡ refusal → step ≡ step_by old command refusal → Keeps old command new
    by None free same = let e : new ≡ memory_after old command = cc (there, ap (λ (s : Step). s.after) same) in after-Keeps old new command whole after free e
    by (Some reason) free same = let e : new ≡ old = cc (there, ap (λ (s : Step). s.after) same) in same-Keeps old new command whole e
