-- What a desk answers to commands (docs/RULES.md, "The desk").
use Rattle.std.specs.Prelude.{◌≡◌}
use Rattle.std.specs.declared.result.Result.{Result}
use Rattle.std.specs.declared.result.Result.TheVariants.{Ok, Err}
use Rattle.spec_wire.specs.Commands.{CommandOf}
use Rattle.spec_wire.specs.Replies.{ReplyOf, refused}
use Rattle.spec_machine.specs.Machine.{Memory}
use Rattle.spec_machine.specs.Answers.{Step, step_of}
use Rattle.sp_records.specs.declared.opening_fault.OpeningFault.{OpeningFault}
use Rattle.sp_records.specs.declared.opening_fault.OpeningFault.TheVariants as openings
use Rattle.sp_text.specs.declared.fault.EditFault.{EditFault}
use Rattle.sp_text.specs.declared.fault.EditFault.TheVariants as faults
use Rattle.sp_wire.specs.declared.reply.Refusal.TheVariants as refusals
use Rattle.sp_wire.specs.declared.reply.Reply.{Reply}
use Rattle.sp_wire.specs.Values.{reply_of, refusal_of}
use Rattle.sp_desk.specs.declared.fault.DeskFault.{DeskFault}
use Rattle.sp_desk.specs.declared.fault.DeskFault.TheVariants.{Refused, NoMemory}

abbrev pub step_to : Memory → ReplyOf → Step
step_to after reply = record { after = after; reply = reply }

-- What became of the memory and the answer are the machine's step; for want of memory nothing is changed.
abbrev pub IsAnswer : Memory → CommandOf → Memory → Result Reply DeskFault → Type 0
IsAnswer old command new (Ok reply) = step_to new (reply_of reply) ≡ step_of old command
IsAnswer old command new (Err (Refused reason)) = step_to new (refused (refusal_of reason)) ≡ step_of old command
IsAnswer old command new (Err NoMemory) = new ≡ old

-- The fault of an edit as a desk tells it.
abbrev pub fault_of : EditFault → DeskFault
fault_of faults.Range = Refused refusals.Range
fault_of faults.Boundary = Refused refusals.Boundary
fault_of faults.LineBreak = Refused refusals.LineBreak
fault_of faults.LineFull = Refused refusals.LineFull
fault_of faults.TextFull = Refused refusals.TextFull
fault_of faults.IdsSpent = Refused refusals.IdsSpent
fault_of faults.NoMemory = NoMemory

-- The fault of a lock or a round as a desk tells it.
abbrev pub opening_fault_of : OpeningFault → DeskFault
opening_fault_of openings.ScenesLocked = Refused refusals.ScenesLocked
opening_fault_of (openings.SceneForm place) = Refused (refusals.SceneForm place)
opening_fault_of (openings.SceneOrder place) = Refused (refusals.SceneOrder place)
opening_fault_of openings.ScenesNotLocked = Refused refusals.ScenesNotLocked
opening_fault_of openings.PagesLocked = Refused refusals.PagesLocked
opening_fault_of openings.NoPages = Refused refusals.NoPages
opening_fault_of openings.RoundsFull = Refused refusals.RoundsFull
opening_fault_of openings.RecordsFull = Refused refusals.RecordsFull
opening_fault_of openings.NoMemory = NoMemory
