-- What a desk reads and fills for a command, by what the machine makes of it (docs/RULES.md, "Windows").
use Rattle.std.specs.Prelude.{ℕ, Option, Some, None}
use Rattle.std.specs.declared.result.Result.{Result}
use Rattle.std.specs.declared.result.Result.TheVariants.{Ok, Err}
use Rattle.spec_wire.specs.Commands.{CommandOf}
use Rattle.spec_wire.specs.Replies.{RefusalOf}
use Rattle.spec_machine.specs.Machine.{Memory}
use Rattle.spec_machine.specs.Refusals.{refusal_to}
use Rattle.sp_desk.specs.Reads.{CommandReads}
use Rattle.sp_desk.specs.Fills.{CommandFills}

-- A command is accepted, or refused.
abbrev pub outcome_of : Option RefusalOf → Result (Unit {0}) (Unit {0})
outcome_of None = Ok tt
outcome_of (Some reason) = Err tt

-- Where there is memory for it.
abbrev pub ReadsOf : Memory → CommandOf → ℕ → ℕ → Type 0
ReadsOf memory command reads reads' = CommandReads memory.state command (outcome_of (refusal_to memory command)) reads reads'

abbrev pub FillsOf : Memory → CommandOf → ℕ → ℕ → Type 0
FillsOf memory command fills fills' = CommandFills memory.state command (outcome_of (refusal_to memory command)) fills fills'

-- Where there is none, no more than that.
abbrev pub ReadsAtMost : Memory → CommandOf → ℕ → ℕ → Type 0
ReadsAtMost memory command reads reads' = CommandReads {T = Unit {0}} {E = Unit {0}} memory.state command (Err tt) reads reads'

abbrev pub FillsAtMost : Memory → CommandOf → ℕ → ℕ → Type 0
FillsAtMost memory command fills fills' = CommandFills {T = Unit {0}} {E = Unit {0}} memory.state command (Err tt) fills fills'
