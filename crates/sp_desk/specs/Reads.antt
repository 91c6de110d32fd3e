-- How many stanzas a command reads (docs/RULES.md, "Windows").
use Rattle.std.specs.Prelude.{◌≡◌, ℕ, OnOk}
use Rattle.std.specs.declared.result.Result.{Result}
use Rattle.spec_text.specs.Edits.{EditOf, refusal_of, replacement_of}
use Rattle.spec_state.specs.State.{State, text_of}
use Rattle.spec_wire.specs.Commands.{CommandOf, edit}
use Rattle.spec_machine.specs.Machine.{Memory}
use Rattle.sp_exchange.specs.Reads.{IsRefused}
use Rattle.sp_text_entry.specs.Reads.{EditReads, EditReadsAtMost}

-- An accepted edit reads the stanzas of its window, each once; one that finds no memory no more; a refused one none, also where
-- it finds no memory.
pub record ReadsOfEdit {T E : Type 0} (state : State) (it : EditOf) (result : Result T E) (reads reads' : ℕ) : Type 0 where
  pub exact : OnOk result (EditReads state (replacement_of state.lines it) reads reads')
  pub at_most : EditReadsAtMost state (replacement_of state.lines it) reads reads'
  pub unread : IsRefused (refusal_of (text_of state) it) → reads' ≡ reads

-- No other command reads a stanza.
abbrev pub CommandReads : {T E : Type 0} → State → CommandOf → Result T E → ℕ → ℕ → Type 0
CommandReads state (edit it) result reads reads' = ReadsOfEdit state it result reads reads'
CommandReads state _ result reads reads' = reads' ≡ reads

-- The same of a command to a desk.
abbrev pub DeskReads : {T E : Type 0} → Memory → CommandOf → Result T E → ℕ → ℕ → Type 0
DeskReads memory command result reads reads' = CommandReads memory.state command result reads reads'
