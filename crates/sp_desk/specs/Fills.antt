-- How many pages a command fills (docs/RULES.md, "Windows").
use Rattle.std.specs.Prelude.{◌≡◌, ℕ, true, length, is_some, OnOk}
use Rattle.std.specs.declared.result.Result.{Result}
use Rattle.spec_text.specs.Edits.{EditOf, refusal_of, replacement_of}
use Rattle.spec_pages.specs.declared.Paper.{Paper}
use Rattle.spec_state.specs.State.{State, text_of}
use Rattle.spec_wire.specs.Commands.{CommandOf, edit, paper}
use Rattle.spec_machine.specs.Machine.{Memory}
use Rattle.spec_locked_pages.specs.Segments.{pages_of}
use Rattle.sp_exchange.specs.Reads.{IsRefused}
use Rattle.sp_reflow.specs.Filling.{FilledAtMost}
use Rattle.sp_reflow.specs.Starts.{many_more}
use Rattle.sp_state.specs.Fills.{EditFills, EditFillsAtMost}

-- An accepted edit fills the pages of its page window, each once; one that finds no memory no more; a refused one none, also
-- where it finds no memory.
pub record FillsOfEdit {T E : Type 0} (state : State) (it : EditOf) (result : Result T E) (fills fills' : ℕ) : Type 0 where
  pub exact : OnOk result (EditFills state (replacement_of state.lines it) fills fills')
  pub at_most : EditFillsAtMost state (replacement_of state.lines it) fills fills'
  pub unfilled : IsRefused (refusal_of (text_of state) it) → fills' ≡ fills

-- An accepted change of the paper fills the pages on the new one, each once; one that finds no memory no more; a refused one
-- none.
pub record FillsOfPaper {T E : Type 0} (state : State) (size : Paper) (result : Result T E) (fills fills' : ℕ) : Type 0 where
  pub exact : OnOk result (fills' ≡ many_more fills (length (pages_of (record state { paper = size }))))
  pub at_most : FilledAtMost fills fills' (length (pages_of (record state { paper = size })))
  pub unfilled : is_some state.pages ≡ true → fills' ≡ fills

-- No other command fills a page.
abbrev pub CommandFills : {T E : Type 0} → State → CommandOf → Result T E → ℕ → ℕ → Type 0
CommandFills state (edit it) result fills fills' = FillsOfEdit state it result fills fills'
CommandFills state (paper size) result fills fills' = FillsOfPaper state size result fills fills'
CommandFills state _ result fills fills' = fills' ≡ fills

-- The same of a command to a desk.
abbrev pub DeskFills : {T E : Type 0} → Memory → CommandOf → Result T E → ℕ → ℕ → Type 0
DeskFills memory command result fills fills' = CommandFills memory.state command result fills fills'
