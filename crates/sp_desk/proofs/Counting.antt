-- A command that finds no memory may read nothing and fill nothing.
use Rattle.std.proofs.Common.{ℕ, Err, refl, arith}
use Rattle.spec_text.specs.Edits.{replacement_of}
use Rattle.spec_text.specs.Lines.{line_texts}
use Rattle.spec_text.specs.Ranges.{range_of}
use Rattle.spec_state.specs.State.{State}
use Rattle.spec_state.specs.Changes.{edited_state, text_after}
use Rattle.spec_wire.specs.Commands.{CommandOf, edit, undo, redo, lock_scenes, lock_pages, next_round, sheet, labels, blocks, outline, save, speakers, paper, packet}
use Rattle.sp_exchange.proofs.ReadLaws.{none-read}
use Rattle.sp_state.proofs.FillLaws.{none-filled}
use Rattle.sp_desk.specs.Reads.{CommandReads}
use Rattle.sp_desk.specs.Fills.{CommandFills}

pub no-reads : (T E : Type 0) (state : State) (command : CommandOf) (error : E) (reads : ℕ) → CommandReads {T = T} {E = E} state command (Err error) reads reads
no-reads T E state (edit it) error reads = record {
  exact = tt;
  at_most = none-read (line_texts state.lines) (line_texts (text_after state (replacement_of state.lines it)).lines) (range_of (replacement_of state.lines it)) reads;
  unread = λ _. refl;
}
no-reads T E state undo error reads = refl
no-reads T E state redo error reads = refl
no-reads T E state lock_scenes error reads = refl
no-reads T E state lock_pages error reads = refl
no-reads T E state next_round error reads = refl
no-reads T E state (sheet index) error reads = refl
no-reads T E state labels error reads = refl
no-reads T E state blocks error reads = refl
no-reads T E state outline error reads = refl
no-reads T E state save error reads = refl
no-reads T E state (speakers on) error reads = refl
no-reads T E state (paper size) error reads = refl
no-reads T E state packet error reads = refl

pub no-fills : (T E : Type 0) (state : State) (command : CommandOf) (error : E) (fills : ℕ) → CommandFills {T = T} {E = E} state command (Err error) fills fills
no-fills T E state (edit it) error fills = record {
  exact = tt;
  at_most = none-filled state (edited_state state (replacement_of state.lines it)) (range_of (replacement_of state.lines it)) fills;
  unfilled = λ _. refl;
}
no-fills T E state undo error fills = refl
no-fills T E state redo error fills = refl
no-fills T E state lock_scenes error fills = refl
no-fills T E state lock_pages error fills = refl
no-fills T E state next_round error fills = refl
no-fills T E state (sheet index) error fills = refl
no-fills T E state labels error fills = refl
no-fills T E state blocks error fills = refl
no-fills T E state outline error fills = refl
no-fills T E state save error fills = refl
no-fills T E state (speakers on) error fills = refl
no-fills T E state (paper size) error fills = record { exact = tt; at_most = record { count = 0; within = omega arith; is = refl }; unfilled = λ _. refl }
no-fills T E state packet error fills = refl
