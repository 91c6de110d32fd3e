-- How many stanzas an edit of a state reads (docs/RULES.md, "Windows").
use Rattle.std.specs.Prelude.{ℕ}
use Rattle.spec_text.specs.Lines.{line_texts}
use Rattle.spec_text.specs.Edits.{Replacement, replacement_of}
use Rattle.spec_text.specs.Ranges.{range_of}
use Rattle.spec_state.specs.State.{State}
use Rattle.spec_state.specs.Changes.{text_after}
use Rattle.sp_text.specs.declared.edit.Edit.{Edit}
use Rattle.sp_text.specs.Changing.{edit_of}
use Rattle.sp_exchange.specs.Reads.{ReadsAtMost, ReadsWindow}

-- Each stanza of its window once, and no other.
abbrev pub EditReads : State → Replacement → ℕ → ℕ → Type 0
EditReads state it reads reads' = ReadsWindow (line_texts state.lines) (line_texts (text_after state it).lines) (range_of it) reads reads'

-- No more than that.
abbrev pub EditReadsAtMost : State → Replacement → ℕ → ℕ → Type 0
EditReadsAtMost state it reads reads' = ReadsAtMost (line_texts state.lines) (line_texts (text_after state it).lines) (range_of it) reads reads'

-- The same of an edit as it was asked for.
abbrev pub ReadsEdit : State → Edit → ℕ → ℕ → Type 0
ReadsEdit state edit = EditReads state (replacement_of state.lines (edit_of edit))

abbrev pub ReadsEditAtMost : State → Edit → ℕ → ℕ → Type 0
ReadsEditAtMost state edit = EditReadsAtMost state (replacement_of state.lines (edit_of edit))
