-- How many stanzas an edit reads (docs/RULES.md, "Windows").
use Rattle.std.specs.Prelude.{◌≡◌, ℕ, ◌≤◌, List, length, Option, Some, None}
use Rattle.spec_text.specs.Edits.{Refusal}
use Rattle.spec_text.specs.Ranges.{RangeOf}
use Rattle.spec_edit.specs.Windows.{IsWindow, stanzas_between}
use Rattle.spec_script.specs.BlockValues.{StanzaOf}
use Rattle.spec_text.specs.Lines.{line_texts}
use Rattle.sp_text.specs.declared.edit.Edit.{Edit}
use Rattle.sp_text.specs.DisplacedLines.{DisplacedState}
use Rattle.sp_text.specs.Gap.{LinesState}
use Rattle.sp_reread.specs.Cache.{ReadsWithin, counted_on, texts_in}
use Rattle.sp_exchange.specs.Restoring.{range_in, text_edited}

-- Each stanza of the window was read once, and no other.
pub record ReadsWindow (before after : List (List ℕ)) (range : RangeOf) (reads reads' : ℕ) : Type 0 where
  pub a : ℕ
  pub b : ℕ
  pub window : IsWindow before after range.first range.old range.new a b
  pub counted : reads' ≡ counted_on (length (stanzas_between after a b)) reads

-- No more were read than stand in the window.
pub record ReadsAtMost (before after : List (List ℕ)) (range : RangeOf) (reads reads' : ℕ) : Type 0 where
  pub a : ℕ
  pub b : ℕ
  pub window : IsWindow before after range.first range.old range.new a b
  pub count : ℕ
  pub within : count ≤ length (stanzas_between after a b)
  pub counted : reads' ≡ counted_on count reads

-- The stanzas of the window of an edit that was made in a round, each once and no other; and no more than these.
abbrev pub ChangeReads : LinesState → Edit → ℕ → ℕ → ℕ → Type 0
ChangeReads lines edit round reads reads' = ReadsWindow (texts_in lines) (line_texts (text_edited lines edit round).lines) (range_in lines edit) reads reads'

abbrev pub ChangeReadsAtMost : LinesState → Edit → ℕ → ℕ → ℕ → Type 0
ChangeReadsAtMost lines edit round reads reads' = ReadsAtMost (texts_in lines) (line_texts (text_edited lines edit round).lines) (range_in lines edit) reads reads'

-- No more than the stanzas of the window of the edit that displaced these lines.
abbrev pub RereadsAtMost : LinesState → DisplacedState → List StanzaOf → ℕ → ℕ → Type 0
RereadsAtMost lines back stanzas = ReadsWithin (texts_in lines) back.first (length back.lines) back.stands stanzas

-- A refusal fits the edit.
abbrev pub IsRefused : Option Refusal → Type 0
IsRefused None = ⊥
IsRefused (Some reason) = Unit {0}
