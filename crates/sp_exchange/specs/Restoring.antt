-- Lines and stanzas of a text that an edit displaced together (docs/RULES.md, "Windows").
use Rattle.std.specs.Prelude.{◌≡◌, ℕ, ◌+◌, ◌-◌, ◌≤◌, Option, List, length}
use Rattle.spec_text.specs.Lines.{TextState, IsText, line_texts}
use Rattle.spec_text.specs.Edits.{Refusal, Replacement, changed, displaced_again, displaced_by, refusal_of, replacement_of, restored}
use Rattle.spec_text.specs.Ranges.{RangeOf, range_of}
use Rattle.spec_script.specs.BlockValues.{StanzaOf}
use Rattle.spec_script.specs.Stanzas.{stanzas_of}
use Rattle.spec_edit.specs.Displaced.{DisplacesWindow}
use Rattle.spec_edit.specs.Windows.{WasList}
use Rattle.sp_text.specs.declared.edit.Edit.{Edit}
use Rattle.sp_text.specs.Changing.{edit_of}
use Rattle.sp_text.specs.Gap.{LinesState, text_of}
use Rattle.sp_text.specs.DisplacedLines.{DisplacedState, displaced_of}
use Rattle.sp_reread.specs.Cache.{GivesBack, StandInWindow, SwappedState, texts_in}

-- The stanzas of a text.
abbrev pub text_stanzas : TextState → List StanzaOf
text_stanzas text = stanzas_of (line_texts text.lines)

-- Lines, and for how many stanzas there is room without taking memory. The stanzas are those of the lines.
pub record TextOf : Type 0 where
  pub lines : LinesState
  pub room : ℕ

abbrev pub stanzas_in : TextOf → List StanzaOf
stanzas_in text = text_stanzas (text_of text.lines)

-- What an edit replaces of these lines, why it is refused, and the text after it in a round.
abbrev pub replacement_in : LinesState → Edit → Replacement
replacement_in lines edit = replacement_of lines.lines (edit_of edit)

abbrev pub range_in : LinesState → Edit → RangeOf
range_in lines edit = range_of (replacement_in lines edit)

abbrev pub refusal_in : LinesState → Edit → Option Refusal
refusal_in lines edit = refusal_of (text_of lines) (edit_of edit)

abbrev pub text_edited : LinesState → Edit → ℕ → TextState
text_edited lines edit round = changed (text_of lines) (replacement_in lines edit) round

-- The text with displaced lines put back.
abbrev pub text_before : TextState → DisplacedState → TextState
text_before text back = restored text (displaced_of back)

-- What an edit displaces of these lines.
abbrev pub Displaces : LinesState → Edit → DisplacedState → Type 0
Displaces lines edit back = displaced_of back ≡ displaced_by (text_of lines) (replacement_in lines edit)

-- Lines and stanzas can be put back: then the stanzas are those of the text again.
pub record CanRestoreText (text : TextState) (back : DisplacedState) (swapped : SwappedState) : Type 0 where
  pub place : back.first + back.stands ≤ length text.lines
  pub keeps : IsText (text_before text back)
  pub stanzas : GivesBack swapped (text_stanzas text) (text_stanzas (text_before text back))

-- The stanzas are those of a text of which an edit made these lines, and displaced those.
abbrev pub StoodBefore : LinesState → DisplacedState → List StanzaOf → Type 0
StoodBefore lines back stanzas = WasList stanzas (texts_in lines) back.first (length back.lines) back.stands

-- The stanzas stand in the window of the edit that displaced these lines.
abbrev pub StandInWindowOf : LinesState → DisplacedState → List StanzaOf → SwappedState → Type 0
StandInWindowOf lines back stanzas = StandInWindow stanzas (texts_in lines) back.first (length back.lines) back.stands

-- What was displaced of the stanzas is what stood in the window of an edit of this range.
abbrev pub AreDisplaced : List (List ℕ) → List (List ℕ) → RangeOf → SwappedState → Type 0
AreDisplaced before after range swapped = DisplacesWindow before after range.first range.old range.new swapped.at swapped.stands swapped.stanzas

abbrev pub DisplacesStanzas : LinesState → LinesState → Edit → SwappedState → Type 0
DisplacesStanzas before after edit = AreDisplaced (texts_in before) (texts_in after) (range_in before edit)

-- What putting something back displaced: it can be put back in its turn, and leads back.
pub record IsTurned (text : TextState) (back : DisplacedState) (swapped : SwappedState) (other : DisplacedState) (others : SwappedState) : Type 0 where
  pub are : displaced_of other ≡ displaced_again text (displaced_of back)
  pub leads : text_before (text_before text back) other ≡ text
  pub can : CanRestoreText (text_before text back) other others
  pub at : others.at ≡ swapped.at
  pub stands : others.stands ≡ length swapped.stanzas

-- There is room for what putting it back takes.
pub record HasRoomFor (text : TextOf) (back : DisplacedState) (swapped : SwappedState) : Type 0 where
  pub lines_room : length text.lines.lines - back.stands + length back.lines ≤ text.lines.room
  pub displaced_room : back.stands ≤ back.room
  pub stanzas_room : length (stanzas_in text) - swapped.stands + length swapped.stanzas ≤ text.room
  pub swapped_room : swapped.stands ≤ swapped.room

-- Displaced stanzas, without their room.
pub record Swap : Type 0 where
  pub at : ℕ
  pub stands : ℕ
  pub stanzas : List StanzaOf

abbrev pub swap_of : SwappedState → Swap
swap_of it = record { at = it.at; stands = it.stands; stanzas = it.stanzas }

-- The same; vectors may have other room.
pub record IsSameText (one : DisplacedState) (ones : SwappedState) (other : DisplacedState) (others : SwappedState) : Type 0 where
  pub lines : displaced_of one ≡ displaced_of other
  pub stanzas : swap_of ones ≡ swap_of others
