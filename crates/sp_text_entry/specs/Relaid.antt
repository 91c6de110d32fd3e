-- A layout in an edit, and the rows that the edit exchanges (docs/RULES.md, "Windows").
use Rattle.std.specs.Prelude.{◌≡◌, ℕ, List, length, Option, None, Some, IfSome}
use Rattle.spec_text.specs.Lines.{LineState}
use Rattle.spec_text.specs.Edits.{Replacement}
use Rattle.spec_text.specs.Ranges.{range_of}
use Rattle.spec_script.specs.BlockValues.{StanzaOf}
use Rattle.spec_labels.specs.declared.Moved.{Moved}
use Rattle.spec_labels.specs.Labels.{LabelOf}
use Rattle.spec_sheets.specs.Shown.{shown_rows}
use Rattle.spec_records.specs.Kept.{RecordsOf}
use Rattle.spec_state.specs.State.{State}
use Rattle.spec_state.specs.Changes.{edited_state, segment_rows}
use Rattle.spec_locked_pages.specs.LockedPages.{IsWindowOf}
use Rattle.spec_edit.specs.PageWindows.{Exchange}
use Rattle.spec_refill.specs.Exchanges.{edit_exchange}
use Rattle.sp_reread.specs.Cache.{SwappedState}
use Rattle.sp_text.specs.DisplacedLines.{DisplacedState}
use Rattle.sp_text.specs.Gap.{LinesState}
use Rattle.sp_layout.specs.Bodies.{KeyedElements, row_count}
use Rattle.sp_layout.specs.LaidOut.{LayoutOf}
use Rattle.sp_refill.specs.Edits.{IsOfEdit}
use Rattle.sp_compare.specs.BareRows.{Both, both_of}
use Rattle.sp_compare.specs.OldElements.{OtherRowsOf}
use Rattle.sp_compare.specs.Raised.{AreSegments}
use Rattle.sp_layout.specs.Changes.{ChangeOf, SpeechOf, with_change}
use Rattle.sp_layout.specs.Kept.{KeptOf, laid_of}
use Rattle.sp_layout.specs.Outside.{StaysOutside}
use Rattle.sp_text_entry.specs.Raised.{old_text, raises_in}

-- Some edit of the state left these lines and stanzas, and displaced these stanzas.
pub record IsSomeEditOf (state : State) (lines : List LineState) (stanzas : List StanzaOf) (swapped : SwappedState) : Type 0 where
  pub it : Replacement
  pub is : IsOfEdit state it lines stanzas swapped

-- The body before an edit, by the layout after it and what the edit changed of it.
abbrev pub body_before : LayoutOf → ChangeOf → KeyedElements
body_before layout gone = (with_change layout gone).body

-- The rows of a speech as those that an element of the body had.
abbrev pub others_of : Option SpeechOf → Option OtherRowsOf
others_of None = None
others_of (Some speech) = Some (record { element = speech.element; rows = speech.rows })

-- An exchange of rows is that of an edit.
pub record IsExchangeOf (state : State) (it : Replacement) (edit : Exchange) : Type 0 where
  pub is : (a b : ℕ) → IsWindowOf (range_of it) state (edited_state state it) a b → edit ≡ edit_exchange (range_of it) state (edited_state state it) a b

-- An exchange of rows is that of each edit of the state that left these lines and stanzas, and displaced these stanzas.
abbrev pub ExchangesRowsOf : State → List LineState → List StanzaOf → SwappedState → Exchange → Type 0
ExchangesRowsOf state lines stanzas swapped rows = (edit : Replacement) → IsOfEdit state edit lines stanzas swapped → IsExchangeOf state edit rows

-- The layout before an edit, by that kept after it, and its body.
abbrev pub old_layout_in : KeptOf → ChangeOf → LayoutOf
old_layout_in layout gone = with_change (laid_of layout) gone

abbrev pub old_body_in : KeptOf → ChangeOf → KeyedElements
old_body_in layout gone = body_before (laid_of layout) gone

-- A text before an edit and after it, with its rows.
abbrev pub both_in : LinesState → DisplacedState → KeptOf → ChangeOf → Both
both_in lines back layout gone = both_of (old_text lines back).lines (old_body_in layout gone) lines.lines (laid_of layout).body

-- The rows outside the part that the edit changed stand on lines that the text before it has too.
abbrev pub KeepsOutside : LinesState → DisplacedState → KeptOf → ChangeOf → Type 0
KeepsOutside lines back layout gone = StaysOutside (old_text lines back).lines lines.lines (laid_of layout).body.elements gone.part.places

-- The starts of segments in the rows of a body, one for each page record.
abbrev pub HasSegments : KeyedElements → RecordsOf → List ℕ → Type 0
HasSegments body records starts = IfSome records.pages (λ those. AreSegments (row_count body.elements) (length those) starts)

-- These are the rounds that the page records of a state get, by the first rows that they had, with any labels of headings.
abbrev pub AreRaisedIn : Both → List ℕ → State → List Moved → Type 0
AreRaisedIn both starts state moved = (labels : Option (List LabelOf)) → moved ≡ raises_in (segment_rows (shown_rows both.old labels both.olds) starts) state state.pages
