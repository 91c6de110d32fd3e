-- A layout before an edit, and what the edit left of it.
use Rattle.std.proofs.Common.{◌≡◌, ℕ, ◌+◌, ◌-◌, ◌≤◌, Bool, None, List, length, refl, sym, ap, subst, ◌∙◌}
use Rattle.spec_text.specs.Lines.{LineState, TextState, IsText, line_texts}
use Rattle.spec_text.specs.Edits.{Displacement, EditOf, Replacement, changed, put_by, refusal_of, replacement_of, line_ids, stretch}
use Rattle.spec_text.specs.Ranges.{range_of}
use Rattle.spec_text.proofs.EditLaws.{length-lines_put}
use Rattle.spec_text.proofs.TakenEdits.{taken-inside}
use Rattle.spec_script.specs.BlockValues.{StanzaOf}
use Rattle.spec_sheets.specs.Layout.{layout_of}
use Rattle.spec_sheets.specs.Speakers.{text_elements}
use Rattle.spec_records.specs.Kept.{RecordsOf}
use Rattle.spec_edit.specs.Windows.{IsWindow, stanzas_between}
use Rattle.spec_edit.proofs.WindowExists.{window-exists}
use Rattle.spec_state.specs.Changes.{edited_state}
use Rattle.spec_state.specs.Keeping.{IsWhole, state_of}
use Rattle.spec_state.specs.StateSheets.{layout_in}
use Rattle.sp_reread.specs.Cache.{GivesBack, SwappedState}
use Rattle.sp_exchange.specs.Restoring.{AreDisplaced, text_stanzas}
use Rattle.sp_layout.specs.LaidOut.{LayoutOf, keyed}
use Rattle.sp_layout.specs.Edited.{WasLaidOf}
use Rattle.sp_layout.proofs.WindowLaws.{was-laid-put}
use Rattle.sp_refill.specs.Edits.{IsOfEdit}
use Rattle.sp_sheets.specs.Firsts.{IsLaidOf}
use Rattle.sp_text_entry.specs.Raised.{state_before}

-- The layout of the text before an edit, by what the edit displaced of the stanzas.
pub was-laid : (old new : TextState) (it : Replacement) (round : ℕ) (swapped : SwappedState) (on : Bool) (layout : LayoutOf) → IsText old → new ≡ changed old it round → it.first + it.old ≤ length old.lines
    → AreDisplaced (line_texts old.lines) (line_texts new.lines) (range_of it) swapped → GivesBack swapped (text_stanzas new) (text_stanzas old) → layout ≡ keyed old.lines (text_elements on old.lines)
    → WasLaidOf old new.lines (text_stanzas new) swapped on layout
was-laid old new it round swapped on layout keeps is inside displaced back was =
    let put = put_by old it round in
    let count : length put ≡ length it.texts = length-lines_put (stretch (line_ids old.lines) it.first it.old) old.next round it.texts in
    let window = window-exists (line_texts old.lines) (line_texts new.lines) it.first it.old (length it.texts) in
    let a = window.0 in
    let b = window.1 in
    let of = displaced.are a b window.2 in
    was-laid-put old new put swapped on layout it.first it.old a b keeps was inside (ap (λ (t : TextState). t.lines) is)
    (subst (λ n. IsWindow (line_texts old.lines) (line_texts new.lines) it.first it.old n a b) (sym count) window.2)
    back of.front of.come (of.gone_are ∙ ap (λ n. stanzas_between (line_texts old.lines) a (b + it.old - n)) (sym count))

-- An accepted edit is one of the state before it.
pub edit-of : (old new : TextState) (records : RecordsOf) (edit : EditOf) (swapped : SwappedState) → let it = replacement_of old.lines edit in
    refusal_of old edit ≡ None → new ≡ changed old it records.round → IsText new → IsWhole (state_of old records)
    → AreDisplaced (line_texts old.lines) (line_texts new.lines) (range_of it) swapped → IsOfEdit (state_of old records) it new.lines (text_stanzas new) swapped
edit-of old new records edit swapped taken is kept whole displaced = record {
  whole = whole;
  can = record { inside = taken-inside old edit taken; text = subst IsText is kept };
  lines_are = ap (λ (t : TextState). t.lines) is;
  stanzas_are = refl;
  window = displaced;
}

-- The body after it is that of the state after it.
pub body-now : (text : TextState) (back : Displacement) (records : RecordsOf) (it : Replacement) (stanzas : List StanzaOf) (swapped : SwappedState) (layout : LayoutOf) → IsOfEdit (state_before text back records) it text.lines stanzas swapped
    → IsLaidOf (state_of text records) layout → layout.body.elements ≡ (layout_in (edited_state (state_before text back records) it)).body
body-now text back records it stanzas swapped layout edit laid =
    ap (λ (l : LayoutOf). l.body.elements) laid ∙ ap (λ (ls : List LineState). (layout_of records.speakers ls).body) edit.lines_are
