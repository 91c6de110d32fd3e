-- An edit reads the stanzas of its window.
use Rattle.std.proofs.Common.{◌≡◌, ℕ, ◌+◌, ◌≤◌, List, None, length, refl, sym, ap, ap₂, subst, ◌∙◌, arith}
use Rattle.spec_text.specs.Lines.{TextState, line_texts}
use Rattle.spec_text.specs.Edits.{Displacement, EditOf, displaced_by, refusal_of, replacement_of, restored}
use Rattle.spec_text.specs.Ranges.{RangeOf, range_of}
use Rattle.spec_text.proofs.ExchangeLaws.{length-stretch}
use Rattle.spec_text.proofs.TakenEdits.{taken-inside}
use Rattle.spec_script.specs.BlockValues.{StanzaOf}
use Rattle.spec_edit.specs.Windows.{CountsWindow, IsBefore, IsEdited, IsWindow, stanzas_between}
use Rattle.spec_edit.proofs.DisplacedWindow.{displaces-window}
use Rattle.spec_edit.proofs.Edits.{edited-back, edited-lines}
use Rattle.spec_edit.proofs.Resync.{window-one}
use Rattle.spec_edit.proofs.WindowExists.{window-exists}
use Rattle.sp_reread.specs.Cache.{GivesBack, ReadsWithin, SwappedState, counted_on}
use Rattle.sp_exchange.specs.Reads.{ReadsAtMost, ReadsWindow}
use Rattle.sp_exchange.specs.Restoring.{AreDisplaced, text_stanzas}

-- The range of what was displaced.
abbrev range_by : Displacement → RangeOf
range_by d = record { first = d.first; old = length d.lines; new = d.stands }

range-same : (text : TextState) (edit : EditOf) (d : Displacement) → refusal_of text edit ≡ None → d ≡ displaced_by text (replacement_of text.lines edit) → range_by d ≡ range_of (replacement_of text.lines edit)
range-same text edit d taken is =
    let it = replacement_of text.lines edit in
    ap range_by is
    ∙ ap (λ (old : ℕ). let range : RangeOf = record { first = it.first; old = old; new = length it.texts } in range) (length-stretch text.lines it.first it.old (taken-inside text edit taken))

-- The text before is one that the stanzas could have had.
is-before : (old new : TextState) (d : Displacement) → d.first + d.stands ≤ length new.lines → restored new d ≡ old → IsBefore (text_stanzas old) (line_texts old.lines) (line_texts new.lines) d.first (length d.lines) d.stands
is-before old new d place leads = record {
  edited = subst (λ (t : TextState). IsEdited (line_texts t.lines) (line_texts new.lines) d.first (length d.lines) d.stands) leads
      (edited-back (line_texts new.lines) (line_texts (restored new d).lines) d.first d.stands (length d.lines) (edited-lines new.lines d.lines d.first d.stands place));
  all = refl;
}

-- What was read is the window of the edit.
pub reads-window : (old new : TextState) (edit : EditOf) (d : Displacement) (at count reads reads' : ℕ) → refusal_of old edit ≡ None → d ≡ displaced_by old (replacement_of old.lines edit)
    → d.first + d.stands ≤ length new.lines → restored new d ≡ old → CountsWindow (text_stanzas old) (line_texts new.lines) d.first (length d.lines) d.stands at count → reads' ≡ counted_on count reads
    → ReadsWindow (line_texts old.lines) (line_texts new.lines) (range_of (replacement_of old.lines edit)) reads reads'
reads-window old new edit d at count reads reads' taken is place leads c counted =
    let before = line_texts old.lines in
    let after = line_texts new.lines in
    let own : ReadsWindow before after (range_by d) reads reads' = record {
      a = c.a;
      b = c.b;
      window = c.is before (is-before old new d place leads);
      counted = counted ∙ ap (λ (n : ℕ). counted_on n reads) c.counted;
    } in
    subst (λ (range : RangeOf). ReadsWindow before after range reads reads') (range-same old edit d taken is) own

-- An edit has one window, so what is said of a window is said of each.
pub reads-each : (before after : List (List ℕ)) (range : RangeOf) (reads reads' a b : ℕ) → ReadsWindow before after range reads reads' → IsWindow before after range.first range.old range.new a b
    → reads' ≡ counted_on (length (stanzas_between after a b)) reads
reads-each before after range reads reads' a b r window =
    let one = window-one before after range.first range.old range.new r.a r.b a b r.window window in
    r.counted ∙ ap₂ (λ (x y : ℕ). counted_on (length (stanzas_between after x y)) reads) one.0 one.1

pub window-at-most : (before after : List (List ℕ)) (range : RangeOf) (reads reads' : ℕ) → ReadsWindow before after range reads reads' → ReadsAtMost before after range reads reads'
window-at-most before after range reads reads' r = record {
  a = r.a;
  b = r.b;
  window = r.window;
  count = length (stanzas_between after r.a r.b);
  within = omega arith;
  counted = r.counted;
}

pub none-read : (before after : List (List ℕ)) (range : RangeOf) (reads : ℕ) → ReadsAtMost before after range reads reads
none-read before after range reads =
    let window = window-exists before after range.first range.old range.new in
    record { a = window.0; b = window.1; window = window.2; count = 0; within = omega arith; counted = refl }

pub reads-within : (old new : TextState) (edit : EditOf) (d : Displacement) (stanzas : List StanzaOf) (reads reads' : ℕ) → refusal_of old edit ≡ None → d ≡ displaced_by old (replacement_of old.lines edit)
    → d.first + d.stands ≤ length new.lines → restored new d ≡ old → stanzas ≡ text_stanzas old → ReadsWithin (line_texts new.lines) d.first (length d.lines) d.stands stanzas reads reads'
    → ReadsAtMost (line_texts old.lines) (line_texts new.lines) (range_of (replacement_of old.lines edit)) reads reads'
reads-within old new edit d stanzas reads reads' taken is place leads were r =
    let before = line_texts old.lines in
    let after = line_texts new.lines in
    let was = subst (λ (xs : List StanzaOf). IsBefore xs before after d.first (length d.lines) d.stands) (sym were) (is-before old new d place leads) in
    let window = window-exists before after d.first (length d.lines) d.stands in
    let own : ReadsAtMost before after (range_by d) reads reads' = record {
      a = window.0;
      b = window.1;
      window = window.2;
      count = r.rise;
      within = r.within.most before window.0 window.1 was window.2;
      counted = r.counted;
    } in
    subst (λ (range : RangeOf). ReadsAtMost before after range reads reads') (range-same old edit d taken is) own

-- What was displaced is the old window of the edit.
pub displaced-window : (old new : TextState) (edit : EditOf) (d : Displacement) (swapped : SwappedState) → refusal_of old edit ≡ None → d ≡ displaced_by old (replacement_of old.lines edit)
    → d.first + d.stands ≤ length new.lines → restored new d ≡ old → CountsWindow (text_stanzas old) (line_texts new.lines) d.first (length d.lines) d.stands swapped.at swapped.stands
    → GivesBack swapped (text_stanzas new) (text_stanzas old) → AreDisplaced (line_texts old.lines) (line_texts new.lines) (range_of (replacement_of old.lines edit)) swapped
displaced-window old new edit d swapped taken is place leads c back =
    subst (λ (range : RangeOf). AreDisplaced (line_texts old.lines) (line_texts new.lines) range swapped) (range-same old edit d taken is)
    (displaces-window (line_texts old.lines) (line_texts new.lines) d.first (length d.lines) d.stands swapped.at swapped.stands swapped.stanzas (is-before old new d place leads).edited c back.within back.gives)
