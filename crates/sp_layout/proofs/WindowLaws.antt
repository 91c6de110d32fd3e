-- A layout before an edit, by the window of the edit.
use Rattle.std.proofs.Common.{◌≡◌, ℕ, ◌+◌, ◌-◌, ◌≤◌, Bool, List, ◌++◌, take, drop, slice_range, sym, ap, subst, ◌∙◌, arith, take-take, drop-drop, length, length-append, length-take, append_assoc, take_at, drop_at}
use Rattle.spec_text.specs.Lines.{LineState, TextState, IsText, line_texts}
use Rattle.spec_script.specs.Stanzas.{stanzas_of}
use Rattle.spec_sheets.specs.Speakers.{text_elements}
use Rattle.spec_edit.specs.Windows.{IsEdited, IsWindow, stanza_lines_in, stanzas_between}
use Rattle.spec_edit.proofs.Counts.{count-between}
use Rattle.spec_edit.proofs.Edits.{edited-lines}
use Rattle.spec_edit.proofs.Resync.{window-cuts, old-cuts}
use Rattle.spec_edit.proofs.WindowSides.{window-sides}
use Rattle.spec_edit.proofs.StanzaBlocks.{lines-append}
use Rattle.sp_layout.specs.LaidOut.{LayoutOf, keyed}
use Rattle.sp_reread.specs.Cache.{GivesBack, SwappedState}
use Rattle.sp_layout.specs.Edited.{WasLaidOf, window_start, window_end, window_was}
use Rattle.sp_layout.proofs.StanzaLists.{take-split}

-- An edit displaced the stanzas of its window, and left the lines outside its range as they were.
pub was-laid-of : (before after : TextState) (swapped : SwappedState) (on : Bool) (layout : LayoutOf) (first old new a b : ℕ) → IsText before → layout ≡ keyed before.lines (text_elements on before.lines)
    → take first before.lines ≡ take first after.lines → drop (first + old) before.lines ≡ drop (first + new) after.lines
    → IsEdited (line_texts before.lines) (line_texts after.lines) first old new → IsWindow (line_texts before.lines) (line_texts after.lines) first old new a b
    → GivesBack swapped (stanzas_of (line_texts after.lines)) (stanzas_of (line_texts before.lines))
    → take swapped.at (stanzas_of (line_texts after.lines)) ≡ stanzas_between (line_texts before.lines) 0 a
    → take swapped.stands (drop swapped.at (stanzas_of (line_texts after.lines))) ≡ stanzas_between (line_texts after.lines) a b
    → swapped.stanzas ≡ stanzas_between (line_texts before.lines) a (b + old - new)
    → WasLaidOf before after.lines (stanzas_of (line_texts after.lines)) swapped on layout
was-laid-of before after swapped on layout first old new a b keeps was start rest edited window back front_are come_are gone_are =
    let olds = line_texts before.lines in
    let news = line_texts after.lines in
    let stanzas = stanzas_of news in
    let old_cuts = old-cuts olds news first old new a b edited window in
    let cuts = window-cuts olds news first old new a b edited window in
    let sides = window-sides olds news first old new a b edited window in
    let low = sides.begin in
    let past = sides.past in
    let was_past = sides.was_past in
    let shift = sides.shift in
    let at = swapped.at in
    let count : at + swapped.stands - at ≡ swapped.stands = omega arith in
    let start_is : window_start stanzas swapped ≡ a = ap stanza_lines_in front_are ∙ count-between olds 0 a (omega (arith, old_cuts.0, old_cuts.3)) ∙ omega arith in
    let was_is : window_was stanzas swapped ≡ b + old - new =
    let gone = ap stanza_lines_in gone_are ∙ count-between olds a (b + old - new) old_cuts.3 in
    omega (arith, start_is, gone, old_cuts.0) in
    let end_is : window_end stanzas swapped ≡ b =
    let own = ap (λ n. stanza_lines_in (take n (drop at stanzas))) count ∙ ap stanza_lines_in come_are ∙ count-between news a b cuts.3 in
    let both = ap stanza_lines_in (take-split stanzas at (at + swapped.stands) (omega arith)) ∙ lines-append (take at stanzas) (slice_range stanzas at (at + swapped.stands)) in
    omega (arith, start_is, own, both, cuts.0) in
    let m = b - (first + new) in
    let there : first + old + m ≡ b + old - new = omega (arith, past) in
    let here : first + new + m ≡ b = omega (arith, past) in
    record {
      keeps = keeps;
      was = was;
      back = back;
      front = subst (λ n. take n before.lines ≡ take n after.lines) (sym start_is) (sym (take-take a first before.lines low) ∙ ap (take a) start ∙ take-take a first after.lines low);
      rest = ap (λ n. drop n before.lines) (was_is ∙ sym there) ∙ sym (drop-drop m (first + old) before.lines) ∙ ap (drop m) rest ∙ drop-drop m (first + new) after.lines
          ∙ ap (λ n. drop n after.lines) (here ∙ sym end_is);
    }

-- The same where the edit put some lines in the place of others.
pub was-laid-put : (before after : TextState) (others : List LineState) (swapped : SwappedState) (on : Bool) (layout : LayoutOf) (first old a b : ℕ) → IsText before → layout ≡ keyed before.lines (text_elements on before.lines)
    → first + old ≤ length before.lines → after.lines ≡ take first before.lines ++ (others ++ drop (first + old) before.lines)
    → IsWindow (line_texts before.lines) (line_texts after.lines) first old (length others) a b
    → GivesBack swapped (stanzas_of (line_texts after.lines)) (stanzas_of (line_texts before.lines))
    → take swapped.at (stanzas_of (line_texts after.lines)) ≡ stanzas_between (line_texts before.lines) 0 a
    → take swapped.stands (drop swapped.at (stanzas_of (line_texts after.lines))) ≡ stanzas_between (line_texts after.lines) a b
    → swapped.stanzas ≡ stanzas_between (line_texts before.lines) a (b + old - length others)
    → WasLaidOf before after.lines (stanzas_of (line_texts after.lines)) swapped on layout
was-laid-put before after others swapped on layout first old a b keeps was low is window back front_are come_are gone_are =
    let front = take first before.lines in
    let rest = drop (first + old) before.lines in
    let count : length front ≡ first = omega (arith, length-take first before.lines, low) in
    let both : length (front ++ others) ≡ first + length others = omega (arith, length-append front others, count) in
    let start : front ≡ take first after.lines = sym (ap (take first) is ∙ take_at front (others ++ rest) first count) in
    let behind : rest ≡ drop (first + length others) after.lines =
    sym (ap (drop (first + length others)) (is ∙ sym (append_assoc front others rest)) ∙ drop_at (front ++ others) rest (first + length others) both) in
    let edited = subst (λ (ls : List LineState). IsEdited (line_texts before.lines) (line_texts ls) first old (length others)) (sym is) (edited-lines before.lines others first old low) in
    was-laid-of before after swapped on layout first old (length others) a b keeps was start behind edited window back front_are come_are gone_are
