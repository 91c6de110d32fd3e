use Rattle.std.proofs.Common.{◌≡◌, ◌+◌, List, take, slice_range, sym, ap, ap₂, subst, ◌∙◌, arith, All}
use Rattle.spec_text.specs.Lines.{LineState, line_texts}
use Rattle.spec_script.specs.Elements.{PlacedLies, PlacesRise}
use Rattle.spec_script.specs.Stanzas.{PlacedBlock, blocks_from}
use Rattle.spec_sheets.specs.Speakers.{spoken_elements, text_elements}
use Rattle.spec_edit.specs.Windows.{stanza_lines_in}
use Rattle.spec_edit.proofs.StanzaBlocks.{places-rise}
use Rattle.sp_text.specs.Gap.{text_of}
use Rattle.sp_layout.specs.LaidOut.{LayoutOf, keyed, layout_behind}
use Rattle.sp_layout.specs.Speaking.{speakers_after}
use Rattle.sp_layout.specs.declared.kept.PartPlaces.{PartPlaces}
use Rattle.sp_layout.specs.Kept.{laid_of, places_back, with_part}
use Rattle.sp_layout.specs.Edges.{IsNearestEnd, IsPartEnd, edge_places}
use Rattle.sp_layout.specs.Changes.{CanSpeak}
use Rattle.sp_layout.specs.Relaid.{relaid_elements}
use Rattle.sp_layout.specs.Outside.{StaysOutside}
use Rattle.sp_layout.specs.Edited.{AreAlike, elements_at, window_was, window_end}
use Rattle.sp_layout.proofs.ChangeLaws.{room-spoken, room-through, speak-from, undo-can, undone}
use Rattle.sp_layout.proofs.EditDone.{IsEditDone, can-stand, edit-done}
use Rattle.sp_layout.proofs.OutsideLaws.{outside-said}
use Rattle.sp_layout.proofs.EditedLaws.{EditedPart, at-window, edited, edited-part, can-begin, can-begin-window, can-end-at, old-few, few-lines, part-few, slice-lies}
use Rattle.sp_layout.proofs.FewBlocks.{elements-few, kept-count, laid-count}
use Rattle.sp_layout.proofs.edited.relay_edit.Goals as goal

pub lines_in-requires : goal.lines_in-requires
lines_in-requires c =
    let few = old-few c.args.old.now (text_of c.args.lines.now) c.args.stanzas.now.stanzas c.args.swapped.now c.args.speakers (laid_of c.args.kept.now) c.requires.was in
    omega (arith, few, ap stanza_lines_in c.stanzas.ensures)

pub overflow_add-was : goal.overflow_add-was
overflow_add-was c =
    let few = old-few c.args.old.now (text_of c.args.lines.now) c.args.stanzas.now.stanzas c.args.swapped.now c.args.speakers (laid_of c.args.kept.now) c.requires.was in
    let lines = few-lines (text_of c.args.lines.now) c.args.stanzas.now.stanzas c.len-count.ensures.keeps c.requires.list in
    let first = lines.first c.at-at.result in
    omega (arith, few, first, ap stanza_lines_in c.stanzas.ensures, c.lines_in.ensures, c.lines_before.ensures)

pub part_begin-start-requires-clause-can : goal.part_begin-start-requires-clause-can
part_begin-start-requires-clause-can c = can-begin c.args.old.now (text_of c.args.lines.now) c.args.stanzas.now.stanzas c.args.swapped.now c.args.speakers (laid_of c.args.kept.now) c.requires.was

pub part_begin-start-requires-clause-window : goal.part_begin-start-requires-clause-window
part_begin-start-requires-clause-window c = can-begin-window c.args.old.now (text_of c.args.lines.now) c.args.stanzas.now.stanzas c.args.swapped.now c.args.speakers (laid_of c.args.kept.now) c.requires.was

pub part_end-stop-requires-clause-low : goal.part_end-stop-requires-clause-low
part_end-stop-requires-clause-low c =
    let few = old-few c.args.old.now (text_of c.args.lines.now) c.args.stanzas.now.stanzas c.args.swapped.now c.args.speakers (laid_of c.args.kept.now) c.requires.was in
    let lines = few-lines (text_of c.args.lines.now) c.args.stanzas.now.stanzas c.len-count.ensures.keeps c.requires.list in
    let first = lines.first c.at-at.result in
    omega (arith, few, first, lines.all, ap stanza_lines_in c.stanzas.ensures, c.lines_in.ensures, c.lines_before.ensures)

pub part_end-stop-requires-clause-can : goal.part_end-stop-requires-clause-can
part_end-stop-requires-clause-can c =
    let stanzas = c.args.stanzas.now.stanzas in
    let at : c.at-at.result ≡ c.args.swapped.now.at = c.at-at.ensures in
    let to : c.at-at.result + c.stands.result ≡ c.args.swapped.now.at + c.args.swapped.now.stands = omega (arith, at, c.stands.ensures) in
    let was : c.lines_before.result + c.lines_in.result ≡ window_was stanzas c.args.swapped.now =
    ap₂ (λ n m. n + m) (c.lines_before.ensures ∙ ap (λ n. stanza_lines_in (take n stanzas)) at) (c.lines_in.ensures ∙ ap stanza_lines_in c.stanzas.ensures) in
    let end : c.lines_before-end.result ≡ window_end stanzas c.args.swapped.now = c.lines_before-end.ensures ∙ ap (λ n. stanza_lines_in (take n stanzas)) to in
    can-end-at c.args.old.now (text_of c.args.lines.now) stanzas c.args.swapped.now c.args.speakers (laid_of c.args.kept.now) c.requires.was _ _ _ to was end

pub relay-requires-clause-lie : goal.relay-requires-clause-lie
relay-requires-clause-lie c =
    let one = c.part_begin-start.ensures.is.within in
    let two = c.part_end-stop.ensures.is.low in
    subst (All (PlacedLies (line_texts c.args.lines.now.lines))) (sym (c.deref-2.ensures.value ∙ c.in_ok-blocks.ensures))
    (slice-lies (text_of c.args.lines.now) c.args.stanzas.now.stanzas c.part_begin-start.result.stanza c.part_end-stop.result.stanza c.len-count.ensures.keeps c.requires.list (omega (arith, one, two)))

pub relay-requires-clause-rise : goal.relay-requires-clause-rise
relay-requires-clause-rise c = subst (PlacesRise 0) (sym (c.deref-2.ensures.value ∙ c.in_ok-blocks.ensures)) (places-rise 0 (stanza_lines_in (take c.part_begin-start.result.stanza c.args.stanzas.now.stanzas)) (slice_range c.args.stanzas.now.stanzas c.part_begin-start.result.stanza c.part_end-stop.result.stanza) (omega arith))

pub relay-requires-clause-can : goal.relay-requires-clause-can
relay-requires-clause-can c =
    let stanzas = c.args.stanzas.now.stanzas in
    let at : c.at-at.result ≡ c.args.swapped.now.at = c.at-at.ensures in
    let to : c.at-at.result + c.stands.result ≡ c.args.swapped.now.at + c.args.swapped.now.stands = omega (arith, at, c.stands.ensures) in
    let was : c.lines_before.result + c.lines_in.result ≡ window_was stanzas c.args.swapped.now =
    ap₂ (λ n m. n + m) (c.lines_before.ensures ∙ ap (λ n. stanza_lines_in (take n stanzas)) at) (c.lines_in.ensures ∙ ap stanza_lines_in c.stanzas.ensures) in
    let end : c.lines_before-end.result ≡ window_end stanzas c.args.swapped.now = c.lines_before-end.ensures ∙ ap (λ n. stanza_lines_in (take n stanzas)) to in
    let alike = subst (λ (bs : List PlacedBlock). AreAlike c.args.lines.now.lines bs c.in_ok-last.last (speakers_after (line_texts c.args.lines.now.lines) c.args.speakers (blocks_from 0 (take c.part_begin-start.result.stanza stanzas))))
    (c.deref.ensures.value ∙ sym c.deref-2.ensures.value) c.in_ok-last.ensures in
    (edited-part c.args.old.now (text_of c.args.lines.now) stanzas c.args.swapped.now c.args.speakers (laid_of c.args.kept.now) c.requires.was c.requires.list c.len-count.ensures.keeps _ _ _ _ _ _ _ _ to was end
    c.part_begin-start.ensures.is c.part_end-stop.ensures.is (c.deref-2.ensures.value ∙ c.in_ok-blocks.ensures) alike c.places_between-places.ensures).can

-- The part as it was laid out anew.
part-of : (c : goal.After-drop-blocks-2) → EditedPart c.args.old.now c.requires.was.before.lines c.args.lines.now.lines c.args.stanzas.now.stanzas c.args.swapped.now c.args.speakers c.part_end-stop.result (laid_of c.args.kept.now) c.in_ok-last.last c.deref-2.result.now c.places_between-places.result
part-of c =
    let stanzas = c.args.stanzas.now.stanzas in
    let at : c.at-at.result ≡ c.args.swapped.now.at = c.at-at.ensures in
    let to : c.at-at.result + c.stands.result ≡ c.args.swapped.now.at + c.args.swapped.now.stands = omega (arith, at, c.stands.ensures) in
    let was : c.lines_before.result + c.lines_in.result ≡ window_was stanzas c.args.swapped.now =
    ap₂ (λ n m. n + m) (c.lines_before.ensures ∙ ap (λ n. stanza_lines_in (take n stanzas)) at) (c.lines_in.ensures ∙ ap stanza_lines_in c.stanzas.ensures) in
    let end : c.lines_before-end.result ≡ window_end stanzas c.args.swapped.now = c.lines_before-end.ensures ∙ ap (λ n. stanza_lines_in (take n stanzas)) to in
    let alike = subst (λ (bs : List PlacedBlock). AreAlike c.args.lines.now.lines bs c.in_ok-last.last (speakers_after (line_texts c.args.lines.now.lines) c.args.speakers (blocks_from 0 (take c.part_begin-start.result.stanza stanzas))))
    (c.deref.ensures.value ∙ sym c.deref-2.ensures.value) c.in_ok-last.ensures in
    edited-part c.args.old.now (text_of c.args.lines.now) stanzas c.args.swapped.now c.args.speakers (laid_of c.args.kept.now) c.requires.was c.requires.list c.len-count.ensures.keeps _ _ _ _ _ _ _ _ to was end
    c.part_begin-start.ensures.is c.part_end-stop.ensures.is (c.deref-2.ensures.value ∙ c.in_ok-blocks.ensures) alike c.places_between-places.ensures

same-on : (c : goal.After-drop-blocks-2) → c.in_ok-last.last.on ≡ c.args.speakers
same-on c = c.in_ok-last.ensures.on

mid-is : (c : goal.After-drop-blocks-2) → laid_of c.relay.new.kept ≡ keyed c.args.lines.now.lines (relaid_elements c.requires.was.before.lines c.args.lines.now.lines c.in_ok-last.last c.deref-2.result.now c.places_between-places.result (laid_of c.args.kept.now) (part-of c).relaid)
mid-is c = c.in_ok-part.ensures.layout c.requires.was.before.lines (part-of c).relaid

done-of : (c : goal.After-drop-blocks-2) → IsEditDone c.args.old.now c.requires.was.before.lines (text_of c.args.lines.now) c.args.stanzas.now.stanzas c.args.swapped.now c.args.speakers c.part_end-stop.result (laid_of c.args.kept.now) c.in_ok-last.last c.deref-2.result.now c.places_between-places.result (part-of c) (laid_of c.relay.new.kept) (mid-is c) c.len-count.ensures.keeps c.requires.list (same-on c) c.placed_speech-speech.result
done-of c = edit-done c.args.old.now c.requires.was.before.lines (text_of c.args.lines.now) c.args.stanzas.now.stanzas c.args.swapped.now c.args.speakers c.part_end-stop.result (laid_of c.args.kept.now) c.in_ok-last.last c.deref-2.result.now c.places_between-places.result (part-of c) (laid_of c.relay.new.kept) (mid-is c) c.len-count.ensures.keeps c.requires.list (same-on c) c.in_ok-said.said c.placed_speech-speech.result c.in_ok-said.ensures c.placed_speech-speech.ensures

-- The speech stands behind the part.
speak-at : (c : goal.After-drop-blocks-2) → CanSpeak (laid_of c.relay.new.kept) c.in_ok-part.part.places.to c.placed_speech-speech.result
speak-at c = subst (λ n. CanSpeak (laid_of c.relay.new.kept) n c.placed_speech-speech.result) (sym (ap (λ (p : PartPlaces). p.to) c.in_ok-part.ensures.places)) (done-of c).can

pub returns-clause-layout : goal.returns-clause-layout
returns-clause-layout c = c.exchange_speech-speech.ensures.kept ∙ (done-of c).layout_is

pub returns-clause-part : goal.returns-clause-part
returns-clause-part c =
    let stanzas = c.args.stanzas.now.stanzas in
    let at : c.at-at.result ≡ c.args.swapped.now.at = c.at-at.ensures in
    let to : c.at-at.result + c.stands.result ≡ c.args.swapped.now.at + c.args.swapped.now.stands = omega (arith, at, c.stands.ensures) in
    let was : c.lines_before.result + c.lines_in.result ≡ window_was stanzas c.args.swapped.now =
    ap₂ (λ n m. n + m) (c.lines_before.ensures ∙ ap (λ n. stanza_lines_in (take n stanzas)) at) (c.lines_in.ensures ∙ ap stanza_lines_in c.stanzas.ensures) in
    let end : c.lines_before-end.result ≡ window_end stanzas c.args.swapped.now = c.lines_before-end.ensures ∙ ap (λ n. stanza_lines_in (take n stanzas)) to in
    let layout = laid_of c.args.kept.now in
    let start = c.part_begin-start.result in
    let stop = c.part_end-stop.result in
    record {
      start = start;
      stop = stop;
      come = layout_behind c.args.lines.now.lines c.in_ok-last.last c.deref-2.result.now;
      begins = c.part_begin-start.ensures.is;
      ends = at-window (λ n m k. IsPartEnd stanzas n m k layout stop) to was end c.part_end-stop.ensures.is;
      first = c.part_begin-start.ensures.nearest;
      last = subst (λ n. IsNearestEnd stanzas n stop.stanza) to c.part_end-stop.ensures.nearest;
      at = c.in_ok-part.ensures.places ∙ ap (λ (p : PartPlaces). places_back p (layout_behind c.args.lines.now.lines c.in_ok-last.last c.deref-2.result.now)) (c.places_between-places.ensures ∙ ap₂ (λ n m. edge_places start stop n m) was end);
    }

pub returns-clause-few : goal.returns-clause-few
returns-clause-few c =
    let stanzas = c.args.stanzas.now.stanzas in
    let swapped = c.args.swapped.now in
    let lines = c.args.lines.now.lines in
    let layout = laid_of c.args.kept.now in
    let start = c.part_begin-start.result in
    let stop = c.part_end-stop.result in
    let places = c.places_between-places.result in
    let blocks = c.deref-2.result.now in
    let last = c.in_ok-last.last in
    let come = layout_behind lines last blocks in
    let part = c.in_ok-part.part in
    let at : c.at-at.result ≡ swapped.at = c.at-at.ensures in
    let to : c.at-at.result + c.stands.result ≡ swapped.at + swapped.stands = omega (arith, at, c.stands.ensures) in
    let was : c.lines_before.result + c.lines_in.result ≡ window_was stanzas swapped =
    ap₂ (λ n m. n + m) (c.lines_before.ensures ∙ ap (λ n. stanza_lines_in (take n stanzas)) at) (c.lines_in.ensures ∙ ap stanza_lines_in c.stanzas.ensures) in
    let end : c.lines_before-end.result ≡ window_end stanzas swapped = c.lines_before-end.ensures ∙ ap (λ n. stanza_lines_in (take n stanzas)) to in
    let few = part-few c.args.old.now (text_of c.args.lines.now) stanzas swapped c.args.speakers layout c.requires.was c.requires.list c.len-count.ensures.keeps start stop blocks places c.part_begin-start.ensures.is
    (at-window (λ n m k. IsPartEnd stanzas n m k layout stop) to was end c.part_end-stop.ensures.is) c.part_begin-start.ensures.nearest
    (subst (λ n. IsNearestEnd stanzas n stop.stanza) to c.part_end-stop.ensures.nearest) (c.deref-2.ensures.value ∙ c.in_ok-blocks.ensures) (c.places_between-places.ensures ∙ ap₂ (λ n m. edge_places start stop n m) was end) in
    let laid = few.come in
    let went = few.go in
    let groups = spoken_elements last.on lines last.last blocks in
    let kept = kept-count layout (laid_of c.relay.new.kept) come (laid_of part.kept) places part.places (part-of c).can c.in_ok-part.ensures.part c.in_ok-part.ensures.places c.in_ok-part.ensures.again c.in_ok-part.ensures.back in
    record {
      laid = omega (arith, laid, ap elements_at c.in_ok-part.ensures.places, laid-count lines groups, elements-few last.on lines last.last blocks);
      kept = omega (arith, went, kept);
    }

pub returns-clause-outside : goal.returns-clause-outside
returns-clause-outside c =
    let lines = c.args.lines.now.lines in
    let it = part-of c in
    let new : laid_of c.exchange_speech-speech.new.kept ≡ keyed lines (text_elements c.in_ok-last.last.on lines) = c.exchange_speech-speech.ensures.kept ∙ (done-of c).layout_is ∙ ap (λ on. keyed lines (text_elements on lines)) (sym (same-on c)) in
    subst (λ (olds : List LineState). StaysOutside olds lines (laid_of c.exchange_speech-speech.new.kept).body.elements c.in_ok-part.part.places) c.requires.was.is
    (subst (λ (l : LayoutOf). StaysOutside c.requires.was.before.lines lines l.body.elements c.in_ok-part.part.places) (sym new)
    (subst (λ (p : PartPlaces). StaysOutside c.requires.was.before.lines lines (keyed lines (text_elements c.in_ok-last.last.on lines)).body.elements p) (sym c.in_ok-part.ensures.places)
    (outside-said c.requires.was.before.lines lines c.in_ok-last.last c.deref-2.result.now c.places_between-places.result (laid_of c.args.kept.now) it.relaid it.behind.stood it.behind.stood_is it.behind.stays)))

pub returns-clause-back : goal.returns-clause-back
returns-clause-back c =
    let part = c.in_ok-part.part in
    ap (λ (l : LayoutOf). with_part l part.places (laid_of part.kept))
    (undone (laid_of c.relay.new.kept) (laid_of c.exchange_speech-speech.new.kept) c.placed_speech-speech.result c.exchange_speech-speech.result c.exchange_speech-speech.ensures.kept c.exchange_speech-speech.ensures.back) ∙ c.in_ok-part.ensures.back

pub returns-clause-again : goal.returns-clause-again
returns-clause-again c =
    let part = c.in_ok-part.part in
    let both = undo-can (laid_of c.relay.new.kept) (laid_of c.exchange_speech-speech.new.kept) c.placed_speech-speech.result c.exchange_speech-speech.result part.places (laid_of part.kept)
    c.exchange_speech-speech.ensures.kept c.exchange_speech-speech.ensures.back (speak-at c) c.in_ok-part.ensures.again in
    record { part = both.0; speech = both.1 }

pub returns-clause-returns : goal.returns-clause-returns
returns-clause-returns c =
    let part = c.in_ok-part.part in
    room-spoken c.relay.new.kept c.exchange_speech-speech.new.kept part.places part.kept c.placed_speech-speech.result c.exchange_speech-speech.ensures.kept c.exchange_speech-speech.ensures.room
    c.in_ok-part.ensures.again.body.order (speak-at c) c.in_ok-part.ensures.returns

pub returns-clause-room : goal.returns-clause-room
returns-clause-room c = room-through c.args.kept.now c.relay.new.kept c.exchange_speech-speech.new.kept c.in_ok-part.ensures.room c.exchange_speech-speech.ensures.room

pub placed_speech-speech-requires : goal.placed_speech-speech-requires
placed_speech-speech-requires c =
    let stanzas = c.args.stanzas.now.stanzas in
    let at : c.at-at.result ≡ c.args.swapped.now.at = c.at-at.ensures in
    let to : c.at-at.result + c.stands.result ≡ c.args.swapped.now.at + c.args.swapped.now.stands = omega (arith, at, c.stands.ensures) in
    let was : c.lines_before.result + c.lines_in.result ≡ window_was stanzas c.args.swapped.now =
    ap₂ (λ n m. n + m) (c.lines_before.ensures ∙ ap (λ n. stanza_lines_in (take n stanzas)) at) (c.lines_in.ensures ∙ ap stanza_lines_in c.stanzas.ensures) in
    let end : c.lines_before-end.result ≡ window_end stanzas c.args.swapped.now = c.lines_before-end.ensures ∙ ap (λ n. stanza_lines_in (take n stanzas)) to in
    let alike = subst (λ (bs : List PlacedBlock). AreAlike c.args.lines.now.lines bs c.in_ok-last.last (speakers_after (line_texts c.args.lines.now.lines) c.args.speakers (blocks_from 0 (take c.part_begin-start.result.stanza stanzas))))
    (c.deref.ensures.value ∙ sym c.deref-2.ensures.value) c.in_ok-last.ensures in
    let part : EditedPart c.args.old.now c.requires.was.before.lines c.args.lines.now.lines c.args.stanzas.now.stanzas c.args.swapped.now c.args.speakers c.part_end-stop.result (laid_of c.args.kept.now) c.in_ok-last.last c.deref-2.result.now c.places_between-places.result =
    edited-part c.args.old.now (text_of c.args.lines.now) stanzas c.args.swapped.now c.args.speakers (laid_of c.args.kept.now) c.requires.was c.requires.list c.len-count.ensures.keeps _ _ _ _ _ _ _ _ to was end
    c.part_begin-start.ensures.is c.part_end-stop.ensures.is (c.deref-2.ensures.value ∙ c.in_ok-blocks.ensures) alike c.places_between-places.ensures in
    let mid = c.in_ok-part.ensures.layout c.requires.was.before.lines part.relaid in
    can-stand c.args.old.now c.requires.was.before.lines (text_of c.args.lines.now) c.args.stanzas.now.stanzas c.args.swapped.now c.args.speakers c.part_end-stop.result (laid_of c.args.kept.now) c.in_ok-last.last c.deref-2.result.now c.places_between-places.result part (laid_of c.relay.new.kept) mid c.len-count.ensures.keeps c.requires.list alike.on c.in_ok-said.said c.in_ok-said.ensures

pub exchange_speech-speech-requires : goal.exchange_speech-speech-requires
exchange_speech-speech-requires c =
    let stanzas = c.args.stanzas.now.stanzas in
    let at : c.at-at.result ≡ c.args.swapped.now.at = c.at-at.ensures in
    let to : c.at-at.result + c.stands.result ≡ c.args.swapped.now.at + c.args.swapped.now.stands = omega (arith, at, c.stands.ensures) in
    let was : c.lines_before.result + c.lines_in.result ≡ window_was stanzas c.args.swapped.now =
    ap₂ (λ n m. n + m) (c.lines_before.ensures ∙ ap (λ n. stanza_lines_in (take n stanzas)) at) (c.lines_in.ensures ∙ ap stanza_lines_in c.stanzas.ensures) in
    let end : c.lines_before-end.result ≡ window_end stanzas c.args.swapped.now = c.lines_before-end.ensures ∙ ap (λ n. stanza_lines_in (take n stanzas)) to in
    let alike = subst (λ (bs : List PlacedBlock). AreAlike c.args.lines.now.lines bs c.in_ok-last.last (speakers_after (line_texts c.args.lines.now.lines) c.args.speakers (blocks_from 0 (take c.part_begin-start.result.stanza stanzas))))
    (c.deref.ensures.value ∙ sym c.deref-2.ensures.value) c.in_ok-last.ensures in
    let part : EditedPart c.args.old.now c.requires.was.before.lines c.args.lines.now.lines c.args.stanzas.now.stanzas c.args.swapped.now c.args.speakers c.part_end-stop.result (laid_of c.args.kept.now) c.in_ok-last.last c.deref-2.result.now c.places_between-places.result =
    edited-part c.args.old.now (text_of c.args.lines.now) stanzas c.args.swapped.now c.args.speakers (laid_of c.args.kept.now) c.requires.was c.requires.list c.len-count.ensures.keeps _ _ _ _ _ _ _ _ to was end
    c.part_begin-start.ensures.is c.part_end-stop.ensures.is (c.deref-2.ensures.value ∙ c.in_ok-blocks.ensures) alike c.places_between-places.ensures in
    let mid = c.in_ok-part.ensures.layout c.requires.was.before.lines part.relaid in
    let done = edit-done c.args.old.now c.requires.was.before.lines (text_of c.args.lines.now) c.args.stanzas.now.stanzas c.args.swapped.now c.args.speakers c.part_end-stop.result (laid_of c.args.kept.now) c.in_ok-last.last c.deref-2.result.now c.places_between-places.result part (laid_of c.relay.new.kept) mid c.len-count.ensures.keeps c.requires.list alike.on c.in_ok-said.said c.placed_speech-speech.result c.in_ok-said.ensures c.placed_speech-speech.ensures in
    speak-from (laid_of c.relay.new.kept) 0 _ c.placed_speech-speech.result (omega arith) done.can

pub speech_behind-requires-clause-edit : goal.speech_behind-requires-clause-edit
speech_behind-requires-clause-edit c = edited c.args.old.now c.args.lines.now.lines c.args.stanzas.now.stanzas c.args.swapped.now c.args.speakers (laid_of c.args.kept.now) c.requires.was
