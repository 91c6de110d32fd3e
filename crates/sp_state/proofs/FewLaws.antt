-- An entry that keeps few elements, and the one that leads back.
use Rattle.std.proofs.Common.{◌≡◌, ◌+◌, ◌-◌, List, ◌++◌, length, take, drop, slice_range, Option, Some, None, refl, sym, ap, ap₂, subst, ◌∙◌, arith, length-append, length-take, length-drop, take_at, drop_at}
use Rattle.spec_script.specs.BlockValues.{StanzaOf}
use Rattle.sp_layout.proofs.FewBlocks.{run-size}
use Rattle.sp_layout.proofs.RowSwaps.{length-rows}
use Rattle.sp_layout.specs.LaidOut.{LayoutOf}
use Rattle.sp_reread.specs.Cache.{GivesBack, SwappedState}
use Rattle.sp_layout.specs.declared.kept.PartPlaces.{PartPlaces}
use Rattle.sp_layout.specs.Changes.{CanChange, ChangeOf, SpeechOf, with_change, with_speech}
use Rattle.sp_layout.specs.Edited.{KeepsToWindow, blocks_in, elements_at, elements_kept}
use Rattle.sp_layout.specs.Kept.{laid_of, places_back}
use Rattle.spec_state.specs.State.{State, text_of}
use Rattle.sp_exchange.specs.Restoring.{CanRestoreText, IsTurned, text_before, text_stanzas}
use Rattle.sp_reflow.specs.Starts.{Taken}
use Rattle.sp_text_entry.specs.TextEntries.{TextEntryState}
use Rattle.sp_state.specs.Entries.{EntryState, HoldsFew, StandsBack}
use Rattle.spec_text.specs.Lines.{TextState}

speech-size : (layout : LayoutOf) (speech : Option SpeechOf) → length (with_speech layout speech).body.elements ≡ length layout.body.elements
speech-size layout None = refl
speech-size layout (Some speech) = length-rows layout.body.elements speech.element speech.rows

speech-titles : (layout : LayoutOf) (speech : Option SpeechOf) → length (with_speech layout speech).titles.elements ≡ length layout.titles.elements
speech-titles layout None = refl
speech-titles layout (Some speech) = refl

-- What it keeps is what stood where the part was put in.
turned-count : (old new : LayoutOf) (change other : ChangeOf) → CanChange old change → new ≡ with_change old change → other.part.places ≡ places_back change.part.places (laid_of change.part.kept)
    → CanChange new other → with_change new other ≡ old → elements_kept other.part.kept ≡ elements_at change.part.places
turned-count old new change other can new_is places again gives =
    let at = change.part.places in
    let back = other.part.places in
    let spoken = with_speech old change.speech in
    let others = with_speech new other.speech in
    let t = can.part.titles.order in
    let tw = can.part.titles.within in
    let b = can.part.body.order in
    let bw = can.part.body.within in
    let t2 = again.part.titles.order in
    let tw2 = again.part.titles.within in
    let b2 = again.part.body.order in
    let bw2 = again.part.body.within in
    let s1 = speech-titles old change.speech in
    let s2 = speech-size old change.speech in
    let s3 = speech-titles new other.speech in
    let s4 = speech-size new other.speech in
    let titles : length other.part.kept.titles.elements ≡ at.title_to - at.title_from =
    omega (
      arith,
      t,
      tw,
      t2,
      tw2,
      s1,
      s3,
      ap (λ (l : LayoutOf). length l.titles.elements) new_is,
      ap (λ (l : LayoutOf). length l.titles.elements) gives,
      ap (λ (p : PartPlaces). p.title_from) places,
      ap (λ (p : PartPlaces). p.title_to) places,
      run-size spoken.titles at.title_from at.title_to (laid_of change.part.kept).titles at.less at.more t (omega (arith, tw, s1)),
      run-size others.titles back.title_from back.title_to (laid_of other.part.kept).titles back.less back.more t2 (omega (arith, tw2, s3)),
    ) in
    let body : length other.part.kept.body.elements ≡ at.to - at.from =
    omega (
      arith,
      b,
      bw,
      b2,
      bw2,
      s2,
      s4,
      ap (λ (l : LayoutOf). length l.body.elements) new_is,
      ap (λ (l : LayoutOf). length l.body.elements) gives,
      ap (λ (p : PartPlaces). p.from) places,
      ap (λ (p : PartPlaces). p.to) places,
      run-size spoken.body at.from at.to (laid_of change.part.kept).body at.less at.more b (omega (arith, bw, s2)),
      run-size others.body back.from back.to (laid_of other.part.kept).body back.less back.more b2 (omega (arith, bw2, s4)),
    ) in
    ap₂ (λ n m. n + m) titles body

-- Stanzas put back in the place of others, and those in their turn.
record AreTurned (before after : List StanzaOf) (swapped other : SwappedState) : Type 0 where
  now : slice_range after other.at (other.at + other.stands) ≡ swapped.stanzas
  was : other.stanzas ≡ slice_range before swapped.at (swapped.at + swapped.stands)

stanzas-turned : (before after : List StanzaOf) (swapped other : SwappedState) → GivesBack swapped before after → GivesBack other after before → other.at ≡ swapped.at → other.stands ≡ length swapped.stanzas → AreTurned before after swapped other
stanzas-turned before after swapped other gives back at stands =
    let i = swapped.at in
    let j = swapped.at + swapped.stands in
    let k = other.at + other.stands in
    let front = take i before in
    let rest = drop j before in
    let own = slice_range before i j in
    let within = gives.within in
    let size : length front ≡ i = omega (arith, within, length-take i before) in
    let after_is : after ≡ front ++ (swapped.stanzas ++ rest) = sym gives.gives in
    let behind : drop i after ≡ swapped.stanzas ++ rest = ap (drop i) after_is ∙ drop_at front (swapped.stanzas ++ rest) i size in
    let count : k - other.at ≡ length swapped.stanzas = omega (arith, stands) in
    let now : slice_range after other.at k ≡ swapped.stanzas = ap₂ (λ n m. take n (drop m after)) count at ∙ ap (take (length swapped.stanzas)) behind ∙ take_at swapped.stanzas rest (length swapped.stanzas) refl in
    let ahead : take other.at after ≡ front = ap (λ n. take n after) at ∙ ap (take i) after_is ∙ take_at front (swapped.stanzas ++ rest) i size in
    let before_is : before ≡ front ++ (other.stanzas ++ drop k after) = sym back.gives ∙ ap (λ (ss : List StanzaOf). ss ++ (other.stanzas ++ drop k after)) ahead in
    let past : drop i before ≡ other.stanzas ++ drop k after = ap (drop i) before_is ∙ drop_at front (other.stanzas ++ drop k after) i size in
    let sizes = length-append front (other.stanzas ++ drop k after) in
    let inner = length-append other.stanzas (drop k after) in
    record {
      now = now;
      was = sym (ap (take (j - i)) past ∙ take_at other.stanzas (drop k after) (j - i) (omega (
        arith,
        within,
        size,
        sizes,
        inner,
        ap (λ (ss : List StanzaOf). length ss) before_is,
        back.within,
        stands,
        at,
        ap (λ (ss : List StanzaOf). length ss) after_is,
        length-append front (swapped.stanzas ++ rest),
        length-append swapped.stanzas rest,
        length-drop j before,
        length-drop k after,
      )));
    }

-- The change that leads back keeps to the window too.
turned-few : (before after : List StanzaOf) (swapped others : SwappedState) (old new : LayoutOf) (change other : ChangeOf) → GivesBack swapped before after → GivesBack others after before → others.at ≡ swapped.at → others.stands ≡ length swapped.stanzas
    → CanChange old change → new ≡ with_change old change → other.part.places ≡ places_back change.part.places (laid_of change.part.kept) → CanChange new other → with_change new other ≡ old
    → KeepsToWindow before swapped change → KeepsToWindow after others other
turned-few before after swapped others old new change other gives back at stands can new_is places again leads few =
    let turned = stanzas-turned before after swapped others gives back at stands in
    let kept = turned-count old new change other can new_is places again leads in
    let laid = few.laid in
    let was = few.kept in
    record {
      laid = omega (arith, was, ap blocks_in turned.now, ap elements_at places);
      kept = omega (arith, laid, kept, ap blocks_in turned.was);
    }

-- The entry that turning another one leaves holds few, too.
pub holds-few : (state after : State) (entry : EntryState) (text : TextEntryState) (other : ChangeOf) (pages : Taken) (old new : LayoutOf) → CanRestoreText (text_of state) entry.text.lines entry.text.stanzas
    → IsTurned (text_of state) entry.text.lines entry.text.stanzas text.lines text.stanzas → text_of after ≡ text_before (text_of state) entry.text.lines
    → CanChange old entry.layout → new ≡ with_change old entry.layout → StandsBack entry.layout other → CanChange new other → with_change new other ≡ old
    → HoldsFew (text_of state) entry → HoldsFew (text_of after) (record { text = text; layout = other; pages = pages })
holds-few state after entry text other pages old new can turned is can_change new_is places again leads few =
    let now = text_stanzas (text_of state) in
    let then_are = text_stanzas (text_of after) in
    let gives : GivesBack entry.text.stanzas now then_are = subst (λ (t : TextState). GivesBack entry.text.stanzas now (text_stanzas t)) (sym is) can.stanzas in
    let back : GivesBack text.stanzas then_are now = subst (λ (t : TextState). GivesBack text.stanzas (text_stanzas t) now) (sym is)
    (subst (λ (t : TextState). GivesBack text.stanzas (text_stanzas (text_before (text_of state) entry.text.lines)) (text_stanzas t)) turned.leads turned.can.stanzas) in
    turned-few now then_are entry.text.stanzas text.stanzas old new entry.layout other gives back turned.at turned.stands can_change new_is places again leads few
