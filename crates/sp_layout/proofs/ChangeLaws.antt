-- A layout whose part is exchanged, with the rows of a speech behind it.
use Rattle.std.proofs.Common.{◌≡◌, ℕ, ◌+◌, ◌-◌, ◌<◌, ◌≤◌, ◌^◌, List, ◌++◌, length, map, take, drop, slice_range, Option, Some, None, refl, sym, ap, ap₂, subst, ◌∙◌, arith, length-append, length-take, length-drop, All}
use Rattle.std.proofs.lemmas.List.{length-map}
use Rattle.spec_pages.specs.Rows.{ElementOf}
use Rattle.sp_layout.specs.Bodies.{KeyedElements, BodyOf, row_count}
use Rattle.sp_layout.specs.Exchanges.{AreRowsAlike, moved_element, rows_at, with_run}
use Rattle.sp_layout.proofs.RowSwaps.{alike-back, count-alike, drop-rows, firsts-rows, length-rows, rows-run, rows_at-new, rows_at-run, slice-rows, with_rows-back}
use Rattle.sp_layout.specs.LaidOut.{LayoutOf}
use Rattle.sp_layout.specs.declared.kept.PartPlaces.{PartPlaces}
use Rattle.sp_layout.specs.Runs.{MovesBack, ElementMoves, HasRoom}
use Rattle.sp_layout.specs.Kept.{CanSwap, HasPartRoom, KeepsRoom, KeptOf, laid_of, with_part}
use Rattle.sp_layout.specs.Changes.{CanChange, CanMoveSpeech, CanSpeak, ChangeOf, KeepsAllRoom, SpeaksBehind, SpeechOf, moved_speech, speech_back, with_change, with_speech}

-- The rows of a speech exchanged and back.
pub speech-twice : (layout : LayoutOf) (speech : Option SpeechOf) → with_speech (with_speech layout speech) (speech_back layout speech) ≡ layout
speech-twice layout None = refl
speech-twice layout (Some speech) = ap (λ (body : KeyedElements). record { titles = layout.titles; body = body; breaks = layout.breaks }) (with_rows-back layout.body speech.element speech.rows)

pub speak-back : (layout : LayoutOf) (to : ℕ) (speech : Option SpeechOf) → CanSpeak layout to speech → CanSpeak (with_speech layout speech) to (speech_back layout speech)
speak-back layout to None can = can
speak-back layout to (Some speech) can =
    let es = layout.body.elements in
    let size = length-rows es speech.element speech.rows in
    let inside = can.inside in
    record {
      behind = can.behind;
      inside = omega (arith, inside, size);
      alike = subst (AreRowsAlike (rows_at es speech.element)) (sym (rows_at-new es speech.element speech.rows inside)) (alike-back speech.rows (rows_at es speech.element) can.alike);
    }

pub speak-from : (layout : LayoutOf) (from to : ℕ) (speech : Option SpeechOf) → from ≤ to → CanSpeak layout to speech → CanSpeak layout from speech
speak-from layout from to None order can = can
speak-from layout from to (Some speech) order can = let behind = can.behind in record { behind = omega (arith, order, behind); inside = can.inside; alike = can.alike }

pub speaks-behind : (layout : LayoutOf) (to : ℕ) (speech : Option SpeechOf) → CanSpeak layout to speech → SpeaksBehind to speech
speaks-behind layout to None can = can
speaks-behind layout to (Some speech) can = can.behind

-- A part in front of it can be exchanged as before.
pub swap-spoken : (layout : LayoutOf) (at : PartPlaces) (part : LayoutOf) (speech : Option SpeechOf) → SpeaksBehind at.to speech → CanSwap layout at part → CanSwap (with_speech layout speech) at part
swap-spoken layout at part None behind can = can
swap-spoken layout at part (Some speech) behind can =
    let es = layout.body.elements in
    let order = can.body.order in
    let within = can.body.within in
    record {
      titles = can.titles;
      body = record {
        order = order;
        within = omega (arith, within, length-rows es speech.element speech.rows);
        later = subst (All (ElementMoves at.less at.more)) (sym (drop-rows es at.to speech.element speech.rows behind)) (firsts-rows (MovesBack at.less at.more) (drop at.to es) (speech.element - at.to) speech.rows can.body.later);
      };
      breaks = can.breaks;
    }

-- It is all one whether the part is exchanged before the speech or behind it.
pub part-spoken : (layout : LayoutOf) (at : PartPlaces) (part : LayoutOf) (speech : Option SpeechOf) → SpeaksBehind at.to speech → at.from ≤ at.to → at.to ≤ length layout.body.elements
    → with_part (with_speech layout speech) at part ≡ with_speech (with_part layout at part) (moved_speech at.to (at.from + length part.body.elements) speech)
part-spoken layout at part None behind order within = refl
part-spoken layout at part (Some speech) behind order within =
    let titles = with_run layout.titles at.title_from at.title_to part.titles at.less at.more in
    ap (λ (body : KeyedElements). record { titles = titles; body = body; breaks = (with_part layout at part).breaks }) (rows-run layout.body speech.element speech.rows at.from at.to part.body at.less at.more order behind within)

-- The speech stands behind the part that came.
pub speak-moved : (layout : LayoutOf) (at : PartPlaces) (part : LayoutOf) (speech : Option SpeechOf) → at.from ≤ at.to → at.to ≤ length layout.body.elements → CanSpeak layout at.to speech
    → CanSpeak (with_part layout at part) (at.from + length part.body.elements) (moved_speech at.to (at.from + length part.body.elements) speech)
speak-moved layout at part None order within can = can
speak-moved layout at part (Some speech) order within can =
    let es = layout.body.elements in
    let come = part.body.elements in
    let rest = map (moved_element at.less at.more) (drop at.to es) in
    let behind = can.behind in
    let inside = can.inside in
    record {
      behind = omega arith;
      inside = omega (arith, behind, inside, order, within, length-append (take at.from es) (come ++ rest), length-append come rest, length-map (drop at.to es) (moved_element at.less at.more), length-drop at.to es, length-take at.from es);
      alike = subst (AreRowsAlike speech.rows) (sym (rows_at-run layout.body speech.element at.from at.to part.body at.less at.more order behind within)) can.alike;
    }

-- A part exchanged, and then the speech behind it where it stands now, make the change.
pub record IsChanged (old : LayoutOf) (change : ChangeOf) (mid : LayoutOf) (was end : ℕ) : Type 0 where
  pub behind : SpeaksBehind was change.speech
  pub can_move : CanMoveSpeech was end change.speech
  pub can_speak : CanSpeak mid end (moved_speech was end change.speech)
  pub layout : with_speech mid (moved_speech was end change.speech) ≡ with_change old change

pub changed : (old : LayoutOf) (change : ChangeOf) (mid : LayoutOf) (was end : ℕ) → CanChange old change → mid ≡ with_part old change.part.places (laid_of change.part.kept) → was ≡ change.part.places.to
    → end ≡ change.part.places.from + length change.part.kept.body.elements → length mid.body.elements < 2 ^ 64 → IsChanged old change mid was end
changed old change mid was end can mid_is was_is end_is few =
    let at = change.part.places in
    let part = laid_of change.part.kept in
    let speech = change.speech in
    let to = at.from + length part.body.elements in
    let order = can.part.body.order in
    let within = can.part.body.within in
    let P : ℕ → ℕ → LayoutOf → Type 0 = λ n m (l : LayoutOf). IsChanged old change l n m in
    let speak = speak-moved old at part speech order within can.speech in
    let here : P at.to to (with_part old at part) = record {
      behind = speaks-behind old at.to speech can.speech;
      can_move = small at.to to speech (with_part old at part) speak (subst (λ (l : LayoutOf). length l.body.elements < 2 ^ 64) mid_is few);
      can_speak = speak;
      layout = sym (part-spoken old at part speech (speaks-behind old at.to speech can.speech) order within);
    } in
    subst (λ n. P n end mid) (sym was_is) (subst (λ n. P at.to n mid) (sym end_is) (subst (λ (l : LayoutOf). P at.to to l) (sym mid_is) here))
  where
    small : (from to : ℕ) (speech : Option SpeechOf) (layout : LayoutOf) → CanSpeak layout to (moved_speech from to speech) → length layout.body.elements < 2 ^ 64 → CanMoveSpeech from to speech
    small from to None layout can few = tt
    small from to (Some speech) layout can few = let inside = can.inside in omega (arith, inside, few)

-- It leads back.
pub undone : (mid new : LayoutOf) (speech back : Option SpeechOf) → new ≡ with_speech mid speech → back ≡ speech_back mid speech → with_speech new back ≡ mid
undone mid new speech back is was = ap₂ with_speech is was ∙ speech-twice mid speech

pub undo-can : (mid new : LayoutOf) (speech back : Option SpeechOf) (at : PartPlaces) (part : LayoutOf) → new ≡ with_speech mid speech → back ≡ speech_back mid speech → CanSpeak mid at.to speech → CanSwap mid at part
    → CanSwap new at part × CanSpeak new at.to back
undo-can mid new speech back at part is was speak can =
    let P : LayoutOf → Option SpeechOf → Type 0 = λ (l : LayoutOf) (s : Option SpeechOf). CanSwap l at part × CanSpeak l at.to s in
    subst (λ (l : LayoutOf). P l back) (sym is) (subst (λ (s : Option SpeechOf). P (with_speech mid speech) s) (sym was)
    (swap-spoken mid at part speech (speaks-behind mid at.to speech speak) can, speak-back mid at.to speech speak))

-- ---- room

-- What the exchange of its rows leaves of the sizes of a body.
pub record SameSizes (to : ℕ) (elements others : List ElementOf) : Type 0 where
  pub count : length others ≡ length elements
  pub rows : row_count others ≡ row_count elements
  pub run : (from : ℕ) → from ≤ to → row_count (slice_range others from to) ≡ row_count (slice_range elements from to)

pub sizes-spoken : (layout : LayoutOf) (to : ℕ) (speech : Option SpeechOf) → CanSpeak layout to speech → SameSizes to layout.body.elements (with_speech layout speech).body.elements
sizes-spoken layout to None can = record { count = refl; rows = refl; run = λ from order. refl }
sizes-spoken layout to (Some speech) can =
    let es = layout.body.elements in
    record {
      count = length-rows es speech.element speech.rows;
      rows = count-alike es speech.element speech.rows can.alike;
      run = λ from order. ap row_count (slice-rows es from to speech.element speech.rows order can.behind);
    }

pub room-spoken : (old new : KeptOf) (at : PartPlaces) (part : KeptOf) (speech : Option SpeechOf) → laid_of new ≡ with_speech (laid_of old) speech → KeepsAllRoom old new → at.from ≤ at.to → CanSpeak (laid_of old) at.to speech
    → HasPartRoom old at part → HasPartRoom new at part
room-spoken old new at part speech is room order can has =
    let sizes = sizes-spoken (laid_of old) at.to speech can in
    let elements : new.body.elements ≡ (with_speech (laid_of old) speech).body.elements = ap (λ (l : LayoutOf). l.body.elements) is in
    let count = ap (λ (es : List ElementOf). length es) elements ∙ sizes.count in
    let rows = ap row_count elements ∙ sizes.rows in
    let run = ap (λ (es : List ElementOf). row_count (slice_range es at.from at.to)) elements ∙ sizes.run at.from order in
    let breaks = ap (λ (l : LayoutOf). length l.breaks) is ∙ same-breaks (laid_of old) speech in
    let one = room.room in
    let two = room.row_room in
    let three = room.breaks in
    record {
      titles = subst (λ (b : BodyOf). HasRoom b at.title_from at.title_to part.titles) room.titles has.titles;
      body = record {
        room = let it = has.body.room in omega (arith, it, count, one);
        row_room = let it = has.body.row_room in omega (arith, it, rows, two);
        back_room = has.body.back_room;
        back_row_room = let it = has.body.back_row_room in omega (arith, it, run);
      };
      breaks = let it = has.breaks in omega (arith, it, breaks, three);
      breaks_back = has.breaks_back;
    }
  where
    same-breaks : (layout : LayoutOf) (speech : Option SpeechOf) → length (with_speech layout speech).breaks ≡ length layout.breaks
    same-breaks layout None = refl
    same-breaks layout (Some speech) = refl

pub room-through : (old mid new : KeptOf) → KeepsRoom old mid → KeepsAllRoom mid new → KeepsRoom old new
room-through old mid new keeps all =
    let one = all.room in
    let two = all.row_room in
    let three = all.breaks in
    record {
      titles = subst (λ (b : BodyOf). (old.titles.room ≤ b.room) × (old.titles.row_room ≤ b.row_room)) all.titles keeps.titles;
      body = (let it = keeps.body.0 in omega (arith, it, one), let it = keeps.body.1 in omega (arith, it, two));
      breaks = let it = keeps.breaks in omega (arith, it, three);
    }
