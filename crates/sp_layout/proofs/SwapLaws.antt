-- A part that is laid out anew can be put in the place of what stood there.
use Rattle.std.proofs.Common.{◌≡◌, ℕ, ◌+◌, ◌-◌, ◌<◌, ◌≤◌, Bool, List, ◌++◌, length, take, drop, slice_range, refl, sym, ap, ap₂, subst, ◌∙◌, arith, length-append, take_at, drop_at, All}
use Rattle.spec_text.specs.Lines.{LineState, TextState, IsText, line_texts}
use Rattle.spec_text.proofs.ListLaws.{All-back}
use Rattle.spec_script.specs.LongestRuns.{Group}
use Rattle.spec_script.specs.Stanzas.{PlacedBlock, blocks_of}
use Rattle.spec_pages.specs.Rows.{ElementOf}
use Rattle.spec_sheets.specs.Speakers.{Spoken, spoken_elements, text_elements}
use Rattle.spec_sheets.specs.Layout.{is_title_element, in_body}
use Rattle.spec_sheets.proofs.ElementPlaces.{blocks_of-stand}
use Rattle.spec_sheets.proofs.RowLaws.{IsText-texts}
use Rattle.spec_edit.proofs.MovedElements.{GroupStays}
use Rattle.spec_edit.proofs.LayoutParts.{laid_of, laid-three}
use Rattle.spec_edit.proofs.PlacedElements.{element_first, spoken-firsts, laid-firsts}
use Rattle.sp_layout.specs.Bodies.{KeyedElements}
use Rattle.sp_layout.specs.LaidOut.{LayoutOf, break_places, layout_behind}
use Rattle.sp_layout.specs.Speaking.{SpeakersOf}
use Rattle.sp_layout.specs.declared.kept.PartPlaces.{PartPlaces}
use Rattle.sp_layout.specs.Runs.{MovesBack, ElementMoves, CanExchange, CanExchangeBreaks}
use Rattle.sp_layout.specs.Kept.{CanSwap}
use Rattle.sp_layout.specs.Relaid.{IsRelaid}
use Rattle.sp_layout.proofs.RunsBack.{front-of}
use Rattle.sp_layout.proofs.BreakLaws.{breaks-high, breaks-low, breaks-three, elements-append, elements_in, text-few}

-- A run of elements can be exchanged.
run-can : (body : KeyedElements) (front gone rest : List ElementOf) (from to less more : ℕ) → body.elements ≡ front ++ (gone ++ rest) → from ≡ length front → to ≡ length front + length gone → All (ElementMoves less more) rest
    → CanExchange body from to less more
run-can body front gone rest from to less more is start end moves =
    let parts = front-of front gone rest from to (sym start) (omega (arith, start, end)) in
    record {
      order = omega (arith, start, end);
      within = omega (arith, end, ap (λ (es : List ElementOf). length es) is, length-append front (gone ++ rest), length-append gone rest);
      later = subst (λ (es : List ElementOf). All (ElementMoves less more) es) (sym (ap (drop to) is ∙ parts.2)) moves;
    }

-- And page breaks.
stops-can : (breaks front gone rest others : List ℕ) (from to base less more : ℕ) → breaks ≡ front ++ (gone ++ rest) → from ≡ length front → to ≡ length front + length gone → All (MovesBack 0 base) others → All (MovesBack base 0) gone
    → All (MovesBack less more) rest → CanExchangeBreaks breaks from to others base less more
stops-can breaks front gone rest others from to base less more is start end come go later =
    let parts = front-of front gone rest from to (sym start) (omega (arith, start, end)) in
    let count : to - from ≡ length gone = omega (arith, start, end) in
    let inner : drop from (front ++ (gone ++ rest)) ≡ gone ++ rest = ap (λ n. drop n (front ++ (gone ++ rest))) start ∙ drop_at front (gone ++ rest) (length front) refl in
    let slice : slice_range breaks from to ≡ gone =
    ap (λ (those : List ℕ). take (to - from) (drop from those)) is ∙ ap₂ (λ n (those : List ℕ). take n those) count inner ∙ take_at gone rest (length gone) refl in
    record {
      order = omega (arith, start, end);
      within = omega (arith, end, ap (λ (those : List ℕ). length those) is, length-append front (gone ++ rest), length-append gone rest);
      come = come;
      go = subst (λ (those : List ℕ). All (MovesBack base 0) those) (sym slice) go;
      later = subst (λ (those : List ℕ). All (MovesBack less more) those) (sym (ap (drop to) is ∙ parts.2)) later;
    }

-- Every element of a text begins at one of its lines.
text-firsts : (on : Bool) (text : TextState) → IsText text → All (λ (g : Group Spoken). element_first g < 200000) (text_elements on text.lines)
text-firsts on text keeps =
    let texts = line_texts text.lines in
    let are = IsText-texts text keeps in
    let stand = blocks_of-stand texts are.utf8 are.few in
    spoken-firsts on text.lines _ (λ (p : PlacedBlock). p.first < 200000) (blocks_of texts)
    (λ k d h. let lies = (stand.each k d h).lies in let place = lies.place in let few = are.few in omega (arith, place, few))

-- Where elements that stay begin, they can be moved, and back again.
groups-move : (less more : ℕ) (before lines : List LineState) (groups : List (Group Spoken)) → All (GroupStays less more before lines) groups → All (λ (g : Group Spoken). element_first g < 200000) groups
    → more ≤ 200000 → All (λ (g : Group Spoken). MovesBack less more (element_first g)) groups
groups-move less more before lines groups stay low few k d h =
    let first = (stay k d h).first in
    let one = first.low in
    let two = low k d h in
    record { here = record { from = one; fits = omega (arith, two, few) }; was = omega (arith, two) }

-- The layouts of both texts have few elements; so the part can be put in.
pub relaid-can : (before : TextState) (lines : TextState) (speakers : SpeakersOf) (blocks : List PlacedBlock) (places : PartPlaces) (layout : LayoutOf) → IsText before → IsText lines
    → places.more ≤ 200000 → IsRelaid before.lines lines.lines speakers blocks places layout → CanSwap layout places (layout_behind lines.lines speakers blocks)
relaid-can before lines speakers blocks places layout old_keeps new_keeps near it =
    let on = speakers.on in
    let olds = before.lines in
    let news = lines.lines in
    let less = places.less in
    let more = places.more in
    let come = spoken_elements on news speakers.last blocks in
    let old_low = subst (λ (gs : List (Group Spoken)). All (λ (g : Group Spoken). element_first g < 200000) gs) it.old (text-firsts on before old_keeps) in
    let rest_low = All-back (λ (g : Group Spoken). element_first g < 200000) it.gone it.rest (All-back (λ (g : Group Spoken). element_first g < 200000) it.front (it.gone ++ it.rest) old_low) in
    let moves = groups-move less more olds news it.rest it.moved rest_low near in
    let titles_are : layout.titles.elements ≡ laid_of is_title_element olds it.front ++ (laid_of is_title_element olds it.gone ++ laid_of is_title_element olds it.rest) =
    ap (λ (l : LayoutOf). l.titles.elements) it.was ∙ ap (laid_of is_title_element olds) it.old ∙ laid-three is_title_element olds it.front it.gone it.rest in
    let body_is : layout.body.elements ≡ laid_of in_body olds it.front ++ (laid_of in_body olds it.gone ++ laid_of in_body olds it.rest) =
    ap (λ (l : LayoutOf). l.body.elements) it.was ∙ ap (laid_of in_body olds) it.old ∙ laid-three in_body olds it.front it.gone it.rest in
    let rf = elements_in olds it.front in
    let rg = elements_in olds it.gone in
    let rr = elements_in olds it.rest in
    let rc = elements_in news come in
    let breaks_are : layout.breaks ≡ break_places 0 it.front ++ (break_places rf it.gone ++ break_places (rf + rg) it.rest) =
    ap (λ (l : LayoutOf). l.breaks) it.was ∙ ap (break_places 0) it.old ∙ breaks-three olds olds it.front it.gone it.rest in
    let old_count : rf + rg + rr ≤ 200000 =
    let few = text-few on before old_keeps in
    omega (arith, few, ap (elements_in olds) it.old, elements-append olds it.front (it.gone ++ it.rest), elements-append olds it.gone it.rest) in
    let new_count : rc ≤ 200000 =
    let few = text-few on lines new_keeps in
    omega (arith, few, ap (elements_in news) it.new, elements-append news it.front (come ++ it.said), elements-append news come it.said) in
    let title_from = ap (λ (p : PartPlaces). p.title_from) it.at in
    let title_to = ap (λ (p : PartPlaces). p.title_to) it.at in
    let from = ap (λ (p : PartPlaces). p.from) it.at in
    let to = ap (λ (p : PartPlaces). p.to) it.at in
    let break_from = ap (λ (p : PartPlaces). p.break_from) it.at in
    let break_to = ap (λ (p : PartPlaces). p.break_to) it.at in
    let stops = stops-can layout.breaks (break_places 0 it.front) (break_places rf it.gone) (break_places (rf + rg) it.rest) (break_places 0 come) places.break_from places.break_to rf (rf + rg) (rf + rc) breaks_are break_from break_to
    (λ k d h. let high = breaks-high news 0 come k d h in record { here = record { from = omega arith; fits = omega (arith, high, old_count, new_count) }; was = omega (arith, high, new_count) })
    (λ k d h. let low = breaks-low rf it.gone k d h in let high = breaks-high olds rf it.gone k d h in record { here = record { from = low; fits = omega (arith, high, old_count) }; was = omega (arith, high, old_count) })
    (λ k d h. let low = breaks-low (rf + rg) it.rest k d h in let high = breaks-high olds (rf + rg) it.rest k d h in record { here = record { from = low; fits = omega (arith, high, old_count, new_count) }; was = omega (arith, high, old_count) }) in
    record {
      titles = run-can layout.titles (laid_of is_title_element olds it.front) (laid_of is_title_element olds it.gone) (laid_of is_title_element olds it.rest) places.title_from places.title_to less more titles_are title_from title_to
          (laid-firsts (MovesBack less more) is_title_element olds it.rest moves);
      body = run-can layout.body (laid_of in_body olds it.front) (laid_of in_body olds it.gone) (laid_of in_body olds it.rest) places.from places.to less more body_is from to (laid-firsts (MovesBack less more) in_body olds it.rest moves);
      breaks = subst (λ n. CanExchangeBreaks layout.breaks places.break_from places.break_to (break_places 0 come) n places.to (n + rc)) (sym from)
          (subst (λ m. CanExchangeBreaks layout.breaks places.break_from places.break_to (break_places 0 come) rf m (rf + rc)) (sym to) stops);
    }
