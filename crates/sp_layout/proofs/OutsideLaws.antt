-- Rows outside a part of a layout that an edit changes.
use Rattle.std.proofs.Common.{◌≡◌, ℕ, ◌+◌, ◌++◌, List, length, map, take, drop, refl, sym, ap, ap₂, subst, ◌∙◌, arith}
use Rattle.std.specs.Prelude.{All}
use Rattle.spec_text.specs.Lines.{LineState}
use Rattle.spec_script.specs.Stanzas.{PlacedBlock}
use Rattle.spec_pages.specs.Rows.{Row, ElementOf, line_state}
use Rattle.spec_script.specs.LongestRuns.{Group}
use Rattle.spec_sheets.specs.Speakers.{Spoken, spoken_elements, text_elements}
use Rattle.spec_sheets.specs.Layout.{in_body, placed_in}
use Rattle.spec_edit.specs.RowLines.{RowAt}
use Rattle.spec_edit.specs.Moved.{moved_group}
use Rattle.spec_edit.proofs.MovedElements.{GroupStays}
use Rattle.spec_edit.proofs.LayoutParts.{laid_of, laid-moved, laid-three, still-laid, still-place}
use Rattle.spec_edit.proofs.StayingRows.{Stood, laid-stood}
use Rattle.sp_gap.specs.Moves.{shifted}
use Rattle.sp_layout.specs.Exchanges.{moved_element}
use Rattle.sp_layout.specs.LaidOut.{LayoutOf, layout_behind}
use Rattle.sp_layout.specs.Speaking.{SpeakersOf}
use Rattle.sp_layout.specs.declared.kept.PartPlaces.{PartPlaces}
use Rattle.sp_layout.specs.Kept.{places_back, with_part}
use Rattle.sp_layout.specs.Outside.{StaysOutside}
use Rattle.sp_layout.specs.Relaid.{IsRelaid}
use Rattle.sp_layout.proofs.PartLaws.{front-laid}
use Rattle.sp_layout.proofs.RunsBack.{front-of}

rows-as : (P Q : ℕ → Type 0) (rows : List Row) → ((place : ℕ) → P place → Q place) → All (RowAt P) rows → All (RowAt Q) rows
rows-as P Q rows weaker all k d h = let it = all k d h in record { row = weaker _ it.row; cells = λ i e g. weaker _ (it.cells i e g) }

-- Behind the elements that come stand those that stay.
outside-of : (before lines : List LineState) (front stood : List (Group Spoken)) (come elements : List ElementOf) (places : PartPlaces) → All (GroupStays 0 0 before lines) front → All (GroupStays places.more places.less before lines) stood
    → elements ≡ laid_of in_body before front ++ (come ++ map (moved_element places.more places.less) (laid_of in_body before stood)) → places.from ≡ length (laid_of in_body before front) → places.to ≡ places.from + length come
    → StaysOutside before lines elements places
outside-of before lines front stood come elements places still stays is from to =
    let less = places.more in
    let more = places.less in
    let fore = laid_of in_body before front in
    let moved = map (moved_element less more) (laid_of in_body before stood) in
    let own = front-of fore come moved places.from places.to (sym from) (omega (arith, from, to)) in
    let kept = subst (λ (es : List ElementOf). All (RowAt (Stood 0 0 before lines)) (placed_in es)) (still-laid fore) (laid-stood 0 0 before lines in_body front still) in
    record {
      front = subst (λ (es : List ElementOf). All (RowAt (λ place. line_state before place ≡ line_state lines place)) (placed_in es)) (sym (ap (take places.from) is ∙ own.0))
          (rows-as (Stood 0 0 before lines) (λ place. line_state before place ≡ line_state lines place) (placed_in fore) (λ place same. ap (line_state before) (sym (still-place place)) ∙ same) kept);
      behind = subst (λ (es : List ElementOf). All (RowAt (λ place. line_state before (shifted more less place) ≡ line_state lines place)) (placed_in es)) (sym (ap (drop places.to) is ∙ own.2))
          (laid-stood less more before lines in_body stood stays);
    }

-- Behind the part that is put in stand the elements that stay.
pub outside-stays : (before lines : List LineState) (speakers : SpeakersOf) (blocks : List PlacedBlock) (places : PartPlaces) (layout : LayoutOf) → IsRelaid before lines speakers blocks places layout
    → StaysOutside before lines (with_part layout places (layout_behind lines speakers blocks)).body.elements (places_back places (layout_behind lines speakers blocks))
outside-stays before lines speakers blocks places layout it =
    let less = places.less in
    let more = places.more in
    let front = laid_of in_body before it.front in
    let gone = laid_of in_body before it.gone in
    let rest = laid_of in_body before it.rest in
    let come = (layout_behind lines speakers blocks).body.elements in
    let from : places.from ≡ length front = ap (λ (p : PartPlaces). p.from) it.at in
    let to : places.to ≡ length front + length gone = ap (λ (p : PartPlaces). p.to) it.at in
    let was : layout.body.elements ≡ front ++ (gone ++ rest) =
    ap (λ (l : LayoutOf). l.body.elements) it.was ∙ ap (laid_of in_body before) it.old ∙ laid-three in_body before it.front it.gone it.rest in
    let parts = front-of front gone rest places.from places.to (sym from) (omega (arith, from, to)) in
    let now : take places.from layout.body.elements ++ (come ++ map (moved_element less more) (drop places.to layout.body.elements)) ≡ front ++ (come ++ map (moved_element less more) rest) =
    ap₂ (λ (one other : List ElementOf). one ++ (come ++ map (moved_element less more) other)) (ap (take places.from) was ∙ parts.0) (ap (drop places.to) was ∙ parts.2) in
    outside-of before lines it.front it.rest come (with_part layout places (layout_behind lines speakers blocks)).body.elements (places_back places (layout_behind lines speakers blocks)) it.still it.moved now from refl

-- The same of the elements of the text after an edit.
pub outside-said : (before lines : List LineState) (speakers : SpeakersOf) (blocks : List PlacedBlock) (places : PartPlaces) (layout : LayoutOf) (it : IsRelaid before lines speakers blocks places layout) (stood : List (Group Spoken))
    → it.said ≡ map (moved_group places.less places.more) stood → All (GroupStays places.less places.more before lines) stood
    → StaysOutside before lines (laid_of in_body lines (text_elements speakers.on lines)) (places_back places (layout_behind lines speakers blocks))
outside-said before lines speakers blocks places layout it stood is stays =
    let less = places.less in
    let more = places.more in
    let come = (layout_behind lines speakers blocks).body.elements in
    let said = spoken_elements speakers.on lines speakers.last blocks in
    let own : laid_of in_body lines (text_elements speakers.on lines) ≡ laid_of in_body before it.front ++ (come ++ map (moved_element less more) (laid_of in_body before stood)) =
    ap (laid_of in_body lines) (it.new ∙ ap (λ (gs : List (Group Spoken)). it.front ++ (said ++ gs)) is) ∙ laid-three in_body lines it.front said (map (moved_group less more) stood)
    ∙ ap₂ (λ (one other : List ElementOf). one ++ (come ++ other)) (front-laid before lines it.front it.still in_body (λ g. refl)) (laid-moved less more before lines in_body (λ g. refl) stood stays) in
    outside-of before lines it.front stood come (laid_of in_body lines (text_elements speakers.on lines)) (places_back places (layout_behind lines speakers blocks)) it.still stays own (ap (λ (p : PartPlaces). p.from) it.at) refl
