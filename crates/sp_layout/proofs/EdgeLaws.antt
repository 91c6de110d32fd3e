-- What stands before the edges of a part of a layout.
use Rattle.std.proofs.Common.{◌≡◌, ℕ, ◌+◌, ◌-◌, ◌<◌, ◌≤◌, Bool, None, List, ◌++◌, length, get_or, take, drop, slice_range, inl, inr, refl, sym, ap, subst, ◌∙◌, arith, length-append, All}
use Rattle.std.specs.Prelude.{◌⊎◌, AllPairs}
use Rattle.std.proofs.lemmas.Bool.{cases_lt}
use Rattle.std.proofs.lemmas.List.{get_or_append_left, get_or-append_right}
use Rattle.spec_text.specs.Lines.{LineState, TextState, IsText, line_texts}
use Rattle.spec_script.specs.BlockValues.{StanzaOf}
use Rattle.spec_script.specs.LongestRuns.{Group}
use Rattle.spec_script.specs.Stanzas.{PlacedBlock, blocks_from, blocks_of, stanzas_of}
use Rattle.spec_pages.specs.Rows.{ElementOf}
use Rattle.spec_sheets.specs.Speakers.{Spoken, spoken_elements, text_elements}
use Rattle.spec_sheets.specs.Layout.{is_title_element, in_body}
use Rattle.spec_sheets.proofs.RowLaws.{IsText-texts}
use Rattle.spec_edit.specs.Windows.{stanza_lines_in}
use Rattle.spec_edit.proofs.WindowBlocks.{blocks-append}
use Rattle.spec_edit.specs.Moved.{AreApart, speaker_behind}
use Rattle.spec_edit.specs.RelaidStanzas.{ClosesApart, OpensApart}
use Rattle.spec_edit.proofs.Parts.{spoken-apart}
use Rattle.spec_edit.proofs.LayoutParts.{laid_of, laid-append}
use Rattle.spec_edit.proofs.PlacedElements.{element_first, spoken-firsts, laid-firsts}
use Rattle.spec_edit.proofs.RelaidStanzas.{front-stands}
use Rattle.spec_edit.proofs.StanzaBlocks.{lines-append, blocks-past, closes-ends, opens-apart}
use Rattle.sp_layout.specs.LaidOut.{LayoutOf, break_places, keyed}
use Rattle.sp_layout.specs.Places.{CountsBefore, CountsBelow}
use Rattle.sp_layout.proofs.ElementCounts.{counts-one, counts-parts}
use Rattle.sp_layout.specs.declared.edges.PartEdge.{PartEdge}
use Rattle.sp_layout.specs.Edges.{CanPart, IsEdge, IsPartStart, IsPartEnd, last_edge}
use Rattle.sp_layout.proofs.BreakLaws.{breaks-append, breaks-high, breaks-low, breaks-rise, elements_in}
use Rattle.sp_layout.proofs.StanzaLists.{take-split}

-- So many of these places are below a bound.
below-are : (front behind : List ℕ) (bound count : ℕ) → All (λ (place : ℕ). place < bound) front → All (λ (place : ℕ). bound ≤ place) behind → CountsBelow (front ++ behind) bound count → count ≡ length front
below-are front behind bound count before from it =
    let size = length-append front behind in
    let within = it.within in
    elim (cases_lt count (length front)) [
      | inl less ↦
          let here = before count 0 less in
          let there = it.above count (omega arith) (omega (arith, size, less)) in
          let same = get_or_append_left front behind 0 count less in
          absurd (omega (arith, here, there, same))
      | inr more ↦ elim (cases_lt (length front) count) [
        | inr done ↦ omega (arith, more, done)
        | inl past ↦
            let none : length front - length front ≡ 0 = omega arith in
            let here = it.below (length front) past in
            let there = from 0 0 (omega (arith, size, within, past)) in
            let same = get_or-append_right front behind (length front) (length front) 0 refl (omega arith) ∙ ap (λ n. get_or behind n 0) none in
            absurd (omega (arith, here, there, same))
      ]
    ]

-- The edge stands behind these elements of a text.
pub record EdgeIs (before : List LineState) (front : List (Group Spoken)) (edge : PartEdge) : Type 0 where
  pub titles : edge.titles ≡ length (laid_of is_title_element before front)
  pub body : edge.body ≡ length (laid_of in_body before front)
  pub breaks : edge.breaks ≡ length (break_places 0 front)

module _ (on : Bool) (before : List LineState) (layout : LayoutOf) (was : layout ≡ keyed before (text_elements on before)) (front behind : List (Group Spoken)) (all : text_elements on before ≡ front ++ behind) where
  titles-are : layout.titles.elements ≡ laid_of is_title_element before front ++ laid_of is_title_element before behind
  titles-are = ap (λ (l : LayoutOf). l.titles.elements) was ∙ ap (laid_of is_title_element before) all ∙ laid-append is_title_element before front behind

  body-is : layout.body.elements ≡ laid_of in_body before front ++ laid_of in_body before behind
  body-is = ap (λ (l : LayoutOf). l.body.elements) was ∙ ap (laid_of in_body before) all ∙ laid-append in_body before front behind

  breaks-are : layout.breaks ≡ break_places 0 front ++ break_places (0 + elements_in before front) behind
  breaks-are = ap (λ (l : LayoutOf). l.breaks) was ∙ ap (break_places 0) all ∙ breaks-append before 0 front behind

  -- So many begin before a line.
  titles-count : (line : ℕ) → All (λ (g : Group Spoken). element_first g < line) front → All (λ (g : Group Spoken). line ≤ element_first g) behind
      → CountsBefore layout.titles.elements line (length (laid_of is_title_element before front))
  titles-count line low high =
      subst (λ (es : List ElementOf). CountsBefore es line (length (laid_of is_title_element before front))) (sym titles-are)
      (counts-parts line (laid_of is_title_element before front) (laid_of is_title_element before behind)
      (laid-firsts (λ n. n < line) is_title_element before front low) (laid-firsts (λ n. line ≤ n) is_title_element before behind high))

  body-count : (line : ℕ) → All (λ (g : Group Spoken). element_first g < line) front → All (λ (g : Group Spoken). line ≤ element_first g) behind
      → CountsBefore layout.body.elements line (length (laid_of in_body before front))
  body-count line low high =
      subst (λ (es : List ElementOf). CountsBefore es line (length (laid_of in_body before front))) (sym body-is)
      (counts-parts line (laid_of in_body before front) (laid_of in_body before behind)
      (laid-firsts (λ n. n < line) in_body before front low) (laid-firsts (λ n. line ≤ n) in_body before behind high))

  -- The edge at the line stands there.
  pub edge-is : (line : ℕ) (edge : PartEdge) → All (λ (g : Group Spoken). element_first g < line) front → All (λ (g : Group Spoken). line ≤ element_first g) behind → IsEdge layout line edge → EdgeIs before front edge
  edge-is line edge low high it =
      let body = counts-one layout.body.elements line edge.body (length (laid_of in_body before front)) it.body (body-count line low high) in
      let count = 0 + elements_in before front in
      let body_at : edge.body ≡ count = omega (arith, body) in
      let below : CountsBelow (break_places 0 front ++ break_places count behind) count edge.breaks =
      subst (λ (those : List ℕ). CountsBelow those count edge.breaks) breaks-are (subst (λ n. CountsBelow layout.breaks n edge.breaks) body_at it.breaks) in
      record {
        titles = counts-one layout.titles.elements line edge.titles (length (laid_of is_title_element before front)) it.titles (titles-count line low high);
        body = body;
        breaks = below-are (break_places 0 front) (break_places count behind) count edge.breaks (breaks-high before 0 front) (breaks-low count behind) below;
      }

  -- A line parts the layout so.
  pub parts-at : (line : ℕ) → All (λ (g : Group Spoken). element_first g < line) front → All (λ (g : Group Spoken). line ≤ element_first g) behind → CanPart layout line
  parts-at line low high = record {
    titles = record { count = length (laid_of is_title_element before front); is = titles-count line low high };
    body = record { count = length (laid_of in_body before front); is = body-count line low high };
    breaks = subst (λ (l : LayoutOf). AllPairs (λ (one other : ℕ). one ≤ other) l.breaks) (sym was) (breaks-rise 0 (text_elements on before));
  }

-- Behind all elements.
pub edge-last : (on : Bool) (before : List LineState) (layout : LayoutOf) → layout ≡ keyed before (text_elements on before) → (stanzas : List StanzaOf) (edge : PartEdge) → edge ≡ last_edge stanzas layout
    → (front : List (Group Spoken)) → text_elements on before ≡ front → EdgeIs before front edge
edge-last on before layout was stanzas edge is front all = record {
  titles = ap (λ (e : PartEdge). e.titles) is ∙ ap (λ (l : LayoutOf). length l.titles.elements) was ∙ ap (λ (gs : List (Group Spoken)). length (laid_of is_title_element before gs)) all;
  body = ap (λ (e : PartEdge). e.body) is ∙ ap (λ (l : LayoutOf). length l.body.elements) was ∙ ap (λ (gs : List (Group Spoken)). length (laid_of in_body before gs)) all;
  breaks = ap (λ (e : PartEdge). e.breaks) is ∙ ap (λ (l : LayoutOf). length l.breaks) was ∙ ap (λ (gs : List (Group Spoken)). length (break_places 0 gs)) all;
}

-- The layout of a text can be parted where stanzas begin with a block without a caret, or end with one that is joined with none behind it.
pub can-part : (on : Bool) (text : TextState) (layout : LayoutOf) → IsText text → layout ≡ keyed text.lines (text_elements on text.lines) → (xs ys : List StanzaOf) → stanzas_of (line_texts text.lines) ≡ xs ++ ys → ClosesApart xs ⊎ OpensApart ys
    → CanPart layout (stanza_lines_in xs)
can-part on text layout keeps was xs ys is apart =
    let before = text.lines in
    let texts = line_texts before in
    let are = IsText-texts text keeps in
    let line = stanza_lines_in xs in
    let start : 0 + line ≡ line = omega arith in
    let one = blocks_from 0 xs in
    let two = blocks_from line ys in
    let blocks : blocks_of texts ≡ one ++ two = ap (blocks_from 0) is ∙ blocks-append 0 xs ys ∙ ap (λ n. one ++ blocks_from n ys) start in
    let last = speaker_behind texts None one in
    let both : AreApart one two = elim apart [
      | inl closes ↦ inr (inl (closes-ends 0 xs closes))
      | inr opens ↦ inr (inr (opens-apart line ys opens))
    ] in
    let split : text_elements on before ≡ spoken_elements on before None one ++ spoken_elements on before last two =
    ap (spoken_elements on before None) blocks ∙ spoken-apart on before None one two both in
    let stands = front-stands texts xs ys are.utf8 are.few is in
    parts-at on before layout was (spoken_elements on before None one) (spoken_elements on before last two) split line
    (spoken-firsts on before None (λ (p : PlacedBlock). p.first < line) one (λ k d h. (stands.each k d h).below))
    (spoken-firsts on before last (λ (p : PlacedBlock). line ≤ p.first) two (blocks-past line line ys (omega arith)))

-- An edge that was found in front of a window, and one behind it.
pub start-found : (stanzas : List StanzaOf) (at : ℕ) (layout : LayoutOf) (edge : PartEdge) (place line : ℕ) → edge.stanza ≡ place → place ≤ at → ClosesApart (take place stanzas) ⊎ OpensApart (slice_range stanzas place at)
    → line ≡ stanza_lines_in (take place stanzas) → IsEdge layout line edge → IsPartStart stanzas at layout edge
start-found stanzas at layout edge place line stanza low apart is it = record {
  within = omega (arith, stanza, low);
  is = inr (
    subst (λ n. ClosesApart (take n stanzas) ⊎ OpensApart (slice_range stanzas n at)) (sym stanza) apart,
    subst (λ n. IsEdge layout n edge) (is ∙ sym (ap (λ n. stanza_lines_in (take n stanzas)) stanza)) it,
  );
}

pub end-found : (stanzas : List StanzaOf) (to was end : ℕ) (layout : LayoutOf) (edge : PartEdge) (place line : ℕ) → edge.stanza ≡ place → to ≤ place → place ≤ length stanzas
    → ClosesApart (slice_range stanzas to place) ⊎ OpensApart (drop place stanzas) → line ≡ stanza_lines_in (take place stanzas) - end + was → IsEdge layout line edge → IsPartEnd stanzas to was end layout edge
end-found stanzas to was end layout edge place line stanza low inside apart is it = record {
  low = omega (arith, stanza, low);
  within = omega (arith, stanza, inside);
  is = inr (
    subst (λ n. ClosesApart (slice_range stanzas to n) ⊎ OpensApart (drop n stanzas)) (sym stanza) apart,
    subst (λ n. IsEdge layout n edge) (is ∙ sym (ap (λ n. stanza_lines_in (take n stanzas) - end + was) stanza)) it,
  );
}

pub lines-rise : (stanzas : List StanzaOf) (i j : ℕ) → i ≤ j → stanza_lines_in (take i stanzas) ≤ stanza_lines_in (take j stanzas)
lines-rise stanzas i j order = omega (arith, ap stanza_lines_in (take-split stanzas i j order), lines-append (take i stanzas) (slice_range stanzas i j))
