-- Places where elements begin.
use Rattle.std.proofs.Common.{◌≡◌, ℕ, ◌+◌, ◌-◌, ◌<◌, ◌≤◌, Option, List, [], ◌∷◌, ◌++◌, length, take, drop, get_or, slice_range, inl, inr, refl, sym, ap, ap₂, subst, ◌∙◌, arith, length-append, take-append-drop, take_all, take-add, drop-drop}
use Rattle.std.specs.Prelude.{AllPairs}
use Rattle.std.proofs.lemmas.Bool.{cases_lt, cases_eq}
use Rattle.std.specs.List.Sorted.{IsNonDecreasingBy}
use Rattle.spec_text.specs.Lines.{LineState}
use Rattle.spec_pages.specs.Rows.{ElementOf}
use Rattle.spec_labels.specs.Labels.{LabelOf}
use Rattle.spec_sheets.specs.Layout.{placed_in}
use Rattle.spec_sheets.specs.Shown.{heading_count, labels_past, shown_rows}
use Rattle.spec_sheets.proofs.ShownLaws.{shown_rows-slice}
use Rattle.sp_layout.specs.Places.{CountsBelow, IsLastStart}
use Rattle.sp_layout.specs.Bodies.{PageOf, IsPageOf, StandsIn, row_count, starts_by, rows_of, headings_of}
use Rattle.sp_layout.proofs.BodyLaws.{placed_in-append, sum-rows, sum-headings, starts_by-get, starts_by-rise, length-starts_by}

-- Places that never fall.
pub non_decreasing : (places : List ℕ) → AllPairs (λ one other. one ≤ other) places → IsNonDecreasingBy (λ (place : ℕ). place) places
non_decreasing places rise i j d order inside = elim (cases_eq i j) [
  | inl same ↦ omega (arith, ap (λ k. get_or places k d) same)
  | inr other ↦ rise i j d (omega arith) inside
]

-- What stands before each of some elements, by a total of elements.
pub record AreStarts (total : List ElementOf → ℕ) (elements : List ElementOf) (starts : List ℕ) : Type 0 where
  pub count : length starts ≡ length elements
  pub get : (i d : ℕ) → i < length elements → get_or starts i d ≡ total (take i elements)
  pub rise : AllPairs (λ one other. one ≤ other) starts

pub row-starts : (elements : List ElementOf) (starts : List ℕ) → starts ≡ starts_by rows_of 0 elements → AreStarts row_count elements starts
row-starts elements starts is = record {
  count = ap length is ∙ length-starts_by rows_of 0 elements;
  get = λ i d inside. ap (λ (those : List ℕ). get_or those i d) is ∙ starts_by-get rows_of 0 elements i d inside ∙ omega (arith, sum-rows (take i elements));
  rise = subst (AllPairs (λ (one other : ℕ). one ≤ other)) (sym is) (starts_by-rise rows_of elements);
}

pub heading-starts : (elements : List ElementOf) (starts : List ℕ) → starts ≡ starts_by headings_of 0 elements → AreStarts heading_count elements starts
heading-starts elements starts is = record {
  count = ap length is ∙ length-starts_by headings_of 0 elements;
  get = λ i d inside. ap (λ (those : List ℕ). get_or those i d) is ∙ starts_by-get headings_of 0 elements i d inside ∙ omega (arith, sum-headings (take i elements));
  rise = subst (AllPairs (λ (one other : ℕ). one ≤ other)) (sym is) (starts_by-rise headings_of elements);
}

-- The first of some elements stands behind nothing.
pub first-start : (total : List ElementOf → ℕ) (elements : List ElementOf) (starts : List ℕ) (place : ℕ) → AreStarts total elements starts → total [] ≡ 0 → place < total elements
    → (0 < length starts) × (get_or starts 0 0 ≤ place)
first-start total [] starts place are none below = absurd (omega (arith, none, below))
first-start total (element ∷ elements) starts place are none below =
    let count = are.count in
    let first = are.get 0 0 (omega arith) in
    (omega (arith, count), omega (arith, first, none))

-- The last element that begins at or before a place reaches past it.
last-reaches : (total : List ElementOf → ℕ) (elements : List ElementOf) (starts : List ℕ) (place last : ℕ) → AreStarts total elements starts → IsLastStart starts place last → place < total elements
    → place < total (take (last + 1) elements)
last-reaches total elements starts place last are is below = elim (cases_lt (last + 1) (length elements)) [
  | inl inside ↦
      let next = are.get (last + 1) 0 inside in
      let above = is.to (last + 1) (omega arith) (omega (arith, inside, are.count)) in
      omega (arith, next, above)
  | inr end ↦ subst (λ those. place < total those) (sym (take_all (last + 1) elements end)) below
]

pub stands-in : (elements : List ElementOf) (starts : List ℕ) (row place : ℕ) → AreStarts row_count elements starts → row < row_count elements → IsLastStart starts row place → StandsIn elements row place
stands-in elements starts row place are below is =
    let inside : place < length elements = omega (arith, is.inside, are.count) in
    let here = are.get place 0 inside in
    record { inside = inside; from = omega (arith, here, is.from); to = last-reaches row_count elements starts row place are is below }

pub record PagePart (elements : List ElementOf) (from to first end start : ℕ) : Type 0 where
  pub order : first ≤ end
  pub within : end ≤ length elements
  pub starts : start ≤ from
  pub page : IsPageOf elements from to (record { elements = slice_range elements first end; from = from - start; to = to - start; headings = heading_count (take first elements) })

pub page-part : (elements : List ElementOf) (starts : List ℕ) (from to first end start : ℕ) → AreStarts row_count elements starts → StandsIn elements from first → CountsBelow starts to end → from < to
    → to ≤ row_count elements → start ≡ row_count (take first elements) → PagePart elements from to first end start
page-part elements starts from to first end start are stands counts order below is =
    let here = are.get first 0 stands.inside in
    let last : first < end = elim (cases_lt first end) [
      | inl less ↦ less
      | inr not ↦ (let above = counts.above first not (omega (arith, stands.inside, are.count)) in absurd (omega (arith, above, here, stands.from, order)))
    ] in
    let within : end ≤ length elements = omega (arith, counts.within, are.count) in
    let front = take first elements in
    let own = slice_range elements first end in
    let back = drop end elements in
    let more = end - first in
    let there : first + more ≡ end = omega (arith, last) in
    let behind : drop more (drop first elements) ≡ back = drop-drop more first elements ∙ ap (λ n. drop n elements) there in
    let split : elements ≡ front ++ (own ++ back) =
    sym (take-append-drop first elements) ∙ ap (λ (those : List ElementOf). front ++ those) (sym (take-append-drop more (drop first elements)) ∙ ap (λ (those : List ElementOf). own ++ those) behind) in
    let both : take end elements ≡ front ++ own = ap (λ n. take n elements) (sym there) ∙ take-add first more elements in
    let rows : row_count (take end elements) ≡ row_count front + row_count own =
    ap row_count both ∙ ap length (placed_in-append front own) ∙ length-append (placed_in front) (placed_in own) in
    let reach : to ≤ row_count (take end elements) = elim (cases_lt end (length elements)) [
      | inl inside ↦ (let next = are.get end 0 inside in let above = counts.above end (omega arith) (omega (arith, inside, are.count)) in omega (arith, next, above))
      | inr all ↦ subst (λ those. to ≤ row_count those) (sym (take_all end elements all)) below
    ] in
    record {
      order = omega (arith, last);
      within = within;
      starts = omega (arith, is, stands.from);
      page = record {
        front = front;
        back = back;
        split = split;
        starts = omega (arith, is, stands.from);
        ends = omega (arith, is, stands.from, order);
        within = omega (arith, rows, reach, is);
        headings = refl;
      };
    }

-- The same of equal elements and headings.
pub PagePart-page : (elements : List ElementOf) (from to first end start headings : ℕ) (own : List ElementOf) → PagePart elements from to first end start → own ≡ slice_range elements first end
    → headings ≡ heading_count (take first elements) → IsPageOf elements from to (record { elements = own; from = from - start; to = to - start; headings = headings })
PagePart-page elements from to first end start headings own part same count =
    subst (IsPageOf elements from to)
    (ap₂ (λ (those : List ElementOf) n. record { elements = those; from = from - start; to = to - start; headings = n }) (sym same) (sym count)) part.page

-- What the rows of a page show.
pub page-shows : (elements : List ElementOf) (from to : ℕ) (page : PageOf) → from ≤ to → IsPageOf elements from to page → (lines : List LineState) (labels : Option (List LabelOf))
    → slice_range (shown_rows lines labels elements) from to ≡ slice_range (shown_rows lines (labels_past page.headings labels) page.elements) page.from page.to
page-shows elements from to page order is lines labels =
    let all = ap₂ (λ (those : List ElementOf) n. slice_range (shown_rows lines labels those) n to) is.split is.starts in
    let ends = ap (λ n. slice_range (shown_rows lines labels (is.front ++ (page.elements ++ is.back))) (row_count is.front + page.from) n) is.ends in
    let low : page.from ≤ page.to = omega (arith, order, is.starts, is.ends) in
    all ∙ ends ∙ shown_rows-slice lines labels is.front page.elements is.back page.from page.to low is.within
    ∙ ap (λ n. slice_range (shown_rows lines (labels_past n labels) page.elements) page.from page.to) (sym is.headings)
