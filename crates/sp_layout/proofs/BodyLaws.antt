-- What a body keeps, with one more element, and what it tells of places.
use Rattle.std.proofs.Common.{◌≡◌, ℕ, zero, suc, ◌+◌, ◌<◌, ◌≤◌, Bool, true, false, cond, List, [], ◌∷◌, ◌++◌, length, map, filter, take, get_or, refl, sym, ap, ap₂, ◌∙◌, arith, append-nil, append_assoc, length-append, sum_by}
use Rattle.std.specs.Prelude.{AllPairs}
use Rattle.std.proofs.lemmas.List.{map-append, length-map}
use Rattle.std.proofs.lemmas.List.Sums.{sum_by-cons, sum_by_push}
use Rattle.spec_text.specs.Lines.{LineState}
use Rattle.spec_pages.specs.declared.Shape.{Shape}
use Rattle.spec_pages.specs.Rows.{Row, ElementOf, shifted_row, placed_rows}
use Rattle.spec_sheets.specs.Layout.{placed_in}
use Rattle.spec_sheets.specs.Shown.{row_key, is_heading_element, heading_count}
use Rattle.sp_layout.specs.RowFacts.{FactsOf, both_facts, facts_of}
use Rattle.sp_layout.specs.Bodies.{BodyParts, IsBody, row_count, starts_by, rows_of, headings_of}

-- The rows of elements, and of one more.
pub placed_in-append : (elements others : List ElementOf) → placed_in (elements ++ others) ≡ placed_in elements ++ placed_in others
placed_in-append [] others = refl
placed_in-append (element ∷ elements) others =
    ap (λ (rows : List Row). placed_rows element ++ rows) (placed_in-append elements others) ∙ sym (append_assoc (placed_rows element) (placed_in elements) (placed_in others))

pub placed_in-push : (elements : List ElementOf) (element : ElementOf) → placed_in (elements ++ element ∷ []) ≡ placed_in elements ++ placed_rows element
placed_in-push elements element = placed_in-append elements (element ∷ []) ∙ ap (λ (rows : List Row). placed_in elements ++ rows) (append-nil (placed_rows element))

-- Sizes add up to how many rows and headings there are.
pub sum-rows : (elements : List ElementOf) → sum_by rows_of elements ≡ row_count elements
sum-rows [] = refl
sum-rows (element ∷ elements) =
    let first = sum_by-cons rows_of element elements in
    let later = sum-rows elements in
    let own = length-map element.rows (shifted_row element.first) in
    let size = length-append (placed_rows element) (placed_in elements) in
    omega (arith, first, later, own, size)

pub sum-headings : (elements : List ElementOf) → sum_by headings_of elements ≡ heading_count elements
sum-headings [] = refl
sum-headings (element ∷ elements) =
    let first = sum_by-cons headings_of element elements in
    let later = sum-headings elements in
    let size = by (is_heading_element element) in
    omega (arith, first, later, size)
  where
    by : (t : Bool) → length (cond t (element ∷ filter is_heading_element elements) (filter is_heading_element elements))
        ≡ length (cond t (element ∷ []) []) + length (filter is_heading_element elements)
    by true = omega arith
    by false = omega arith

-- What stands before each element.
pub starts_by-push : (size : ElementOf → ℕ) (count : ℕ) (elements : List ElementOf) (element : ElementOf)
    → starts_by size count (elements ++ element ∷ []) ≡ starts_by size count elements ++ (count + sum_by size elements) ∷ []
starts_by-push size count [] element = let same : count ≡ count + 0 = omega arith in ap (λ (n : ℕ). n ∷ []) same
starts_by-push size count (first ∷ elements) element =
    let sum = sum_by-cons size first elements in
    let same : count + size first + sum_by size elements ≡ count + sum_by size (first ∷ elements) = omega (arith, sum) in
    ap (λ (starts : List ℕ). count ∷ starts) (starts_by-push size (count + size first) elements element ∙ ap (λ (n : ℕ). starts_by size (count + size first) elements ++ n ∷ []) same)

pub length-starts_by : (size : ElementOf → ℕ) (count : ℕ) (elements : List ElementOf) → length (starts_by size count elements) ≡ length elements
length-starts_by size count [] = refl
length-starts_by size count (element ∷ elements) = ap suc (length-starts_by size (count + size element) elements)

pub starts_by-get : (size : ElementOf → ℕ) (count : ℕ) (elements : List ElementOf) (i d : ℕ) → i < length elements
    → get_or (starts_by size count elements) i d ≡ count + sum_by size (take i elements)
starts_by-get size count [] i d inside = absurd (omega (arith, inside))
starts_by-get size count (element ∷ elements) zero d inside = omega arith
starts_by-get size count (element ∷ elements) (suc i) d inside =
    let sum = sum_by-cons size element (take i elements) in
    omega (arith, sum, starts_by-get size (count + size element) elements i d (omega (arith, inside)))

-- They never fall.
sum-take : (size : ElementOf → ℕ) (elements : List ElementOf) (i j : ℕ) → i ≤ j → sum_by size (take i elements) ≤ sum_by size (take j elements)
sum-take size elements zero j order = omega arith
sum-take size elements (suc i) zero order = absurd (omega (arith, order))
sum-take size [] (suc i) (suc j) order = omega arith
sum-take size (element ∷ elements) (suc i) (suc j) order =
    omega (arith, sum_by-cons size element (take i elements), sum_by-cons size element (take j elements), sum-take size elements i j (omega (arith, order)))

pub starts_by-rise : (size : ElementOf → ℕ) (elements : List ElementOf) → AllPairs (λ (one other : ℕ). one ≤ other) (starts_by size 0 elements)
starts_by-rise size elements i j d below inside =
    let count = length-starts_by size 0 elements in
    let here = starts_by-get size 0 elements i d (omega (arith, below, inside, count)) in
    let there = starts_by-get size 0 elements j d (omega (arith, inside, count)) in
    omega (arith, here, there, sum-take size elements i j (omega (arith, below)))

-- No more headings than elements.
pub headings-few : (elements : List ElementOf) → heading_count elements ≤ length elements
headings-few [] = omega arith
headings-few (element ∷ elements) = by (is_heading_element element) (headings-few elements)
  where
    by : (t : Bool) → length (filter is_heading_element elements) ≤ length elements
        → length (cond t (element ∷ filter is_heading_element elements) (filter is_heading_element elements)) ≤ suc (length elements)
    by true few = omega (arith, few)
    by false few = omega (arith, few)

-- One more element, and what is kept then.
pub record IsPushed (lines : List LineState) (element : ElementOf) (old new : BodyParts) : Type 0 where
  pub elements : new.elements ≡ old.elements ++ element ∷ []
  pub facts : new.facts ≡ both_facts old.facts (facts_of lines element)
  pub row_starts : new.row_starts ≡ old.row_starts ++ old.rows ∷ []
  pub heading_starts : new.heading_starts ≡ old.heading_starts ++ old.headings ∷ []
  pub rows : new.rows ≡ old.rows + length element.rows
  pub headings : new.headings ≡ old.headings + headings_of element

pub IsBody-push : (lines : List LineState) (element : ElementOf) (old new : BodyParts) → IsBody old → IsPushed lines element old new → IsBody new
IsBody-push lines element old new is pushed =
    let rows = placed_in-push old.elements element in
    let shape : Row → Shape = λ row. row.shape in
    let mark : Row → ℕ = λ row. row.mark in
    let all = ap placed_in pushed.elements ∙ rows in
    let own = length-map (placed_rows element) (row_key lines) in
    let size = length-append (placed_in old.elements) (placed_rows element) in
    let keys = ap (λ (facts : FactsOf). length facts.keys) pushed.facts in
    let both = length-append old.facts.keys (map (row_key lines) (placed_rows element)) in
    let count = ap length all in
    let sum = sum-rows old.elements in
    let head = sum-headings old.elements in
    let start : old.rows ≡ 0 + sum_by rows_of old.elements = omega (arith, is.rows, sum) in
    let placed = length-map element.rows (shifted_row element.first) in
    let heading : old.headings ≡ 0 + sum_by headings_of old.elements = omega (arith, is.headings, head) in
    let more = sum-headings (old.elements ++ element ∷ []) in
    record {
      shapes = ap (λ (facts : FactsOf). facts.shapes) pushed.facts ∙ ap (λ (those : List Shape). those ++ map shape (placed_rows element)) is.shapes
          ∙ sym (map-append shape (placed_in old.elements) (placed_rows element)) ∙ sym (ap (map shape) all);
      marks = ap (λ (facts : FactsOf). facts.marks) pushed.facts ∙ ap (λ (those : List ℕ). those ++ map mark (placed_rows element)) is.marks
          ∙ sym (map-append mark (placed_in old.elements) (placed_rows element)) ∙ sym (ap (map mark) all);
      keys = omega (arith, keys, both, is.keys, own, count, size);
      row_starts = pushed.row_starts ∙ ap₂ (λ (those : List ℕ) n. those ++ n ∷ []) is.row_starts start
          ∙ sym (starts_by-push rows_of 0 old.elements element) ∙ sym (ap (starts_by rows_of 0) pushed.elements);
      heading_starts = pushed.heading_starts ∙ ap₂ (λ (those : List ℕ) n. those ++ n ∷ []) is.heading_starts heading
          ∙ sym (starts_by-push headings_of 0 old.elements element) ∙ sym (ap (starts_by headings_of 0) pushed.elements);
      rows = omega (arith, pushed.rows, is.rows, ap length all, size, placed, ap row_count pushed.elements, count);
      headings = omega (arith, pushed.headings, is.headings, ap heading_count pushed.elements, more, sum_by_push headings_of old.elements element, head);
    }
