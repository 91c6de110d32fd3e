-- Rows outside those that a change exchanged.
use Rattle.std.proofs.Common.{◌≡◌, ℕ, zero, suc, ◌+◌, ◌-◌, ◌≤◌, Option, Some, None, List, [], ◌++◌, length, map, take, drop, refl, sym, ap, ap₂, subst, ◌∙◌, arith, append_assoc, length-append, take_at, drop_at, take-append-drop}
use Rattle.std.proofs.lemmas.List.{drop-drop, drop-take, take-take, length-map, map-append}
use Rattle.std.specs.Prelude.{IfSome, min}
use Rattle.spec_text.specs.Lines.{LineState}
use Rattle.spec_pages.specs.Rows.{Row, ElementOf}
use Rattle.spec_sheets.specs.Layout.{placed_in}
use Rattle.spec_state.specs.SameRows.{BareRow}
use Rattle.sp_layout.specs.Bodies.{KeyedElements, row_count}
use Rattle.sp_layout.specs.Exchanges.{moved_element, rows_at, with_rows_at}
use Rattle.sp_layout.proofs.BodyExchanges.{count-moved}
use Rattle.sp_layout.proofs.BodyLaws.{placed_in-append}
use Rattle.sp_layout.proofs.RowSwaps.{drop-rows, length-alike, moved-rows, rows_at-drop, rows_at-moved, take-rows}
use Rattle.sp_compare.specs.declared.old_rows.RunPlaces.{RunPlaces}
use Rattle.sp_compare.specs.BareRows.{AreSameAround, AreSameRun, StayOutside, bare_row, bare_rows}
use Rattle.sp_compare.specs.OldElements.{AreOtherRows, OtherRowsOf, old_elements, others_from, others_to, with_others}
use Rattle.sp_compare.proofs.OldRowLaws.{count-more, count-old, count-parts, count-rises, map-take}
use Rattle.sp_compare.proofs.OtherRowLaws.{count-rows, drop-past, others-front}
use Rattle.sp_compare.proofs.RowLists.{map-slice}

-- ---- rows that stay

abbrev bare : List LineState → List ElementOf → List BareRow
bare lines elements = map (bare_row lines) (placed_in elements)

bare-append : (lines : List LineState) (one other : List ElementOf) → bare lines (one ++ other) ≡ bare lines one ++ bare lines other
bare-append lines one other = ap (map (bare_row lines)) (placed_in-append one other) ∙ map-append (bare_row lines) (placed_in one) (placed_in other)

bare-size : (lines : List LineState) (elements : List ElementOf) → length (bare lines elements) ≡ row_count elements
bare-size lines elements = length-map (placed_in elements) (bare_row lines)

bare-parts : (lines : List LineState) (elements : List ElementOf) (place : ℕ) → bare lines elements ≡ bare lines (take place elements) ++ bare lines (drop place elements)
bare-parts lines elements place = ap (bare lines) (sym (take-append-drop place elements)) ∙ bare-append lines (take place elements) (drop place elements)

-- The rows before an element, and those from one on.
bare-front : (lines : List LineState) (elements : List ElementOf) (place : ℕ) → take (row_count (take place elements)) (bare lines elements) ≡ bare lines (take place elements)
bare-front lines elements place =
    ap (take (row_count (take place elements))) (bare-parts lines elements place)
    ∙ take_at (bare lines (take place elements)) (bare lines (drop place elements)) (row_count (take place elements)) (bare-size lines (take place elements))

bare-behind : (lines : List LineState) (elements : List ElementOf) (place : ℕ) → drop (row_count (take place elements)) (bare lines elements) ≡ bare lines (drop place elements)
bare-behind lines elements place =
    ap (drop (row_count (take place elements))) (bare-parts lines elements place)
    ∙ drop_at (bare lines (take place elements)) (bare lines (drop place elements)) (row_count (take place elements)) (bare-size lines (take place elements))

-- The rows of two lists of elements but for those of one place.
record AreSameBut (lines : List LineState) (one other : List ElementOf) (from to : ℕ) : Type 0 where
  pub front : take from (bare lines one) ≡ take from (bare lines other)
  pub behind : drop to (bare lines one) ≡ drop to (bare lines other)

same-but : (lines : List LineState) (elements : List ElementOf) (place : ℕ) (rows : List Row) → length rows ≡ length (rows_at elements place)
    → AreSameBut lines (with_rows_at elements place rows) elements (row_count (take place elements)) (row_count (take (place + 1) elements))
same-but lines elements place rows same =
    let was = with_rows_at elements place rows in
    let from = count-rows elements place place rows same in
    let to = count-rows elements (place + 1) place rows same in
    record {
      front = ap (λ n. take n (bare lines was)) (sym from) ∙ bare-front lines was place ∙ ap (bare lines) (take-rows elements place place rows (omega arith)) ∙ sym (bare-front lines elements place);
      behind = ap (λ n. drop n (bare lines was)) (sym to) ∙ bare-behind lines was (place + 1) ∙ ap (bare lines) (drop-past elements (place + 1) place rows (omega arith)) ∙ sym (bare-behind lines elements (place + 1));
    }

-- The rows behind a run, with the other rows that one of its elements had, are the same but for these.
later-same : (lines : List LineState) (body : KeyedElements) (others : Option OtherRowsOf) (to less more : ℕ) → IfSome others (AreOtherRows body.elements to)
    → AreSameBut lines (map (moved_element less more) (drop to (with_others body others).elements)) (map (moved_element less more) (drop to body.elements))
    (others_from body.elements to others - row_count (take to body.elements)) (others_to body.elements to others - row_count (take to body.elements))
later-same lines body None to less more are = record { front = refl; behind = refl }
later-same lines body (Some it) to less more are =
    let elements = body.elements in
    let low = are.behind in
    let place = it.element - to in
    let moved = map (moved_element less more) (drop to elements) in
    let size : length it.rows ≡ length (rows_at moved place) =
    length-alike it.rows (rows_at elements it.element) are.alike ∙ ap length (sym (rows_at-moved less more (drop to elements) place ∙ rows_at-drop elements to it.element low)) in
    let was : map (moved_element less more) (drop to (with_rows_at elements it.element it.rows)) ≡ with_rows_at moved place it.rows =
    ap (map (moved_element less more)) (drop-rows elements to it.element it.rows low) ∙ moved-rows less more (drop to elements) place it.rows in
    let counted : (n : ℕ) → row_count (take n moved) ≡ row_count (take n (drop to elements)) =
    λ n. ap row_count (sym (map-take (moved_element less more) n (drop to elements))) ∙ count-moved less more (take n (drop to elements)) in
    let here : to + place ≡ it.element = omega (arith, low) in
    let next : to + (place + 1) ≡ it.element + 1 = omega (arith, low) in
    let one = ap (λ n. row_count (take n elements)) (sym here) ∙ count-more elements to place in
    let two = ap (λ n. row_count (take n elements)) (sym next) ∙ count-more elements to (place + 1) in
    let from : row_count (take place moved) ≡ row_count (take it.element elements) - row_count (take to elements) = omega (arith, counted place, one) in
    let end : row_count (take (place + 1) moved) ≡ row_count (take (it.element + 1) elements) - row_count (take to elements) = omega (arith, counted (place + 1), two) in
    subst (λ n. AreSameBut lines (map (moved_element less more) (drop to (with_rows_at elements it.element it.rows))) moved n (row_count (take (it.element + 1) elements) - row_count (take to elements))) from
    (subst (λ n. AreSameBut lines (map (moved_element less more) (drop to (with_rows_at elements it.element it.rows))) moved (row_count (take place moved)) n) end
    (subst (λ (those : List ElementOf). AreSameBut lines those moved (row_count (take place moved)) (row_count (take (place + 1) moved))) (sym was) (same-but lines moved place it.rows size)))

-- These rows stand behind the run.
record OthersStand (elements : List ElementOf) (to : ℕ) (others : Option OtherRowsOf) : Type 0 where
  pub low : row_count (take to elements) ≤ others_from elements to others
  pub order : others_from elements to others ≤ others_to elements to others
  pub within : others_to elements to others ≤ row_count elements

others-stand : (elements : List ElementOf) (to : ℕ) (others : Option OtherRowsOf) → IfSome others (AreOtherRows elements to) → OthersStand elements to others
others-stand elements to None are = record { low = omega arith; order = omega arith; within = let sum = count-parts elements to in omega (arith, sum) }
others-stand elements to (Some it) are =
    let low = are.behind in
    record {
      low = count-rises elements to it.element low;
      order = count-rises elements it.element (it.element + 1) (omega arith);
      within = let sum = count-parts elements (it.element + 1) in omega (arith, sum);
    }

-- So many rows from some row on.
run-is : (lines : List LineState) (elements : List ElementOf) (from count : ℕ) → bare_rows lines elements from (from + count) ≡ take count (drop from (bare lines elements))
run-is lines elements from count =
    let size : from + count - from ≡ count = omega arith in
    map-slice (bare_row lines) (placed_in elements) from (from + count) ∙ ap (λ n. take n (drop from (bare lines elements))) size

-- Rows outside the exchanged elements are the same around the rows of these, but for those of the element that had others.
pub outside-around : (old new : List LineState) (body gone : KeyedElements) (others : Option OtherRowsOf) (at : RunPlaces) (same_to old_from new_from from to : ℕ) → at.from ≤ at.to
    → IfSome others (AreOtherRows body.elements at.to) → StayOutside old new body.elements at.from at.to at.less at.more
    → same_to ≡ row_count (take at.from body.elements) → old_from ≡ row_count (take at.from body.elements) + row_count gone.elements → new_from ≡ row_count (take at.to body.elements)
    → from ≡ others_from body.elements at.to others → to ≡ others_to body.elements at.to others
    → AreSameAround old (old_elements body others at gone).elements new body.elements same_to old_from new_from from to
outside-around old new body gone others at same_to old_from new_from from to order are outside same_is old_is new_is from_is to_is =
    let olds = (old_elements body others at gone).elements in
    let news = body.elements in
    let front = take at.from news in
    let till = take at.to news in
    let behind = drop at.to news in
    let moved = map (moved_element at.less at.more) behind in
    let later = map (moved_element at.less at.more) (drop at.to (with_others body others).elements) in
    let all = count-old body gone others at are in
    let stand = others-stand news at.to others are in
    let low = stand.low in
    let rising = stand.order in
    let within = stand.within in
    let but = later-same old body others at.to at.less at.more are in
    let k = from - new_from in
    let j = to - new_from in
    let k_is : k ≡ others_from news at.to others - row_count till = omega (arith, from_is, new_is) in
    let j_is : j ≡ others_to news at.to others - row_count till = omega (arith, to_is, new_is) in
    -- The rows of both texts, in parts.
    let old_parts : bare old olds ≡ (bare old front ++ bare old gone.elements) ++ bare old later =
    bare-append old (take at.from (with_others body others).elements) (gone.elements ++ later)
    ∙ ap₂ (λ (those : List ElementOf) (rows : List BareRow). bare old those ++ rows) (others-front body at.to others are at.from order) (bare-append old gone.elements later)
    ∙ sym (append_assoc (bare old front) (bare old gone.elements) (bare old later)) in
    let old_behind : drop old_from (bare old olds) ≡ bare old later =
    ap (drop old_from) old_parts
    ∙ drop_at (bare old front ++ bare old gone.elements) (bare old later) old_from
    (omega (arith, length-append (bare old front) (bare old gone.elements), bare-size old front, bare-size old gone.elements, old_is)) in
    let new_behind : drop new_from (bare new news) ≡ bare new behind = ap (λ n. drop n (bare new news)) new_is ∙ bare-behind new news at.to in
    let end : new_from + j ≡ to = omega (arith, to_is, new_is, low, rising) in
    let rest = row_count news - to in
    record {
      old_low = omega (arith, all, old_is);
      behind_run = omega (arith, new_is, from_is, low);
      order = omega (arith, from_is, to_is, rising);
      within = omega (arith, to_is, within);
      front = run-is old olds 0 same_to
          ∙ ap (take same_to) (old_parts ∙ append_assoc (bare old front) (bare old gone.elements) (bare old later))
          ∙ take_at (bare old front) (bare old gone.elements ++ bare old later) same_to (bare-size old front ∙ sym same_is)
          ∙ outside.front ∙ sym (run-is new news 0 same_to ∙ ap (λ n. take n (bare new news)) same_is ∙ bare-front new news at.from);
      until = run-is old olds old_from k ∙ ap (take k) old_behind ∙ ap (λ n. take n (bare old later)) k_is ∙ but.front ∙ ap (take (others_from news at.to others - row_count till)) outside.behind
          ∙ ap (λ n. take n (bare new behind)) (sym k_is) ∙ sym (run-is new news new_from k ∙ ap (take k) new_behind);
      behind = run-is old olds (old_from + j) rest
          ∙ ap (take rest) (sym (drop-drop j old_from (bare old olds)) ∙ ap (drop j) old_behind ∙ ap (λ n. drop n (bare old later)) j_is ∙ but.behind ∙ ap (drop (others_to news at.to others - row_count till)) outside.behind
          ∙ ap (λ n. drop n (bare new behind)) (sym j_is) ∙ sym (ap (drop j) new_behind) ∙ drop-drop j new_from (bare new news) ∙ ap (λ n. drop n (bare new news)) end)
          ∙ sym (run-is new news to rest);
    }

-- ---- rows among those that are the same

no-rows : (lines : List LineState) (elements : List ElementOf) (from to : ℕ) → to ≤ from → bare_rows lines elements from to ≡ []
no-rows lines elements from to past =
    let none : to - from ≡ 0 = omega (arith, past) in
    ap (λ n. map (bare_row lines) (take n (drop from (placed_in elements)))) none

among-same : (old : List LineState) (olds : List ElementOf) (new : List LineState) (news : List ElementOf) (from start count : ℕ) → AreSameRun old olds new news from start count
    → (a b c d k n : ℕ) → a ≡ from + k → b ≡ a + n → c ≡ start + k → d ≡ c + n → k + n ≤ count → bare_rows old olds a b ≡ bare_rows new news c d
among-same old olds new news from start count same a b c d k n a_is b_is c_is d_is within =
    ap (bare_rows old olds a) b_is ∙ cut old olds from a a_is
    ∙ ap (λ (rows : List BareRow). take n (drop k rows)) (sym (run-is old olds from count) ∙ same ∙ run-is new news start count)
    ∙ sym (ap (bare_rows new news c) d_is ∙ cut new news start c c_is)
  where
    cut : (lines : List LineState) (elements : List ElementOf) (first place : ℕ) → place ≡ first + k → bare_rows lines elements place (place + n) ≡ take n (drop k (take count (drop first (bare lines elements))))
    cut lines elements first place is =
        let rows = bare lines elements in
        run-is lines elements place n ∙ ap (λ m. take n (drop m rows)) is ∙ ap (take n) (sym (drop-drop k first rows))
        ∙ sym (sym (drop-take k n (take count (drop first rows))) ∙ ap (drop k) (take-take (k + n) count (drop first rows) within) ∙ drop-take k n (drop first rows))

module _ (old : List LineState) (olds : List ElementOf) (new : List LineState) (news : List ElementOf) (same_to old_from new_from from to : ℕ) (around : AreSameAround old olds new news same_to old_from new_from from to) where
  -- Rows before those that may differ.
  pub aside-front : (place start count : ℕ) → place ≡ start → place + count ≤ same_to → bare_rows old olds (place + 0) (place + count) ≡ bare_rows new news (start + 0) (start + count)
  aside-front place start count same within =
      among-same old olds new news 0 0 same_to around.front (place + 0) (place + count) (start + 0) (start + count) place count (omega arith) (omega arith) (omega (arith, same)) (omega arith) (omega (arith, within))

  -- Rows behind these, up to those of the element that had others.
  pub aside-until : (place start count : ℕ) → old_from ≤ place → new_from ≤ start → place - old_from ≡ start - new_from → count ≤ from - start → bare_rows old olds place (place + count) ≡ bare_rows new news start (start + count)
  aside-until place start zero low behind same few = no-rows old olds place (place + 0) (omega arith) ∙ sym (no-rows new news start (start + 0) (omega arith))
  aside-until place start (suc count) low behind same few =
      among-same old olds new news old_from new_from (from - new_from) around.until place (place + suc count) start (start + suc count) (start - new_from) (suc count)
      (omega (arith, low, same)) refl (omega (arith, behind)) refl (omega (arith, behind, few))

  -- And rows behind that element.
  pub aside-behind : (place start first count : ℕ) → old_from ≤ place → new_from ≤ start → place - old_from ≡ start - new_from → first ≡ min (to - start) count → start + count ≤ row_count news
      → bare_rows old olds (place + first) (place + count) ≡ bare_rows new news (start + first) (start + count)
  aside-behind place start first count low behind same is within = by (count - first) refl
    where
      by : (n : ℕ) → count - first ≡ n → bare_rows old olds (place + first) (place + count) ≡ bare_rows new news (start + first) (start + count)
      by zero none = no-rows old olds (place + first) (place + count) (omega (arith, none)) ∙ sym (no-rows new news (start + first) (start + count) (omega (arith, none)))
      by (suc n) some =
          let past : to ≤ start + first = omega (arith, is, some) in
          let run = around.behind_run in
          let order = around.order in
          among-same old olds new news (old_from + (to - new_from)) to (row_count news - to) around.behind (place + first) (place + count) (start + first) (start + count) (start + first - to) (count - first)
          (omega (arith, low, behind, same, past, run, order)) (omega (arith, some)) (omega (arith, past)) (omega (arith, some)) (omega (arith, past, some, within))
