-- What a body keeps, with some of its elements exchanged for others.
use Rattle.std.proofs.Common.{◌≡◌, ℕ, ◌+◌, ◌-◌, ◌<◌, ◌≤◌, ◌^◌, Bool, true, false, cond, List, [], ◌∷◌, ◌++◌, length, map, take, drop, slice_range, All, refl, sym, ap, ap₂, ◌∙◌, arith, append_assoc, length-append, take_at, drop_at, sum_by, length-drop}
use Rattle.std.proofs.lemmas.List.{map-append, length-map, length-take-le, take-append-drop}
use Rattle.std.proofs.lemmas.List.Sums.{sum_by-cons, sum_by-append, sum_by-take-le}
use Rattle.std.proofs.lemmas.List.Elements.{All-same}
use Rattle.spec_pages.specs.declared.Shape.{Shape}
use Rattle.spec_pages.specs.Rows.{Row, ElementOf, shifted_row, placed_rows}
use Rattle.spec_labels.specs.declared.RowKey.{RowKey}
use Rattle.spec_sheets.specs.Layout.{placed_in}
use Rattle.spec_sheets.specs.Shown.{is_heading_element, heading_count}
use Rattle.sp_gap.specs.Runs.{exchanged}
use Rattle.sp_gap.proofs.RunLaws.{in-three}
use Rattle.sp_gap.specs.Moves.{shifted}
use Rattle.sp_gap.specs.Gaps.{CanExchangePlaces}
use Rattle.sp_layout.specs.RowFacts.{FactsOf, facts_between, with_facts}
use Rattle.sp_layout.specs.Bodies.{BodyParts, IsBody, row_count, starts_by, rows_of, headings_of}
use Rattle.sp_layout.specs.Exchanges.{moved_element}
use Rattle.sp_layout.proofs.BodyLaws.{headings-few, placed_in-append, sum-rows, sum-headings, starts_by-get, length-starts_by}

-- What is asked of rows, by something that doesn't depend on places of lines.
abbrev rows_by : {X : Type 0} → (Row → X) → List ElementOf → List X
rows_by field elements = map field (placed_in elements)

abbrev IgnoresPlaces : {X : Type 0} → (Row → X) → Type 0
IgnoresPlaces field = (n : ℕ) (row : Row) → field (shifted_row n row) ≡ field row

rows-append : {X : Type 0} (field : Row → X) (one other : List ElementOf) → rows_by field (one ++ other) ≡ rows_by field one ++ rows_by field other
rows-append field one other = ap (map field) (placed_in-append one other) ∙ map-append field (placed_in one) (placed_in other)

rows-length : {X : Type 0} (field : Row → X) (elements : List ElementOf) → length (rows_by field elements) ≡ row_count elements
rows-length field elements = length-map (placed_in elements) field

rows-shifted : {X : Type 0} (field : Row → X) (n m : ℕ) (rows : List Row) → IgnoresPlaces field → map field (map (shifted_row n) rows) ≡ map field (map (shifted_row m) rows)
rows-shifted field n m [] ignores = refl
rows-shifted {X} field n m (row ∷ rows) ignores = ap₂ (λ (x : X) (xs : List X). x ∷ xs) (ignores n row ∙ sym (ignores m row)) (rows-shifted field n m rows ignores)

rows-moved : {X : Type 0} (field : Row → X) (less more : ℕ) (elements : List ElementOf) → IgnoresPlaces field → rows_by field (map (moved_element less more) elements) ≡ rows_by field elements
rows-moved field less more [] ignores = refl
rows-moved {X} field less more (element ∷ elements) ignores =
    map-append field (placed_rows (moved_element less more element)) (placed_in (map (moved_element less more) elements))
    ∙ ap₂ (λ (xs ys : List X). xs ++ ys) (rows-shifted field (shifted less more element.first) element.first element.rows ignores) (rows-moved field less more elements ignores)
    ∙ sym (map-append field (placed_rows element) (placed_in elements))

-- How many rows and headings there are.
pub count-append : (one other : List ElementOf) → row_count (one ++ other) ≡ row_count one + row_count other
count-append one other = ap length (placed_in-append one other) ∙ length-append (placed_in one) (placed_in other)

pub count-moved : (less more : ℕ) (elements : List ElementOf) → row_count (map (moved_element less more) elements) ≡ row_count elements
count-moved less more [] = refl
count-moved less more (element ∷ elements) =
    let rest = count-moved less more elements in
    let own = length-append (placed_rows (moved_element less more element)) (placed_in (map (moved_element less more) elements)) in
    let before = length-append (placed_rows element) (placed_in elements) in
    let one = length-map element.rows (shifted_row (shifted less more element.first)) in
    let two = length-map element.rows (shifted_row element.first) in
    omega (arith, rest, own, before, one, two)

pub headings-append : (one other : List ElementOf) → heading_count (one ++ other) ≡ heading_count one + heading_count other
headings-append one other = omega (arith, sum-headings (one ++ other), sum-headings one, sum-headings other, sum_by-append headings_of one other)

-- A heading is one wherever it stands.
headings-stay : (less more : ℕ) (element : ElementOf) → headings_of (moved_element less more element) ≡ headings_of element
headings-stay less more element = by (is_heading_element element)
  where
    by : (b : Bool) → length (cond b (moved_element less more element ∷ []) []) ≡ length (cond b (element ∷ []) [])
    by true = refl
    by false = refl

pub headings-moved : (less more : ℕ) (elements : List ElementOf) → heading_count (map (moved_element less more) elements) ≡ heading_count elements
headings-moved less more elements = sym (sum-headings (map (moved_element less more) elements)) ∙ by elements ∙ sum-headings elements
  where
    by : (those : List ElementOf) → sum_by headings_of (map (moved_element less more) those) ≡ sum_by headings_of those
    by [] = refl
    by (element ∷ those) =
        omega (arith, sum_by-cons headings_of (moved_element less more element) (map (moved_element less more) those), sum_by-cons headings_of element those, headings-stay less more element, by those)

-- Rows exchanged where elements are.
rows-exchanged : {X : Type 0} (field : Row → X) (elements others : List ElementOf) (from to less more : ℕ) → from ≤ to → to ≤ length elements → IgnoresPlaces field
    → rows_by field (take from elements ++ (others ++ map (moved_element less more) (drop to elements)))
    ≡ exchanged (rows_by field elements) (row_count (take from elements)) (row_count (take to elements)) (rows_by field others)
rows-exchanged {X} field elements others from to less more order within ignores =
    let front = take from elements in
    let till = take to elements in
    let behind = drop to elements in
    let one : rows_by field elements ≡ rows_by field front ++ rows_by field (drop from elements) =
    ap (rows_by field) (sym (take-append-drop from elements)) ∙ rows-append field front (drop from elements) in
    let two : rows_by field elements ≡ rows_by field till ++ rows_by field behind =
    ap (rows_by field) (sym (take-append-drop to elements)) ∙ rows-append field till behind in
    rows-append field front (others ++ map (moved_element less more) behind)
    ∙ ap (λ (xs : List X). rows_by field front ++ xs) (rows-append field others (map (moved_element less more) behind) ∙ ap (λ (xs : List X). rows_by field others ++ xs) (rows-moved field less more behind ignores))
    ∙ ap₂ (λ (xs ys : List X). xs ++ (rows_by field others ++ ys))
    (sym (ap (take (row_count front)) one ∙ take_at (rows_by field front) (rows_by field (drop from elements)) (row_count front) (rows-length field front)))
    (sym (ap (drop (row_count till)) two ∙ drop_at (rows_by field till) (rows_by field behind) (row_count till) (rows-length field till)))

-- The first elements and the run behind them.
pub till-is : (elements : List ElementOf) (from to : ℕ) → from ≤ to → to ≤ length elements → take to elements ≡ take from elements ++ slice_range elements from to
till-is elements from to order within =
    let front = take from elements in
    let run = slice_range elements from to in
    let behind = drop to elements in
    let len : length (front ++ run) ≡ to =
    omega (arith, length-append front run, length-take-le from elements (omega (arith, order, within)), length-take-le (to - from) (drop from elements) (omega (arith, length-drop from elements, within)), order) in
    ap (take to) (in-three elements from to order ∙ sym (append_assoc front run behind)) ∙ take_at (front ++ run) behind to len

-- Rows of a run.
rows-run : {X : Type 0} (field : Row → X) (elements : List ElementOf) (from to : ℕ) → from ≤ to → to ≤ length elements
    → rows_by field (slice_range elements from to) ≡ slice_range (rows_by field elements) (row_count (take from elements)) (row_count (take to elements))
rows-run {X} field elements from to order within =
    let front = take from elements in
    let run = slice_range elements from to in
    let behind = drop to elements in
    let parts : rows_by field elements ≡ rows_by field front ++ (rows_by field run ++ rows_by field behind) =
    ap (rows_by field) (in-three elements from to order) ∙ rows-append field front (run ++ behind) ∙ ap (λ (xs : List X). rows_by field front ++ xs) (rows-append field run behind) in
    let till = ap row_count (till-is elements from to order within) ∙ count-append front run in
    let size : length (rows_by field run) ≡ row_count (take to elements) - row_count front = omega (arith, rows-length field run, till) in
    sym (ap (λ (xs : List X). take (row_count (take to elements) - row_count front) (drop (row_count front) xs)) parts
    ∙ ap (take (row_count (take to elements) - row_count front)) (drop_at (rows_by field front) (rows_by field run ++ rows_by field behind) (row_count front) (rows-length field front))
    ∙ take_at (rows_by field run) (rows_by field behind) (row_count (take to elements) - row_count front) size)

-- Starts of elements, one list behind another, and moved.
starts-append : (size : ElementOf → ℕ) (count : ℕ) (one other : List ElementOf) → starts_by size count (one ++ other) ≡ starts_by size count one ++ starts_by size (count + sum_by size one) other
starts-append size count [] other = let same : count ≡ count + 0 = omega arith in ap (λ n. starts_by size n other) same
starts-append size count (element ∷ one) other =
    let sum : count + size element + sum_by size one ≡ count + sum_by size (element ∷ one) = omega (arith, sum_by-cons size element one) in
    ap (λ (xs : List ℕ). count ∷ xs) (starts-append size (count + size element) one other ∙ ap (λ n. starts_by size (count + size element) one ++ starts_by size n other) sum)

starts-shifted : (size : ElementOf → ℕ) (less more count : ℕ) (elements : List ElementOf) → less ≤ count → map (shifted less more) (starts_by size count elements) ≡ starts_by size (count - less + more) elements
starts-shifted size less more count [] low = refl
starts-shifted size less more count (element ∷ elements) low =
    let next : count + size element - less + more ≡ count - less + more + size element = omega (arith, low) in
    ap (λ (xs : List ℕ). (count - less + more) ∷ xs) (starts-shifted size less more (count + size element) elements (omega (arith, low)) ∙ ap (λ n. starts_by size n elements) next)

-- Sizes don't depend on places.
abbrev SizesStay : (ElementOf → ℕ) → Type 0
SizesStay size = (less more : ℕ) (element : ElementOf) → size (moved_element less more element) ≡ size element

starts-moved : (size : ElementOf → ℕ) (less more count : ℕ) (elements : List ElementOf) → SizesStay size → starts_by size count (map (moved_element less more) elements) ≡ starts_by size count elements
starts-moved size less more count [] stay = refl
starts-moved size less more count (element ∷ elements) stay =
    ap (λ (xs : List ℕ). count ∷ xs) (ap (λ n. starts_by size n (map (moved_element less more) elements)) (ap (λ n. count + n) (stay less more element)) ∙ starts-moved size less more (count + size element) elements stay)

starts-split : (size : ElementOf → ℕ) (elements : List ElementOf) (place : ℕ) → place ≤ length elements
    → (take place (starts_by size 0 elements) ≡ starts_by size 0 (take place elements)) × (drop place (starts_by size 0 elements) ≡ starts_by size (sum_by size (take place elements)) (drop place elements))
starts-split size elements place within =
    let front = take place elements in
    let behind = drop place elements in
    let zero_first : 0 + sum_by size front ≡ sum_by size front = omega arith in
    let parts : starts_by size 0 elements ≡ starts_by size 0 front ++ starts_by size (sum_by size front) behind =
    ap (starts_by size 0) (sym (take-append-drop place elements)) ∙ starts-append size 0 front behind ∙ ap (λ n. starts_by size 0 front ++ starts_by size n behind) zero_first in
    let len : length (starts_by size 0 front) ≡ place = length-starts_by size 0 front ∙ length-take-le place elements within in (
      ap (take place) parts ∙ take_at (starts_by size 0 front) (starts_by size (sum_by size front) behind) place len,
      ap (drop place) parts ∙ drop_at (starts_by size 0 front) (starts_by size (sum_by size front) behind) place len,
    )

-- The starts of a run, before they come to count from 0.
starts-run : (size : ElementOf → ℕ) (elements : List ElementOf) (from to : ℕ) → from ≤ to → to ≤ length elements
    → slice_range (starts_by size 0 elements) from to ≡ starts_by size (sum_by size (take from elements)) (slice_range elements from to)
starts-run size elements from to order within =
    let front = take from elements in
    let run = slice_range elements from to in
    let behind = drop to elements in
    let count = sum_by size front in
    let rest = (starts-split size elements from (omega (arith, order, within))).1 in
    let both : drop from elements ≡ run ++ behind = ap (drop from) (in-three elements from to order) ∙ drop_at front (run ++ behind) from (length-take-le from elements (omega (arith, order, within))) in
    let len : length (starts_by size count run) ≡ to - from = length-starts_by size count run ∙ length-take-le (to - from) (drop from elements) (omega (arith, length-drop from elements, within)) in
    ap (take (to - from)) (rest ∙ ap (starts_by size count) both ∙ starts-append size count run behind)
    ∙ take_at (starts_by size count run) (starts_by size (count + sum_by size run) behind) (to - from) len

-- The starts of all, where so much stands before the run, and up to its end, and so much comes.
starts-exchanged : (size : ElementOf → ℕ) (elements others : List ElementOf) (from to less more base end come : ℕ) → from ≤ to → to ≤ length elements → SizesStay size
    → base ≡ sum_by size (take from elements) → end ≡ sum_by size (take to elements) → come ≡ sum_by size others
    → take from (starts_by size 0 elements) ++ (map (shifted 0 base) (starts_by size 0 others) ++ map (shifted end (base + come)) (drop to (starts_by size 0 elements)))
    ≡ starts_by size 0 (take from elements ++ (others ++ map (moved_element less more) (drop to elements)))
starts-exchanged size elements others from to less more base end come order within stay base_is end_is come_is =
    let front = take from elements in
    let behind = drop to elements in
    let one = starts-split size elements from (omega (arith, order, within)) in
    let two = starts-split size elements to within in
    let own : 0 - 0 + base ≡ 0 + sum_by size front = omega (arith, base_is) in
    let later : sum_by size (take to elements) - end + (base + come) ≡ 0 + sum_by size front + sum_by size others = omega (arith, base_is, end_is, come_is) in
    let low : end ≤ sum_by size (take to elements) = omega (arith, end_is) in
    ap₂ (λ (xs ys : List ℕ). xs ++ (map (shifted 0 base) (starts_by size 0 others) ++ map (shifted end (base + come)) ys)) one.0 two.1
    ∙ ap₂ (λ (xs ys : List ℕ). starts_by size 0 front ++ (xs ++ ys))
    (starts-shifted size 0 base 0 others (omega arith) ∙ ap (λ n. starts_by size n others) own)
    (starts-shifted size end (base + come) (sum_by size (take to elements)) behind low ∙ ap (λ n. starts_by size n behind) later ∙ sym (starts-moved size less more (0 + sum_by size front + sum_by size others) behind stay))
    ∙ ap (λ (xs : List ℕ). starts_by size 0 front ++ xs) (sym (starts-append size (0 + sum_by size front) others (map (moved_element less more) behind)))
    ∙ sym (starts-append size 0 front (others ++ map (moved_element less more) behind))

-- The starts of what was taken out.
starts-taken : (size : ElementOf → ℕ) (elements : List ElementOf) (from to base : ℕ) → from ≤ to → to ≤ length elements → base ≡ sum_by size (take from elements)
    → map (shifted base 0) (slice_range (starts_by size 0 elements) from to) ≡ starts_by size 0 (slice_range elements from to)
starts-taken size elements from to base order within base_is =
    let run = slice_range elements from to in
    let none : sum_by size (take from elements) - base + 0 ≡ 0 = omega (arith, base_is) in
    ap (map (shifted base 0)) (starts-run size elements from to order within)
    ∙ starts-shifted size base 0 (sum_by size (take from elements)) run (omega (arith, base_is)) ∙ ap (λ n. starts_by size n run) none

-- Bounds of starts.
starts-from : (size : ElementOf → ℕ) (count low : ℕ) (elements : List ElementOf) → low ≤ count → All (λ place. low ≤ place) (starts_by size count elements)
starts-from size count low elements first k d inside =
    let at = starts_by-get size count elements k d (omega (arith, inside, length-starts_by size count elements)) in
    omega (arith, at, first)

starts-to : (size : ElementOf → ℕ) (count high : ℕ) (elements : List ElementOf) → count + sum_by size elements ≤ high → All (λ place. place ≤ high) (starts_by size count elements)
starts-to size count high elements last k d inside =
    let at = starts_by-get size count elements k d (omega (arith, inside, length-starts_by size count elements)) in
    let few = sum_by-take-le size elements k in
    omega (arith, at, last, few)

-- Starts can be exchanged where elements are.
starts-can : (size : ElementOf → ℕ) (elements : List ElementOf) (starts : List ℕ) (from to last base less more others_last : ℕ) → from ≤ to → to ≤ length elements → starts ≡ starts_by size 0 elements
    → base ≡ sum_by size (take from elements) → less ≡ sum_by size (take to elements) → more ≡ base + others_last → last ≡ sum_by size elements → last + others_last < 2 ^ 64
    → CanExchangePlaces starts last from to base less more others_last
starts-can size elements starts from to last base less more others_last order within is base_is less_is more_is last_is small =
    let front = take from elements in
    let till = take to elements in
    let run = slice_range elements from to in
    let behind = drop to elements in
    let run_sum : sum_by size till ≡ sum_by size front + sum_by size run = ap (sum_by size) (till-is elements from to order within) ∙ sum_by-append size front run in
    let split : sum_by size elements ≡ sum_by size till + sum_by size behind = ap (sum_by size) (sym (take-append-drop to elements)) ∙ sum_by-append size till behind in
    let begin = starts-split size elements from (omega (arith, order, within)) in
    let end = starts-split size elements to within in
    let inner : slice_range starts from to ≡ starts_by size (sum_by size front) run = ap (λ xs. slice_range xs from to) is ∙ starts-run size elements from to order within in
    record {
      above = omega (arith, base_is, less_is, run_sum);
      inside = omega (arith, less_is, last_is, split);
      come = omega (arith, more_is);
      fits = omega (arith, more_is, base_is, less_is, run_sum, last_is, split, small);
      before = All-same (λ place. place ≤ base) (take from starts) (starts_by size 0 front) (ap (take from) is ∙ begin.0) (starts-to size 0 base front (omega (arith, base_is)));
      from_base = All-same (λ place. base ≤ place) (slice_range starts from to) (starts_by size (sum_by size front) run) inner (starts-from size (sum_by size front) base run (omega (arith, base_is)));
      to_less = All-same (λ place. place ≤ less) (slice_range starts from to) (starts_by size (sum_by size front) run) inner (starts-to size (sum_by size front) less run (omega (arith, less_is, run_sum)));
      later = All-same (λ place. less ≤ place) (drop to starts) (starts_by size (sum_by size till) behind) (ap (drop to) is ∙ end.1) (starts-from size (sum_by size till) less behind (omega (arith, less_is)));
    }

-- A body, and what becomes of it and of another one by an exchange.
pub record IsExchanged (from to less more : ℕ) (old others new taken : BodyParts) : Type 0 where
  pub elements : new.elements ≡ take from old.elements ++ (others.elements ++ map (moved_element less more) (drop to old.elements))
  pub facts : new.facts ≡ with_facts old.facts (row_count (take from old.elements)) (row_count (take to old.elements)) others.facts
  pub row_starts : new.row_starts ≡ take from old.row_starts ++ (map (shifted 0 (row_count (take from old.elements))) others.row_starts ++ map (shifted (row_count (take to old.elements)) (row_count (take from old.elements) + row_count others.elements)) (drop to old.row_starts))
  pub heading_starts : new.heading_starts ≡ take from old.heading_starts ++ (map (shifted 0 (heading_count (take from old.elements))) others.heading_starts ++ map (shifted (heading_count (take to old.elements)) (heading_count (take from old.elements) + heading_count others.elements)) (drop to old.heading_starts))
  pub rows : new.rows + row_count (take to old.elements) ≡ row_count (take from old.elements) + row_count others.elements + row_count old.elements
  pub headings : new.headings + heading_count (take to old.elements) ≡ heading_count (take from old.elements) + heading_count others.elements + heading_count old.elements
  pub taken_elements : taken.elements ≡ slice_range old.elements from to
  pub taken_facts : taken.facts ≡ facts_between old.facts (row_count (take from old.elements)) (row_count (take to old.elements))
  pub taken_row_starts : taken.row_starts ≡ map (shifted (row_count (take from old.elements)) 0) (slice_range old.row_starts from to)
  pub taken_heading_starts : taken.heading_starts ≡ map (shifted (heading_count (take from old.elements)) 0) (slice_range old.heading_starts from to)
  pub taken_rows : taken.rows + row_count (take from old.elements) ≡ row_count (take to old.elements)
  pub taken_headings : taken.headings + heading_count (take from old.elements) ≡ heading_count (take to old.elements)

stays-rows : SizesStay rows_of
stays-rows less more element = refl

stays-headings : SizesStay headings_of
stays-headings less more element = headings-stay less more element

pub IsBody-exchanged : (from to less more : ℕ) (old others new taken : BodyParts) → from ≤ to → to ≤ length old.elements → IsBody old → IsBody others → IsExchanged from to less more old others new taken → IsBody new
IsBody-exchanged from to less more old others new taken order within is them done =
    let all = take from old.elements ++ (others.elements ++ map (moved_element less more) (drop to old.elements)) in
    let row = row_count (take from old.elements) in
    let end = row_count (take to old.elements) in
    let heading = heading_count (take from old.elements) in
    let heading_end = heading_count (take to old.elements) in
    let split : row_count old.elements ≡ end + row_count (drop to old.elements) = ap row_count (sym (take-append-drop to old.elements)) ∙ count-append (take to old.elements) (drop to old.elements) in
    let till = ap row_count (till-is old.elements from to order within) ∙ count-append (take from old.elements) (slice_range old.elements from to) in
    let heading_split : heading_count old.elements ≡ heading_end + heading_count (drop to old.elements) = ap heading_count (sym (take-append-drop to old.elements)) ∙ headings-append (take to old.elements) (drop to old.elements) in
    let rows_all : row_count all ≡ row + (row_count others.elements + row_count (drop to old.elements)) =
    count-append (take from old.elements) (others.elements ++ map (moved_element less more) (drop to old.elements))
    ∙ ap (λ n. row + n) (count-append others.elements (map (moved_element less more) (drop to old.elements)) ∙ ap (λ n. row_count others.elements + n) (count-moved less more (drop to old.elements))) in
    let headings_all : heading_count all ≡ heading + (heading_count others.elements + heading_count (drop to old.elements)) =
    headings-append (take from old.elements) (others.elements ++ map (moved_element less more) (drop to old.elements))
    ∙ ap (λ n. heading + n) (headings-append others.elements (map (moved_element less more) (drop to old.elements)) ∙ ap (λ n. heading_count others.elements + n) (headings-moved less more (drop to old.elements))) in
    record {
      shapes = ap (λ (facts : FactsOf). facts.shapes) done.facts ∙ ap₂ (λ (xs ys : List Shape). exchanged xs row end ys) is.shapes them.shapes
          ∙ sym (rows-exchanged (λ (it : Row). it.shape) old.elements others.elements from to less more order within (λ n it. refl)) ∙ sym (ap (map (λ (it : Row). it.shape)) (ap placed_in done.elements));
      marks = ap (λ (facts : FactsOf). facts.marks) done.facts ∙ ap₂ (λ (xs ys : List ℕ). exchanged xs row end ys) is.marks them.marks
          ∙ sym (rows-exchanged (λ (it : Row). it.mark) old.elements others.elements from to less more order within (λ n it. refl)) ∙ sym (ap (map (λ (it : Row). it.mark)) (ap placed_in done.elements));
      keys = ap (λ (facts : FactsOf). length facts.keys) done.facts ∙ keys-count old.facts.keys others.facts.keys row end (row_count old.elements) is.keys (omega (arith, split, till))
          ∙ omega (arith, them.keys, split, rows_all) ∙ sym (ap row_count done.elements);
      row_starts = done.row_starts ∙ ap₂ (λ (xs ys : List ℕ). take from xs ++ (map (shifted 0 row) ys ++ map (shifted end (row + row_count others.elements)) (drop to xs))) is.row_starts them.row_starts
          ∙ starts-exchanged rows_of old.elements others.elements from to less more row end (row_count others.elements) order within stays-rows (sym (sum-rows (take from old.elements))) (sym (sum-rows (take to old.elements))) (sym (sum-rows others.elements))
          ∙ sym (ap (starts_by rows_of 0) done.elements);
      heading_starts = done.heading_starts ∙ ap₂ (λ (xs ys : List ℕ). take from xs ++ (map (shifted 0 heading) ys ++ map (shifted heading_end (heading + heading_count others.elements)) (drop to xs))) is.heading_starts them.heading_starts
          ∙ starts-exchanged headings_of old.elements others.elements from to less more heading heading_end (heading_count others.elements) order within stays-headings (sym (sum-headings (take from old.elements))) (sym (sum-headings (take to old.elements))) (sym (sum-headings others.elements))
          ∙ sym (ap (starts_by headings_of 0) done.elements);
      rows = omega (arith, done.rows, split, rows_all, ap row_count done.elements);
      headings = omega (arith, done.headings, heading_split, headings_all, ap heading_count done.elements);
    }
  where
    keys-count : (keys others : List RowKey) (row end all : ℕ) → length keys ≡ all → (row ≤ end) × (end ≤ all) → length (exchanged keys row end others) ≡ row + (length others + (all - end))
    keys-count keys others row end all count order =
        omega (arith, length-append (take row keys) (others ++ drop end keys), length-append others (drop end keys), length-drop end keys, length-take-le row keys (omega (arith, order.0, order.1, count)), count)

pub IsBody-taken : (from to less more : ℕ) (old others new taken : BodyParts) → from ≤ to → to ≤ length old.elements → IsBody old → IsExchanged from to less more old others new taken → IsBody taken
IsBody-taken from to less more old others new taken order within is done =
    let run = slice_range old.elements from to in
    let row = row_count (take from old.elements) in
    let end = row_count (take to old.elements) in
    let split : row_count old.elements ≡ end + row_count (drop to old.elements) = ap row_count (sym (take-append-drop to old.elements)) ∙ count-append (take to old.elements) (drop to old.elements) in
    let till = ap row_count (till-is old.elements from to order within) ∙ count-append (take from old.elements) run in
    let heading_till = ap heading_count (till-is old.elements from to order within) ∙ headings-append (take from old.elements) run in
    record {
      shapes = ap (λ (facts : FactsOf). facts.shapes) done.taken_facts ∙ ap (λ (xs : List Shape). slice_range xs row end) is.shapes ∙ sym (rows-run (λ (it : Row). it.shape) old.elements from to order within) ∙ sym (ap (map (λ (it : Row). it.shape)) (ap placed_in done.taken_elements));
      marks = ap (λ (facts : FactsOf). facts.marks) done.taken_facts ∙ ap (λ (xs : List ℕ). slice_range xs row end) is.marks ∙ sym (rows-run (λ (it : Row). it.mark) old.elements from to order within) ∙ sym (ap (map (λ (it : Row). it.mark)) (ap placed_in done.taken_elements));
      keys = ap (λ (facts : FactsOf). length facts.keys) done.taken_facts
          ∙ length-take-le (end - row) (drop row old.facts.keys) (omega (arith, length-drop row old.facts.keys, is.keys, split, till))
          ∙ omega (arith, till) ∙ sym (ap row_count done.taken_elements);
      row_starts = done.taken_row_starts ∙ ap (λ (xs : List ℕ). map (shifted row 0) (slice_range xs from to)) is.row_starts
          ∙ starts-taken rows_of old.elements from to row order within (sym (sum-rows (take from old.elements))) ∙ sym (ap (starts_by rows_of 0) done.taken_elements);
      heading_starts = done.taken_heading_starts ∙ ap (λ (xs : List ℕ). map (shifted (heading_count (take from old.elements)) 0) (slice_range xs from to)) is.heading_starts
          ∙ starts-taken headings_of old.elements from to (heading_count (take from old.elements)) order within (sym (sum-headings (take from old.elements))) ∙ sym (ap (starts_by headings_of 0) done.taken_elements);
      rows = omega (arith, done.taken_rows, till, ap row_count done.taken_elements);
      headings = omega (arith, done.taken_headings, heading_till, ap heading_count done.taken_elements);
    }

-- Where an exchange reads and writes lies in the lists, and all places stay small.
pub record ExchangeFits (from to : ℕ) (old others : BodyParts) : Type 0 where
  pub rows_order : row_count (take from old.elements) ≤ row_count (take to old.elements)
  pub run_rows : row_count (take to old.elements) ≡ row_count (take from old.elements) + row_count (slice_range old.elements from to)
  pub rows_within : row_count (take to old.elements) ≤ row_count old.elements
  pub headings_order : heading_count (take from old.elements) ≤ heading_count (take to old.elements)
  pub headings_within : heading_count (take to old.elements) ≤ heading_count old.elements
  pub headings_few : heading_count old.elements ≤ length old.elements
  pub others_few : heading_count others.elements ≤ length others.elements
  pub shapes_len : length old.facts.shapes ≡ row_count old.elements
  pub others_shapes : length others.facts.shapes ≡ row_count others.elements
  pub starts_len : length old.row_starts ≡ length old.elements
  pub heading_starts_len : length old.heading_starts ≡ length old.elements
  pub others_starts : length others.row_starts ≡ length others.elements
  pub others_heading_starts : length others.heading_starts ≡ length others.elements
  pub rows_can : CanExchangePlaces old.row_starts old.rows from to (row_count (take from old.elements)) (row_count (take to old.elements)) (row_count (take from old.elements) + others.rows) others.rows
  pub headings_can : CanExchangePlaces old.heading_starts old.headings from to (heading_count (take from old.elements)) (heading_count (take to old.elements)) (heading_count (take from old.elements) + others.headings) others.headings

pub exchange-fits : (from to : ℕ) (old others : BodyParts) → IsBody old → IsBody others → from ≤ to → to ≤ length old.elements → row_count old.elements + row_count others.elements < 2 ^ 64 → length old.elements + length others.elements < 2 ^ 64
    → ExchangeFits from to old others
exchange-fits from to old others is them order within small few =
    let front = take from old.elements in
    let till = take to old.elements in
    let run = slice_range old.elements from to in
    let behind = drop to old.elements in
    let row = row_count front in
    let end = row_count till in
    let heading = heading_count front in
    let heading_end = heading_count till in
    let split : row_count old.elements ≡ end + row_count behind = ap row_count (sym (take-append-drop to old.elements)) ∙ count-append till behind in
    let run_rows : end ≡ row + row_count run = ap row_count (till-is old.elements from to order within) ∙ count-append front run in
    let heading_split : heading_count old.elements ≡ heading_end + heading_count behind = ap heading_count (sym (take-append-drop to old.elements)) ∙ headings-append till behind in
    let run_headings : heading_end ≡ heading + heading_count run = ap heading_count (till-is old.elements from to order within) ∙ headings-append front run in
    let all_few = headings-few old.elements in
    let others_few = headings-few others.elements in
    record {
      rows_order = omega (arith, run_rows);
      run_rows = run_rows;
      rows_within = omega (arith, split);
      headings_order = omega (arith, run_headings);
      headings_within = omega (arith, heading_split);
      headings_few = all_few;
      others_few = others_few;
      shapes_len = ap length is.shapes ∙ rows-length (λ (it : Row). it.shape) old.elements;
      others_shapes = ap length them.shapes ∙ rows-length (λ (it : Row). it.shape) others.elements;
      starts_len = ap length is.row_starts ∙ length-starts_by rows_of 0 old.elements;
      heading_starts_len = ap length is.heading_starts ∙ length-starts_by headings_of 0 old.elements;
      others_starts = ap length them.row_starts ∙ length-starts_by rows_of 0 others.elements;
      others_heading_starts = ap length them.heading_starts ∙ length-starts_by headings_of 0 others.elements;
      rows_can = starts-can rows_of old.elements old.row_starts from to old.rows row end (row + others.rows) others.rows order within is.row_starts
          (sym (sum-rows front)) (sym (sum-rows till)) refl (is.rows ∙ sym (sum-rows old.elements)) (omega (arith, is.rows, them.rows, small));
      headings_can = starts-can headings_of old.elements old.heading_starts from to old.headings heading heading_end (heading + others.headings) others.headings order within is.heading_starts
          (sym (sum-headings front)) (sym (sum-headings till)) refl (is.headings ∙ sym (sum-headings old.elements)) (omega (arith, is.headings, them.headings, all_few, others_few, few));
    }

-- What stands before the later elements, and those.
pub behind-is : (elements others : List ElementOf) (from to count : ℕ) → from ≤ to → to ≤ length elements → count ≡ length others → let made = take from elements ++ (others ++ drop to elements) in
    (take (from + count) made ≡ take from elements ++ others) × (drop (from + count) made ≡ drop to elements)
behind-is elements others from to count order within is =
    let front = take from elements in
    let behind = drop to elements in
    let len : length (front ++ others) ≡ from + count = omega (arith, length-append front others, length-take-le from elements (omega (arith, order, within)), is) in
    let parts = sym (append_assoc front others behind) in
    (ap (take (from + count)) parts ∙ take_at (front ++ others) behind (from + count) len, ap (drop (from + count)) parts ∙ drop_at (front ++ others) behind (from + count) len)

pub moved-behind : (elements others made new : List ElementOf) (from to count less more : ℕ) → from ≤ to → to ≤ length elements → count ≡ length others → made ≡ take from elements ++ (others ++ drop to elements)
    → new ≡ take (from + count) made ++ map (moved_element less more) (drop (from + count) made) → new ≡ take from elements ++ (others ++ map (moved_element less more) (drop to elements))
moved-behind elements others made new from to count less more order within is made_is new_is =
    let parts = behind-is elements others from to count order within is in
    new_is ∙ ap (λ (those : List ElementOf). take (from + count) those ++ map (moved_element less more) (drop (from + count) those)) made_is
    ∙ ap₂ (λ (those later : List ElementOf). those ++ map (moved_element less more) later) parts.0 parts.1
    ∙ append_assoc (take from elements) others (map (moved_element less more) (drop to elements))
