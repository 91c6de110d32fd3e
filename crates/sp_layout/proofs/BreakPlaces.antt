-- Page breaks among the elements of a body: they rise, and stand before the rows that end pages.
use Rattle.std.proofs.Common.{◌≡◌, ℕ, ◌+◌, ◌-◌, ◌<◌, ◌≤◌, Bool, true, false, not, cond, List, [], ◌∷◌, ◌++◌, length, map, filter, inl, inr, refl, sym, ap, ap₂, ◌∙◌, append_assoc, length-append, take_at, arith}
use Rattle.std.specs.Prelude.{All, AllPairs}
use Rattle.std.proofs.lemmas.Bool.{cases_Bool, true≢false}
use Rattle.std.proofs.lemmas.List.Elements.{All-nil, All-cons}
use Rattle.std.proofs.lemmas.List.Kept.{AllPairs-cons}
use Rattle.spec_text.specs.Lines.{LineState}
use Rattle.spec_script.specs.declared.Kind.{Kind}
use Rattle.spec_script.specs.LongestRuns.{Group}
use Rattle.spec_pages.specs.Rows.{ElementOf, is_title}
use Rattle.spec_sheets.specs.Speakers.{Spoken}
use Rattle.spec_sheets.specs.Layout.{laid_out, kind_of, in_body, is_page_break, rows_behind, breaks_from, layout_in}
use Rattle.sp_layout.specs.Bodies.{row_count}
use Rattle.sp_layout.specs.LaidOut.{break_places, places_behind, rows_before}
use Rattle.sp_layout.proofs.LayoutAhead.{row_count-push, title-break}

-- How many elements of the body these are.
abbrev pub bodies_in : List (Group Spoken) → ℕ
bodies_in groups = length (filter in_body groups)

bodies-cons : (count : ℕ) (x : Group Spoken) (xs : List (Group Spoken)) → places_behind count x + bodies_in xs ≡ count + bodies_in (x ∷ xs)
bodies-cons count x xs = by (in_body x)
  where
    by : (b : Bool) → cond b (count + 1) count + bodies_in xs ≡ count + length (cond b (x ∷ filter in_body xs) (filter in_body xs))
    by true = omega arith
    by false = refl

-- Elements behind others.
pub break_places-append : (count : ℕ) (xs ys : List (Group Spoken)) → break_places count (xs ++ ys) ≡ break_places count xs ++ break_places (count + bodies_in xs) ys
break_places-append count [] ys = let same : count ≡ count + 0 = omega arith in ap (λ n. break_places n ys) same
break_places-append count (x ∷ xs) ys =
    by (is_page_break (kind_of x)) (break_places-append (places_behind count x) xs ys ∙ ap (λ n. break_places (places_behind count x) xs ++ break_places n ys) (bodies-cons count x xs))
  where
    by : (b : Bool) → break_places (places_behind count x) (xs ++ ys) ≡ break_places (places_behind count x) xs ++ break_places (count + bodies_in (x ∷ xs)) ys
        → cond b (count ∷ break_places (places_behind count x) (xs ++ ys)) (break_places (places_behind count x) (xs ++ ys))
        ≡ cond b (count ∷ break_places (places_behind count x) xs) (break_places (places_behind count x) xs) ++ break_places (count + bodies_in (x ∷ xs)) ys
    by true rest = ap (λ (those : List ℕ). count ∷ those) rest
    by false rest = rest

-- So many elements more or less stand before these.
pub break_places-shifted : (less more count : ℕ) (xs : List (Group Spoken)) → less ≤ count → map (λ place. place - less + more) (break_places count xs) ≡ break_places (count - less + more) xs
break_places-shifted less more count [] low = refl
break_places-shifted less more count (x ∷ xs) low = by (is_page_break (kind_of x)) (next (λ n above. break_places-shifted less more n xs above) (in_body x))
  where
    next : ((n : ℕ) → less ≤ n → map (λ place. place - less + more) (break_places n xs) ≡ break_places (n - less + more) xs) → (b : Bool)
        → map (λ place. place - less + more) (break_places (cond b (count + 1) count) xs) ≡ break_places (cond b (count - less + more + 1) (count - less + more)) xs
    next rest true = let same : count + 1 - less + more ≡ count - less + more + 1 = omega (arith, low) in rest (count + 1) (omega (arith, low)) ∙ ap (λ n. break_places n xs) same
    next rest false = rest count low

    by : (b : Bool) → map (λ place. place - less + more) (break_places (places_behind count x) xs) ≡ break_places (places_behind (count - less + more) x) xs
        → map (λ place. place - less + more) (cond b (count ∷ break_places (places_behind count x) xs) (break_places (places_behind count x) xs))
        ≡ cond b ((count - less + more) ∷ break_places (places_behind (count - less + more) x) xs) (break_places (places_behind (count - less + more) x) xs)
    by true rest = ap (λ (those : List ℕ). (count - less + more) ∷ those) rest
    by false rest = rest

-- Places from one on to before another, which rise.
pub record PlacesLie (low high : ℕ) (places : List ℕ) : Type 0 where
  pub above : All (λ (place : ℕ). low ≤ place) places
  pub below : All (λ (place : ℕ). place < high) places
  pub rise : AllPairs (λ (one other : ℕ). one < other) places

lie-lower : (low from high : ℕ) (places : List ℕ) → low ≤ from → PlacesLie from high places → PlacesLie low high places
lie-lower low from high places order lie = record { above = λ k d h. let here = lie.above k d h in omega (arith, here, order); below = lie.below; rise = lie.rise }

-- One more place, by whether an element is a page break, and whether it stands in the body.
lie-next : (b i : Bool) (low high : ℕ) (places : List ℕ) → (b ≡ true → i ≡ true) → cond i (low + 1) low ≤ high → PlacesLie (cond i (low + 1) low) high places → PlacesLie low high (cond b (low ∷ places) places)
lie-next true true low high places stands order lie = record {
  above = All-cons (λ (place : ℕ). low ≤ place) low places (omega arith) (λ k d h. let here = lie.above k d h in omega (arith, here));
  below = All-cons (λ (place : ℕ). place < high) low places (omega (arith, order)) lie.below;
  rise = AllPairs-cons (λ (one other : ℕ). one < other) low places (λ k d h. let here = lie.above k d h in omega (arith, here)) lie.rise;
}
lie-next true false low high places stands order lie = absurd (true≢false (sym (stands refl)))
lie-next false true low high places stands order lie = lie-lower low (low + 1) high places (omega arith) lie
lie-next false false low high places stands order lie = lie

page-break-body : (kind : Kind) → is_page_break kind ≡ true → not (is_title kind) ≡ true
page-break-body kind is = elim (cases_Bool (is_title kind)) [
  | inl title ↦ absurd (true≢false (sym is ∙ title-break kind title))
  | inr other ↦ ap not other
]

pub break_places-lie : (count high : ℕ) (elements : List (Group Spoken)) → count + bodies_in elements ≤ high → PlacesLie count high (break_places count elements)
break_places-lie count high [] few = record {
  above = All-nil (λ (place : ℕ). count ≤ place);
  below = All-nil (λ (place : ℕ). place < high);
  rise = λ i j d below inside. absurd (omega arith);
}
break_places-lie count high (element ∷ elements) few =
    let size = bodies-cons count element elements in
    let behind = places_behind count element in
    lie-next (is_page_break (kind_of element)) (in_body element) count high (break_places behind elements) (page-break-body (kind_of element)) (omega (arith, size, few))
    (break_places-lie behind high elements (omega (arith, size, few)))

-- The rows before page breaks, where elements stand before them all.
rows-are : (lines : List LineState) (front : List ElementOf) (elements : List (Group Spoken))
    → rows_before (front ++ map (laid_out lines) (filter in_body elements)) (break_places (length front) elements) ≡ breaks_from lines (row_count front) elements
rows-are lines front [] = refl
rows-are lines front (x ∷ xs) = by (is_page_break (kind_of x)) (next (rows-are lines front xs) (rows-are lines (front ++ laid_out lines x ∷ []) xs) (in_body x))
  where
    laid : ElementOf
    laid = laid_out lines x

    rest : List ElementOf
    rest = map (laid_out lines) (filter in_body xs)

    next : rows_before (front ++ rest) (break_places (length front) xs) ≡ breaks_from lines (row_count front) xs
        → rows_before ((front ++ laid ∷ []) ++ rest) (break_places (length (front ++ laid ∷ [])) xs) ≡ breaks_from lines (row_count (front ++ laid ∷ [])) xs
        → (i : Bool) → rows_before (front ++ map (laid_out lines) (cond i (x ∷ filter in_body xs) (filter in_body xs))) (break_places (cond i (length front + 1) (length front)) xs)
        ≡ breaks_from lines (cond i (row_count front + length laid.rows) (row_count front)) xs
    next outside inside true =
        let size : length front + 1 ≡ length (front ++ laid ∷ []) = omega (arith, length-append front (laid ∷ [])) in
        ap₂ (λ (es : List ElementOf) n. rows_before es (break_places n xs)) (sym (append_assoc front (laid ∷ []) rest)) size
        ∙ inside ∙ ap (λ n. breaks_from lines n xs) (row_count-push front laid)
    next outside inside false = outside

    by : (b : Bool) → rows_before (front ++ map (laid_out lines) (filter in_body (x ∷ xs))) (break_places (places_behind (length front) x) xs) ≡ breaks_from lines (rows_behind lines (row_count front) x) xs
        → rows_before (front ++ map (laid_out lines) (filter in_body (x ∷ xs))) (cond b (length front ∷ break_places (places_behind (length front) x) xs) (break_places (places_behind (length front) x) xs))
        ≡ cond b (row_count front ∷ breaks_from lines (rows_behind lines (row_count front) x) xs) (breaks_from lines (rows_behind lines (row_count front) x) xs)
    by true those =
        ap₂ (λ n (ns : List ℕ). n ∷ ns) (ap row_count (take_at front (map (laid_out lines) (filter in_body (x ∷ xs))) (length front) refl)) those
    by false those = those

-- Page breaks stand before the rows that end pages.
pub break-rows : (lines : List LineState) (elements : List (Group Spoken)) → rows_before (layout_in lines elements).body (break_places 0 elements) ≡ (layout_in lines elements).breaks
break-rows lines elements = rows-are lines [] elements
