-- The rows of sheets lie in the text, and only omitted sheets have none.
use Rattle.std.proofs.Common.{ℕ, ◌+◌, ◌<◌, ◌≤◌, ◌&&◌, Bool, true, false, cond, List, [], ◌∷◌, map, get_or, ltb-true, sym, subst, arith}
use Rattle.std.specs.Prelude.{All, AllPairs, filter, flat_map, nat_le, nat_lt, slice_index_or}
use Rattle.std.proofs.lemmas.Bool.{and_parts}
use Rattle.std.proofs.lemmas.List.Elements.{All-nil, All-cons, All-head, All-tail, All-append, filter_passes}
use Rattle.std.proofs.lemmas.List.Kept.{AllPairs-filter}
use Rattle.spec_text.proofs.ListLaws.{pairs-head, pairs-tail, All-front, All-back}
use Rattle.spec_labels.specs.PageRecords.{PageRecordOf, SegmentOf, first_label, segments, is_empty, owner_of, LiesWithin, AreStarts, ArePages, segment_pages, page_sheet, page_sheets, omitted_sheet, runs_of, run_sheets, sheets_of_records}
use Rattle.spec_labels.proofs.SheetLaws.{in_runs, runs_of-all}

-- A segment that lies in the rows.
pub record Inside (rows : ℕ) (segment : SegmentOf) : Type 0 where
  pub start : segment.start ≤ rows
  pub end : segment.end ≤ rows

segments-Inside : (rows : ℕ) (records : List PageRecordOf) (starts : List ℕ) → All (λ start. start ≤ rows) starts → All (Inside rows) (segments rows records starts)
segments-Inside rows [] starts all = All-nil (Inside rows)
segments-Inside rows (it ∷ records) [] all = All-nil (Inside rows)
segments-Inside rows (it ∷ records) (start ∷ starts) all =
    let later = All-tail (λ s. s ≤ rows) start starts all in
    All-cons (Inside rows) (record { owner = it; next = first_label records; start = start; end = slice_index_or starts 0 rows }) (segments rows records starts)
    (record { start = All-head (λ s. s ≤ rows) start starts all; end = next starts later })
    (segments-Inside rows records starts later)
  where
    next : (ss : List ℕ) → All (λ s. s ≤ rows) ss → slice_index_or ss 0 rows ≤ rows
    next [] each = omega arith
    next (s ∷ ss) each = All-head (λ x. x ≤ rows) s ss each

page_sheets-Lie : (rows : ℕ) (segment : SegmentOf) (m : ℕ) (pages : List ℕ) → segment.end ≤ rows → All (λ page. page < segment.end) pages → AllPairs (λ one other. one < other) pages
    → All (LiesWithin rows) (page_sheets segment m pages)
page_sheets-Lie rows segment m [] low all rising = All-nil (LiesWithin rows)
page_sheets-Lie rows segment m (page ∷ later) low all rising =
    All-cons (LiesWithin rows) (page_sheet segment m page later) (page_sheets segment (m + 1) later)
    (by later (All-tail (λ p. p < segment.end) page later all) (pairs-head (λ one other. one < other) page later rising))
    (page_sheets-Lie rows segment (m + 1) later low (All-tail (λ p. p < segment.end) page later all) (pairs-tail (λ one other. one < other) page later rising))
  where
    here : page < segment.end
    here = All-head (λ p. p < segment.end) page later all

    by : (ps : List ℕ) → All (λ p. p < segment.end) ps → All (λ p. page < p) ps → LiesWithin rows (page_sheet segment m page ps)
    by [] each above = record { order = omega (arith, here); within = low; some = λ shown. here }
    by (p ∷ ps) each above =
        let less : page < p = All-head (λ q. page < q) p ps above in
        let end : p < segment.end = All-head (λ q. q < segment.end) p ps each in
        record { order = omega (arith, less); within = omega (arith, end, low); some = λ shown. less }

run_sheets-Lie : (rows : ℕ) (pages : List ℕ) (run : List SegmentOf) → AllPairs (λ one other. one < other) pages → All (Inside rows) run → All (LiesWithin rows) (run_sheets pages run)
run_sheets-Lie rows pages [] rising all = All-nil (LiesWithin rows)
run_sheets-Lie rows pages (segment ∷ others) rising all = by (is_empty segment)
  where
    here : Inside rows segment
    here = All-head (Inside rows) segment others all

    test : ℕ → Bool
    test page = nat_le segment.start page && nat_lt page segment.end

    by : (b : Bool) → All (LiesWithin rows) (cond b (omitted_sheet segment.start segment.owner (map owner_of others) ∷ []) (page_sheets segment 0 (segment_pages segment pages)))
    by true =
        All-cons (LiesWithin rows) (omitted_sheet segment.start segment.owner (map owner_of others)) []
        (record { order = omega arith; within = here.start; some = λ shown. cc })
        (All-nil (LiesWithin rows))
    by false = page_sheets-Lie rows segment 0 (segment_pages segment pages) here.end
        (λ k d within. let p = get_or (filter test pages) k d in
        ltb-true p segment.end (and_parts (nat_le segment.start p) (nat_lt p segment.end) (filter_passes test pages k d within)).1)
        (AllPairs-filter (λ one other. one < other) test pages rising)

runs-Lie : (rows : ℕ) (pages : List ℕ) (runs : List (List SegmentOf)) → AllPairs (λ one other. one < other) pages → All (Inside rows) (in_runs runs) → All (LiesWithin rows) (flat_map (run_sheets pages) runs)
runs-Lie rows pages [] rising all = All-nil (LiesWithin rows)
runs-Lie rows pages (run ∷ runs) rising all =
    All-append (LiesWithin rows) (run_sheets pages run) (flat_map (run_sheets pages) runs)
    (run_sheets-Lie rows pages run rising (All-front (Inside rows) run (in_runs runs) all))
    (runs-Lie rows pages runs rising (All-back (Inside rows) run (in_runs runs) all))

-- The rows of the sheets of records lie in the text.
pub sheets-Lie : (rows : ℕ) (records : List PageRecordOf) (starts pages : List ℕ) → AreStarts rows records starts → ArePages rows starts pages
    → All (LiesWithin rows) (sheets_of_records rows records starts pages)
sheets-Lie rows records starts pages are paged =
    let all = segments rows records starts in
    runs-Lie rows pages (runs_of all) paged.rising (subst (All (Inside rows)) (sym (runs_of-all all)) (segments-Inside rows records starts are.within))
