-- Segments of page records, one behind the other.
use Rattle.std.proofs.Common.{◌≡◌, inl, inr, ℕ, zero, suc, ◌+◌, ◌<◌, ◌≤◌, ◌&&◌, Bool, true, false, cond, List, [], ◌∷◌, ◌++◌, length, map, drop, get_or, refl, ap, ap₂, subst, ◌∙◌, arith}
use Rattle.std.specs.Prelude.{All, AllPairs, nat_le, nat_lt, slice_index_or}
use Rattle.std.specs.List.{flat_map, prefix_len}
use Rattle.std.proofs.lemmas.Bool.{and_parts, le-ltb, leb-true, lt-ltb, ltb-true}
use Rattle.std.proofs.lemmas.List.{drop_more, get_or-drop}
use Rattle.std.proofs.lemmas.List.Elements.{All-cons, All-head, All-tail}
use Rattle.spec_text.proofs.ListLaws.{pairs-head, pairs-tail}
use Rattle.spec_labels.specs.PageRecords.{PageRecordOf, SegmentOf, SheetOf, AreStarts, first_label, is_empty, omitted_sheet, owner_of, page_sheets, segment_pages, segments, run_sheets, runs_of}
use Rattle.spec_labels.proofs.SheetLaws.{runs_of-all}
use Rattle.spec_packet.specs.SheetLists.{IsIn, InOrder}
use Rattle.spec_packet.proofs.Lists.{filter-in}
use Rattle.spec_packet.proofs.ChoiceLaws.{flat-in, in-flat}
use Rattle.spec_packet.proofs.FactLaws.{NotFalling, BeginsAtZero}
use Rattle.sp_locks.proofs.SheetRuns.{drop-segments}
use Rattle.sp_packet.specs.Runs.{starts_before}

-- A segment stands behind another.
pub record Follows (one other : SegmentOf) : Type 0 where
  pub behind : one.end ≤ other.start
  pub starts : one.start ≤ other.start
  pub ends : one.end ≤ other.end

record IsHigh (low : ℕ) (segment : SegmentOf) : Type 0 where
  start : low ≤ segment.start
  end : low ≤ segment.end

first-low : (low rows : ℕ) (starts : List ℕ) → All (λ (start : ℕ). low ≤ start) starts → low ≤ rows → low ≤ slice_index_or starts 0 rows
first-low low rows [] all upto = upto
first-low low rows (start ∷ starts) all upto = All-head (λ (it : ℕ). low ≤ it) start starts all

segments-high : (rows low : ℕ) (records : List PageRecordOf) (starts : List ℕ) → All (λ (start : ℕ). low ≤ start) starts → low ≤ rows → (segment : SegmentOf) → IsIn segment (segments rows records starts) → IsHigh low segment
segments-high rows low [] starts all upto segment is = absurd is
segments-high rows low (it ∷ records) [] all upto segment is = absurd is
segments-high rows low (it ∷ records) (start ∷ starts) all upto segment is = elim is [
  | inl same ↦ subst (IsHigh low) same (record { start = All-head (λ (one : ℕ). low ≤ one) start starts all; end = first-low low rows starts (All-tail (λ (one : ℕ). low ≤ one) start starts all) upto })
  | inr later ↦ segments-high rows low records starts (All-tail (λ (one : ℕ). low ≤ one) start starts all) upto segment later
]

segments-order : (rows : ℕ) (records : List PageRecordOf) (starts : List ℕ) → AllPairs (λ (one other : ℕ). one ≤ other) starts → All (λ (start : ℕ). start ≤ rows) starts → InOrder Follows (segments rows records starts)
segments-order rows [] starts order within = tt
segments-order rows (it ∷ records) [] order within = tt
segments-order rows (it ∷ records) (start ∷ []) order within = (λ other is. absurd (none records other is), last records)
  where
    none : (records : List PageRecordOf) (other : SegmentOf) → IsIn other (segments rows records []) → ⊥
    none [] other is = is
    none (it ∷ records) other is = is

    last : (records : List PageRecordOf) → InOrder Follows (segments rows records [])
    last [] = tt
    last (it ∷ records) = tt
segments-order rows (it ∷ records) (start ∷ next ∷ starts) order within =
    let rest = pairs-tail (λ (one other : ℕ). one ≤ other) start (next ∷ starts) order in
    let low = All-tail (λ (one : ℕ). one ≤ rows) start (next ∷ starts) within in
    let here : start ≤ next = All-head (λ (one : ℕ). start ≤ one) next starts (pairs-head (λ (one other : ℕ). one ≤ other) start (next ∷ starts) order) in
    let all = All-cons (λ (one : ℕ). next ≤ one) next starts (omega arith) (pairs-head (λ (one other : ℕ). one ≤ other) next starts rest) in (
      (λ other is. (let high = segments-high rows next records (next ∷ starts) all (All-head (λ (one : ℕ). one ≤ rows) next starts low) other is in let s = high.start in let e = high.end in record { behind = s; starts = omega (arith, here, s); ends = e })),
      segments-order rows records (next ∷ starts) rest low,
    )

not-falling : (all : List SegmentOf) → InOrder Follows all → InOrder NotFalling all
not-falling [] order = tt
not-falling (segment ∷ all) order = ((λ other is. (let follows = order.0 other is in record { starts = follows.starts; ends = follows.ends })), not-falling all order.1)

order-drop : (n : ℕ) (all : List SegmentOf) → InOrder Follows all → InOrder Follows (drop n all)
order-drop zero all order = order
order-drop (suc n) [] order = tt
order-drop (suc n) (segment ∷ all) order = order-drop n all order.1

module _ (rows : ℕ) (records : List PageRecordOf) (starts : List ℕ) (are : AreStarts rows records starts) where
  pub order : InOrder Follows (segments rows records starts)
  order = segments-order rows records starts are.order are.within

  pub in-order : InOrder NotFalling (segments rows records starts)
  in-order = not-falling (segments rows records starts) order

pub begins-at-zero : (rows : ℕ) (records : List PageRecordOf) (starts : List ℕ) → slice_index_or starts 0 0 ≡ 0 → BeginsAtZero (segments rows records starts)
begins-at-zero rows [] starts first = tt
begins-at-zero rows (it ∷ records) [] first = tt
begins-at-zero rows (it ∷ records) (start ∷ starts) first = first

-- ---- the segments from an index on

abbrev pub left_from : ℕ → List PageRecordOf → List ℕ → ℕ → List SegmentOf
left_from rows records starts index = segments rows (drop index records) (drop index starts)

abbrev no_record : PageRecordOf
no_record = record { label = record { number = 0; path = [] }; line = 0; row = 0; changed = 0 }

abbrev pub segment_from : ℕ → List PageRecordOf → List ℕ → ℕ → SegmentOf
segment_from rows records starts index = record {
  owner = get_or records index no_record;
  next = first_label (drop (index + 1) records);
  start = slice_index_or starts index 0;
  end = slice_index_or starts (index + 1) rows;
}

pub left-more : (rows : ℕ) (records : List PageRecordOf) (starts : List ℕ) (index : ℕ) → length starts ≡ length records → index < length records
    → left_from rows records starts index ≡ segment_from rows records starts index ∷ left_from rows records starts (index + 1)
left-more rows records starts index same inside =
    ap₂ (segments rows) (drop_more records index no_record inside) (drop_more starts index 0 (omega (arith, same, inside)))
    ∙ ap (λ end. record { owner = get_or records index no_record; next = first_label (drop (index + 1) records); start = slice_index_or starts index 0; end = end } ∷ left_from rows records starts (index + 1))
    (get_or-drop (index + 1) starts 0 rows ∙ ap (λ n. slice_index_or starts n rows) (let e : index + 1 + 0 ≡ index + 1 = omega arith in e))

-- ---- where the sheets of segments begin

pub pages-from : (segment : SegmentOf) (m : ℕ) (pages : List ℕ) (low : ℕ) → ((page : ℕ) → IsIn page pages → low ≤ page) → (sheet : SheetOf) → IsIn sheet (page_sheets segment m pages) → low ≤ sheet.start
pages-from segment m [] low all sheet is = absurd is
pages-from segment m (page ∷ pages) low all sheet is = elim is [
  | inl same ↦ subst (λ (it : SheetOf). low ≤ it.start) same (all page (inl refl))
  | inr later ↦ pages-from segment (m + 1) pages low (λ one there. all one (inr there)) sheet later
]

run-from : (pages : List ℕ) (run : List SegmentOf) (low : ℕ) → ((segment : SegmentOf) → IsIn segment run → low ≤ segment.start) → (sheet : SheetOf) → IsIn sheet (run_sheets pages run) → low ≤ sheet.start
run-from pages [] low all sheet is = absurd is
run-from pages (segment ∷ others) low all sheet is = by (is_empty segment) is
  where
    own : low ≤ segment.start
    own = all segment (inl refl)

    by : (b : Bool) → IsIn sheet (cond b (omitted_sheet segment.start segment.owner (map owner_of others) ∷ []) (page_sheets segment 0 (segment_pages segment pages))) → low ≤ sheet.start
    by true here = elim here [ inl same ↦ subst (λ (it : SheetOf). low ≤ it.start) same own | inr never ↦ absurd never ]
    by false here =
        pages-from segment 0 (segment_pages segment pages) low
        (λ page there.
        let passes = filter-in (λ p. nat_le segment.start p && nat_lt p segment.end) page pages there in
        let begun = leb-true segment.start page (and_parts (nat_le segment.start page) (nat_lt page segment.end) passes.passes).0 in
        omega (arith, own, begun))
        sheet here

sheets-from : (pages : List ℕ) (all : List SegmentOf) (low : ℕ) → ((segment : SegmentOf) → IsIn segment all → low ≤ segment.start) → (sheet : SheetOf) → IsIn sheet (flat_map (run_sheets pages) (runs_of all))
    → low ≤ sheet.start
sheets-from pages all low high sheet is =
    let run = flat-in (run_sheets pages) sheet (runs_of all) is in
    run-from pages run.it low (λ segment there. high segment (subst (IsIn segment) (runs_of-all all) (in-flat (λ (r : List SegmentOf). r) run.it segment (runs_of all) run.there there))) sheet run.here

-- The sheets that begin before a segment's end are those of its pages.
none-before : (end : ℕ) (later : List SheetOf) → ((sheet : SheetOf) → IsIn sheet later → end ≤ sheet.start) → prefix_len (starts_before end) later ≡ 0
none-before end [] high = refl
none-before end (sheet ∷ later) high = ap (λ b. cond b (1 + prefix_len (starts_before end) later) 0) (le-ltb sheet.start end (high sheet (inl refl)))

pub count-pages : (segment : SegmentOf) (m : ℕ) (pages : List ℕ) (end : ℕ) (later : List SheetOf) → ((page : ℕ) → IsIn page pages → page < end) → ((sheet : SheetOf) → IsIn sheet later → end ≤ sheet.start)
    → prefix_len (starts_before end) (page_sheets segment m pages ++ later) ≡ length pages
count-pages segment m [] end later low high = none-before end later high
count-pages segment m (page ∷ pages) end later low high =
    let ih = count-pages segment (m + 1) pages end later (λ one is. low one (inr is)) high in
    ap (λ b. cond b (1 + prefix_len (starts_before end) (page_sheets segment (m + 1) pages ++ later)) 0) (lt-ltb page end (low page (inl refl))) ∙ omega (arith, ih)

pub length-pages : (segment : SegmentOf) (m : ℕ) (pages : List ℕ) → length (page_sheets segment m pages) ≡ length pages
length-pages segment m [] = refl
length-pages segment m (page ∷ pages) = ap suc (length-pages segment (m + 1) pages)

-- A page of a segment is one of its rows.
pub page-within : (segment : SegmentOf) (pages : List ℕ) (page : ℕ) → IsIn page (segment_pages segment pages) → page < segment.end
page-within segment pages page is =
    let passes = filter-in (λ p. nat_le segment.start p && nat_lt p segment.end) page pages is in
    ltb-true page segment.end (and_parts (nat_le segment.start page) (nat_lt page segment.end) passes.passes).1

-- What stands behind the segment at an index.
pub record Behind (rows : ℕ) (records : List PageRecordOf) (starts pages : List ℕ) (index : ℕ) : Type 0 where
  pub within : (segment_from rows records starts index).end ≤ rows
  pub later : (sheet : SheetOf) → IsIn sheet (flat_map (run_sheets pages) (runs_of (left_from rows records starts (index + 1)))) → (segment_from rows records starts index).end ≤ sheet.start

pub behind : (rows : ℕ) (records : List PageRecordOf) (starts pages : List ℕ) (index : ℕ) → AreStarts rows records starts → index < length records → Behind rows records starts pages index
behind rows records starts pages index are inside =
    let own = segment_from rows records starts index in
    let more = left-more rows records starts index are.count inside in
    let ordered = subst (InOrder Follows) (drop-segments rows index records starts ∙ more) (order-drop index (segments rows records starts) (order rows records starts are)) in
    record {
      within = end-low (index + 1) starts are.within;
      later = sheets-from pages (left_from rows records starts (index + 1)) own.end (λ segment is. (ordered.0 segment is).behind);
    }
  where
    end-low : (k : ℕ) (those : List ℕ) → All (λ (start : ℕ). start ≤ rows) those → slice_index_or those k rows ≤ rows
    end-low k [] all = omega arith
    end-low zero (one ∷ those) all = All-head (λ (start : ℕ). start ≤ rows) one those all
    end-low (suc k) (one ∷ those) all = end-low k those (All-tail (λ (start : ℕ). start ≤ rows) one those all)
