-- Each row is on one sheet: the rows of the sheets follow one another from the first to the last.
use Rattle.std.proofs.Common.{◌≡◌, ℕ, ◌+◌, ◌<◌, ◌≤◌, ◌&&◌, ◌==◌, ◌||◌, Bool, true, false, cond, List, [], ◌∷◌, ◌++◌, length, map, ⊎_elim, eqb-true, le-leb, leb-true, lt-ltb, ltb-true, ltb-false, refl, ap, ap₂, sym, ◌∙◌, subst, arith}
use Rattle.std.specs.Prelude.{All, AllPairs, filter, flat_map, nat_le, nat_lt, slice_index_or}
use Rattle.std.specs.List.{list_all, list_any}
use Rattle.std.proofs.lemmas.Bool.{cases_Bool, and_parts}
use Rattle.std.proofs.lemmas.List.{get_or_default}
use Rattle.std.proofs.lemmas.List.Elements.{All-nil, All-cons, All-head, All-tail}
use Rattle.std.proofs.lemmas.List.Folds.{Any-from_list_any}
use Rattle.spec_text.proofs.ListLaws.{pairs-head, pairs-tail, All-front, All-back}
use Rattle.spec_labels.specs.PageRecords.{PageRecordOf, SegmentOf, first_label, segments, is_empty, owner_of, SheetOf, Covers, AreStarts, ArePages, segment_pages, page_sheets, omitted_sheet, runs_of, run_sheets, sheets_of_records}
use Rattle.spec_labels.proofs.RunLaws.{IsRun, runs_of-IsRun}
use Rattle.spec_labels.proofs.SheetLaws.{in_runs, runs_of-all}

-- Segments follow one another, from one row to another, and begin at pages.
abbrev Follow : ℕ → List SegmentOf → ℕ → Type 0
Follow at [] end = at ≡ end
Follow at (segment ∷ later) end = (segment.start ≡ at) × (segment.start ≤ segment.end) × Follow segment.end later end

-- Covering in two steps.
Covers-append : (at middle end : ℕ) (xs ys : List SheetOf) → Covers at xs middle → Covers middle ys end → Covers at (xs ++ ys) end
Covers-append at middle end [] ys first second = subst (λ n. Covers n ys end) (sym first) second
Covers-append at middle end (x ∷ xs) ys first second = (first.0, Covers-append x.end middle end xs ys first.1 second)

Follow-split : (at end : ℕ) (xs ys : List SegmentOf) → Follow at (xs ++ ys) end → (middle : ℕ) × Follow at xs middle × Follow middle ys end
Follow-split at end [] ys all = (at, refl, all)
Follow-split at end (x ∷ xs) ys all =
    let (middle, first, second) = Follow-split x.end end xs ys all.2 in
    (middle, (all.0, all.1, first), second)

-- Segments without rows lead nowhere.
empty-stays : (at middle : ℕ) (run : List SegmentOf) → list_all is_empty run ≡ true → Follow at run middle → middle ≡ at
empty-stays at middle [] empty all = sym all
empty-stays at middle (segment ∷ run) empty all =
    let (here, others) = and_parts (is_empty segment) (list_all is_empty run) empty in
    let low : segment.end ≤ segment.start = leb-true segment.end segment.start here in
    empty-stays segment.end middle run others all.2 ∙ omega (arith, low, all.1, all.0)

-- Sheets of pages cover from the first page to the end of the segment.
page_sheets-Cover : (segment : SegmentOf) (m page : ℕ) (later : List ℕ) → Covers page (page_sheets segment m (page ∷ later)) segment.end
page_sheets-Cover segment m page [] = (refl, refl)
page_sheets-Cover segment m page (next ∷ later) = (refl, page_sheets-Cover segment (m + 1) next later)

-- The first page of a segment with rows begins where the segment does.
first-page : (segment : SegmentOf) (pages : List ℕ) → segment.start < segment.end → AllPairs (λ one other. one < other) pages
    → list_any (λ page. page == segment.start) pages ≡ true → (later : List ℕ) × (segment_pages segment pages ≡ segment.start ∷ later)
first-page segment [] some rising there = cc
first-page segment (page ∷ pages) some rising there = ⊎_elim
    (λ same. let e : page ≡ segment.start = eqb-true page segment.start same in
    (filter test pages, ap₂ (λ b (ps : List ℕ). cond b ps (filter test pages)) (here e) (ap (λ p. p ∷ filter test pages) e)))
    (λ other.
    let behind : list_any (λ p. p == segment.start) pages ≡ true = sym (ap (λ b. b || list_any (λ p. p == segment.start) pages) other) ∙ there in
    let (later, is) = first-page segment pages some (pairs-tail (λ one other. one < other) page pages rising) behind in
    (later, ap (λ b. cond b (page ∷ filter test pages) (filter test pages)) (before behind) ∙ is))
    (cases_Bool (page == segment.start))
  where
    test : ℕ → Bool
    test p = nat_le segment.start p && nat_lt p segment.end

    here : page ≡ segment.start → test page ≡ true
    here e = ap₂ (λ a b. a && b) (le-leb segment.start page (omega (arith, e))) (lt-ltb page segment.end (omega (arith, e, some)))

    before : list_any (λ p. p == segment.start) pages ≡ true → test page ≡ false
    before behind =
        let (k, p, inside, at, is) = Any-from_list_any (λ q. q == segment.start) pages behind in
        let above : page < p = subst (λ n. page < n) at (pairs-head (λ one other. one < other) page pages rising k p inside) in
        let e : p ≡ segment.start = eqb-true p segment.start is in
        ap (λ b. b && nat_lt page segment.end) (not-le segment.start page (omega (arith, above, e)))
      where
        not-le : (a b : ℕ) → b < a → nat_le a b ≡ false
        not-le a b less = ⊎_elim (λ yes. absurd (omega (arith, less, leb-true a b yes))) (λ no_more. no_more) (cases_Bool (nat_le a b))

-- What a segment with rows asks of the pages.
abbrev Paged : List ℕ → SegmentOf → Type 0
Paged pages segment = segment.start < segment.end → list_any (λ page. page == segment.start) pages ≡ true

run_sheets-Cover : (pages : List ℕ) (run : List SegmentOf) (at middle : ℕ) → AllPairs (λ one other. one < other) pages → All (Paged pages) run → IsRun run → Follow at run middle
    → Covers at (run_sheets pages run) middle
run_sheets-Cover pages [] at middle rising paged is all = all
run_sheets-Cover pages (segment ∷ others) at middle rising paged is all = by (is_empty segment) refl
  where
    by : (b : Bool) → is_empty segment ≡ b → Covers at (cond b (omitted_sheet segment.start segment.owner (map owner_of others) ∷ []) (page_sheets segment 0 (segment_pages segment pages))) middle
    by true empty =
        let none : list_all is_empty (segment ∷ others) ≡ true = ⊎_elim (λ e. e) (λ one. alone others (omega (arith, one)) empty) is.kind in
        (all.0, all.0 ∙ sym (empty-stays at middle (segment ∷ others) none all))
      where
        alone : (ss : List SegmentOf) → length ss ≡ 0 → is_empty segment ≡ true → list_all is_empty (segment ∷ ss) ≡ true
        alone [] none e = ap (λ b. b && true) e
        alone (s ∷ ss) none e = absurd (omega (arith, none))
    by false full =
        let some : segment.start < segment.end = ⊎_elim
        (λ (yes : nat_le segment.end segment.start ≡ true). absurd (let no_more : true ≡ false = sym yes ∙ full in cc))
        (λ no_more. omega (arith, not-le segment.end segment.start full))
        (cases_Bool (nat_le segment.end segment.start)) in
        let (later, is-pages) = first-page segment pages some rising (All-head (Paged pages) segment others paged some) in
        let end : segment.end ≡ middle = only others all.2 (⊎_elim (λ e. absurd (let no_more : true ≡ false = sym (and_parts (is_empty segment) (list_all is_empty others) e).0 ∙ full in cc)) (λ one. omega (arith, one)) is.kind) in
        subst (λ n. Covers at (page_sheets segment 0 (segment_pages segment pages)) n) end
        (subst (λ (ps : List ℕ). Covers at (page_sheets segment 0 ps) segment.end) (sym is-pages)
        (subst (λ n. Covers n (page_sheets segment 0 (segment.start ∷ later)) segment.end) all.0 (page_sheets-Cover segment 0 segment.start later)))
      where
        not-le : (a b : ℕ) → nat_le a b ≡ false → b < a
        not-le a b h = ⊎_elim (λ (less : nat_lt b a ≡ true). lt b a less) (λ (past : nat_lt b a ≡ false). absurd (let no_more : true ≡ false = sym (le-leb a b (ge b a past)) ∙ h in cc)) (cases_Bool (nat_lt b a))
          where
            lt : (x y : ℕ) → nat_lt x y ≡ true → x < y
            lt x y e = ltb-true x y e

            ge : (x y : ℕ) → nat_lt x y ≡ false → y ≤ x
            ge x y e = ltb-false x y e

        only : (ss : List SegmentOf) → Follow segment.end ss middle → length ss ≡ 0 → segment.end ≡ middle
        only [] follow none = follow
        only (s ∷ ss) follow none = absurd (omega (arith, none))

runs-Cover : (pages : List ℕ) (runs : List (List SegmentOf)) (at end : ℕ) → AllPairs (λ one other. one < other) pages → All (Paged pages) (in_runs runs) → All IsRun runs → Follow at (in_runs runs) end
    → Covers at (flat_map (run_sheets pages) runs) end
runs-Cover pages [] at end rising paged are all = all
runs-Cover pages (run ∷ runs) at end rising paged are all =
    let (middle, first, second) = Follow-split at end run (in_runs runs) all in
    Covers-append at middle end (run_sheets pages run) (flat_map (run_sheets pages) runs)
    (run_sheets-Cover pages run at middle rising (All-front (Paged pages) run (in_runs runs) paged) (All-head IsRun run runs are) first)
    (runs-Cover pages runs middle end rising (All-back (Paged pages) run (in_runs runs) paged) (All-tail IsRun run runs are) second)

-- Segments of records follow one another to the end of the rows.
segments-Follow : (rows : ℕ) (records : List PageRecordOf) (starts : List ℕ) → length starts ≡ length records → AllPairs (λ one other. one ≤ other) starts → All (λ start. start ≤ rows) starts
    → Follow (slice_index_or starts 0 rows) (segments rows records starts) rows
segments-Follow rows [] [] same order within = refl
segments-Follow rows [] (start ∷ starts) same order within = absurd (omega (arith, same))
segments-Follow rows (it ∷ records) [] same order within = absurd (omega (arith, same))
segments-Follow rows (it ∷ records) (start ∷ starts) same order within = (
  refl,
  next starts (pairs-head (λ one other. one ≤ other) start starts order),
  segments-Follow rows records starts (omega (arith, same)) (pairs-tail (λ one other. one ≤ other) start starts order) (All-tail (λ s. s ≤ rows) start starts within),
)
  where
    next : (ss : List ℕ) → All (λ s. start ≤ s) ss → start ≤ slice_index_or ss 0 rows
    next [] each = All-head (λ s. s ≤ rows) start starts within
    next (s ∷ ss) each = All-head (λ x. start ≤ x) s ss each

segments-Paged : (rows : ℕ) (records : List PageRecordOf) (starts pages : List ℕ) → All (λ start. start ≤ rows) starts
    → All (λ start. start < rows → list_any (λ page. page == start) pages ≡ true) starts → All (Paged pages) (segments rows records starts)
segments-Paged rows [] starts pages within paged = All-nil (Paged pages)
segments-Paged rows (it ∷ records) [] pages within paged = All-nil (Paged pages)
segments-Paged rows (it ∷ records) (start ∷ starts) pages within paged =
    All-cons (Paged pages) (record { owner = it; next = first_label records; start = start; end = slice_index_or starts 0 rows }) (segments rows records starts)
    (λ some. All-head (λ s. s < rows → list_any (λ page. page == s) pages ≡ true) start starts paged (omega (arith, some, next starts (All-tail (λ s. s ≤ rows) start starts within))))
    (segments-Paged rows records starts pages (All-tail (λ s. s ≤ rows) start starts within)
    (All-tail (λ s. s < rows → list_any (λ page. page == s) pages ≡ true) start starts paged))
  where
    next : (ss : List ℕ) → All (λ s. s ≤ rows) ss → slice_index_or ss 0 rows ≤ rows
    next [] each = omega arith
    next (s ∷ ss) each = All-head (λ x. x ≤ rows) s ss each

-- The sheets of records cover all rows.
pub sheets-Cover : (rows : ℕ) (records : List PageRecordOf) (starts pages : List ℕ) → 0 < length records → AreStarts rows records starts → ArePages rows starts pages
    → Covers 0 (sheets_of_records rows records starts pages) rows
sheets-Cover rows records starts pages some are paged =
    let all = segments rows records starts in
    let first : slice_index_or starts 0 rows ≡ 0 = get_or_default starts 0 rows 0 (omega (arith, some, are.count)) ∙ are.first in
    let follow : Follow 0 all rows = subst (λ n. Follow n all rows) first (segments-Follow rows records starts are.count are.order are.within) in
    runs-Cover pages (runs_of all) 0 rows paged.rising
    (subst (All (Paged pages)) (sym (runs_of-all all)) (segments-Paged rows records starts pages are.within paged.at_starts))
    (runs_of-IsRun all)
    (subst (λ (ss : List SegmentOf). Follow 0 ss rows) (sym (runs_of-all all)) follow)
