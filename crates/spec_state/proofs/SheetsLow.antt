-- No sheet of a state is higher than its paper, and title sheets end as late as their height allows.
use Rattle.std.proofs.Common.{◌≡◌, ℕ, ◌+◌, ◌<◌, ◌≤◌, Bool, true, false, cond, Option, Some, None, List, [], ◌∷◌, ◌++◌, map, length, get_or, inl, inr, refl, sym, ap, subst, ◌∙◌, arith, append_assoc}
use Rattle.std.specs.Prelude.{All, filter, slice_range, slice_index_or}
use Rattle.std.proofs.lemmas.Bool.{cases_eq}
use Rattle.std.proofs.lemmas.List.{length-map}
use Rattle.std.proofs.lemmas.List.Elements.{All-nil, All-cons, All-head, All-tail, All-append, All-map}
use Rattle.spec_text.specs.Lines.{IsText}
use Rattle.spec_pages.specs.declared.Paper.{Paper}
use Rattle.spec_pages.specs.declared.Paper.TheVariants.{Letter, A4}
use Rattle.spec_pages.specs.declared.Shape.{Shape}
use Rattle.spec_pages.specs.Pages.{height_of, text_heights, stop_above, next_page, page_starts, rows_on}
use Rattle.spec_pages.specs.OwnPages.{lies_in, AreJoined}
use Rattle.spec_pages.proofs.CellLaws.{All-flat_map}
use Rattle.spec_pages.proofs.PageLaws.{height_of-rises, page_end-IsPageEnd, stop_above-above}
use Rattle.spec_pages.proofs.StartLists.{AreAbove, ArePagesOf, starts-are, one-page-ends}
use Rattle.spec_pages.proofs.TitleEnds.{AreTitleShapes, EndsLate, title-ends-late}
use Rattle.spec_labels.specs.PageRecords.{PageRecordOf, SegmentOf, SheetOf, segments, is_empty, owner_of, omitted_sheet, page_sheets, segment_pages, runs_of, run_sheets, record_starts, sheets_of_records}
use Rattle.spec_sheets.specs.Shown.{Shown, shape_of}
use Rattle.spec_sheets.proofs.ShownLaws.{shown_rows-shapes}
use Rattle.spec_sheets.proofs.TitleRows.{layout_of-title_shapes}
use Rattle.spec_sheets.specs.PageRows.{page_body, omitted_rows}
use Rattle.spec_sheets.specs.Sheets.{Sheet}
use Rattle.spec_sheets.proofs.PageHeights.{page_body-height}
use Rattle.spec_state.specs.State.{State, text_of}
use Rattle.spec_state.specs.StateSheets.{greatest_mark, title_sheet, title_sheets, layout_in, rows_in, keys_in, titles_in, title_starts, numbered_sheets, locked_starts, pages_in, sheets_in, body_sheets, sheet_rows, shown_sheet, sheets_of_state}
use Rattle.spec_state.specs.Keeping.{IsWhole}
use Rattle.spec_state.proofs.SheetHeights.{state-joined, titles-joined, slice-height}
use Rattle.spec_state.proofs.StateLaws.{state-Cover}
use Rattle.spec_state.proofs.OnePages.{one-page}
use Rattle.spec_state.proofs.OpenSheets.{AreOpen}
use Rattle.spec_state.proofs.PageSheets.{lies-some, pages-open}
use Rattle.spec_state.proofs.OpeningLaw.{numbered-Locking}

-- ---- the height of one page

room : (paper : Paper) → 3 ≤ rows_on paper
room Letter = omega arith
room A4 = omega arith

-- A page that fits up to where the next one begins fits up to every row before.
page-low : (limit : ℕ) → 3 ≤ limit → (shapes : List Shape) (stops : List ℕ) (p q : ℕ) → p < length shapes → p < q → q ≤ next_page limit shapes stops p → height_of shapes p q ≤ limit
page-low limit most shapes stops p q inside some within =
    let end = page_end-IsPageEnd limit most shapes p (stop_above shapes stops p) (stop_above-above shapes stops p inside) in
    let fits = end.fits in
    let low = fits.low in
    elim (cases_eq q (next_page limit shapes stops p)) [
      | inl same ↦ subst (λ n. height_of shapes p n ≤ limit) (sym same) low
      | inr differ ↦
          let rises = height_of-rises shapes p q (next_page limit shapes stops p) some (omega (arith, within, differ)) in
          omega (arith, low, rises)
    ]

-- A page begins at the first of its rows, and no other one begins in them.
abbrev IsOne : List ℕ → ℕ → ℕ → Type 0
IsOne pages start end = filter (lies_in start end) pages ≡ start ∷ []

-- The rows of such a page.
body-low : (paper : Paper) (round : ℕ) (rows : List Shown) (stops : List ℕ) (p q : ℕ) → AreJoined (map shape_of rows) → q ≤ length rows → IsOne (page_starts (rows_on paper) (map shape_of rows) stops) p q
    → length (page_body round (slice_range rows p q)) ≤ rows_on paper
body-low paper round rows stops p q joined within one =
    let shapes = map shape_of rows in
    let limit = rows_on paper in
    let size = length-map rows shape_of in
    let some = lies-some p q (page_starts limit shapes stops) one in
    let ends = one-page-ends limit (text_heights shapes) (length shapes) stops p q one (omega (arith, some, within, size)) (omega (arith, within, size)) in
    let low = page-low limit (room paper) shapes stops p q (omega (arith, some, within, size)) some ends in
    let made = page_body-height round (slice_range rows p q) ∙ slice-height rows p q joined some within in
    omega (arith, made, low)

-- ---- the sheets of a body

record IsOnePage (pages : List ℕ) (rows : ℕ) (sheet : SheetOf) : Type 0 where
  within : sheet.end ≤ rows
  one : sheet.omitted ≡ false → IsOne pages sheet.start sheet.end

abbrev ShowsOne : List ℕ → SheetOf → Type 0
ShowsOne pages sheet = sheet.omitted ≡ false → IsOne pages sheet.start sheet.end

all-open : (pages : List ℕ) (end : ℕ) (sheets : List SheetOf) → AreOpen pages end sheets → All (ShowsOne pages) sheets
all-open pages end [] are = All-nil (ShowsOne pages)
all-open pages end (sheet ∷ sheets) are = All-cons (ShowsOne pages) sheet sheets (λ h. (are.0).one) (all-open pages end sheets are.1)

run-one : (pages : List ℕ) (run : List SegmentOf) → AreAbove pages → All (ShowsOne pages) (run_sheets pages run)
run-one pages [] rising = All-nil (ShowsOne pages)
run-one pages (segment ∷ others) rising = by (is_empty segment) (segment_pages segment pages) refl
  where
    by : (b : Bool) (own : List ℕ) → segment_pages segment pages ≡ own → All (ShowsOne pages) (cond b (omitted_sheet segment.start segment.owner (map owner_of others) ∷ []) (page_sheets segment 0 own))
    by true own is = All-cons (ShowsOne pages) (omitted_sheet segment.start segment.owner (map owner_of others)) [] (λ h. absurd (let bad : ⊥ = cc in bad)) (All-nil (ShowsOne pages))
    by false [] is = All-nil (ShowsOne pages)
    by false (p ∷ later) is = all-open pages segment.end (page_sheets segment 0 (p ∷ later)) (pages-open segment pages [] p later 0 rising is)

records-one : (rows : ℕ) (records : List PageRecordOf) (starts pages : List ℕ) → AreAbove pages → All (ShowsOne pages) (sheets_of_records rows records starts pages)
records-one rows records starts pages rising = All-flat_map (ShowsOne pages) (run_sheets pages) (runs_of (segments rows records starts)) (λ k d h. run-one pages (get_or (runs_of (segments rows records starts)) k d) rising)

numbered-ends : (rows : List Shown) (number : ℕ) (pages : List ℕ) → All (λ page. page < length rows) pages → All (λ (s : SheetOf). s.end ≤ length rows) (numbered_sheets rows number pages)
numbered-ends rows number [] inside = All-nil (λ (s : SheetOf). s.end ≤ length rows)
numbered-ends rows number (page ∷ later) inside =
    let rest = All-tail (λ p. p < length rows) page later inside in
    All-cons (λ (s : SheetOf). s.end ≤ length rows) _ (numbered_sheets rows (number + 1) later) (end later rest) (numbered-ends rows (number + 1) later rest)
  where
    end : (ps : List ℕ) → All (λ p. p < length rows) ps → slice_index_or ps 0 (length rows) ≤ length rows
    end [] all = omega arith
    end (p ∷ ps) all = let h = All-head (λ p. p < length rows) p ps all in omega (arith, h)

body-pages : (state : State) (records : Option (List PageRecordOf)) → ArePagesOf (length (rows_in state)) (pages_in (rows_on state.paper) state.lines (rows_in state) (layout_in state).breaks records)
body-pages state records =
    let rows = rows_in state in
    subst (λ n. ArePagesOf n (pages_in (rows_on state.paper) state.lines rows (layout_in state).breaks records)) (length-map rows shape_of)
    (starts-are (rows_on state.paper) (text_heights (map shape_of rows)) (length (map shape_of rows)) ((layout_in state).breaks ++ locked_starts state.lines rows records))

body-one : (state : State) → IsWhole state → All (IsOnePage (pages_in (rows_on state.paper) state.lines (rows_in state) (layout_in state).breaks state.pages) (length (rows_in state))) (body_sheets state)
body-one state whole = by state.pages refl
  where
    rows : List Shown
    rows = rows_in state

    breaks : List ℕ
    breaks = (layout_in state).breaks

    limit : ℕ
    limit = rows_on state.paper

    by : (records : Option (List PageRecordOf)) → state.pages ≡ records → All (IsOnePage (pages_in limit state.lines rows breaks records) (length rows)) (sheets_in limit state.lines rows breaks records)
    by None is =
        let pages = pages_in limit state.lines rows breaks None in
        let are = body-pages state None in
        let ones = all-open pages (length rows) (numbered_sheets rows 1 pages) (numbered-Locking rows 1 pages are).alone in
        let ends = numbered-ends rows 1 pages are.inside in
        λ k d h. record { within = ends k d h; one = ones k d h }
    by (Some records) is =
        let pages = pages_in limit state.lines rows breaks (Some records) in
        let ones = records-one (length rows) records (record_starts state.lines (keys_in state) records) pages (body-pages state (Some records)).rise in
        let lie = (state-Cover state records whole is).1 in
        λ k d h. record { within = (lie k d h).within; one = ones k d h }

sheet-low : (state : State) → IsWhole state → (sheet : SheetOf) → IsOnePage (pages_in (rows_on state.paper) state.lines (rows_in state) (layout_in state).breaks state.pages) (length (rows_in state)) sheet
    → length (sheet_rows (rows_in state) sheet) ≤ rows_on state.paper
sheet-low state whole sheet is = by sheet.omitted is.one
  where
    by : (b : Bool) → (b ≡ false → IsOne (pages_in (rows_on state.paper) state.lines (rows_in state) (layout_in state).breaks state.pages) sheet.start sheet.end)
        → length (cond b omitted_rows (page_body sheet.round (slice_range (rows_in state) sheet.start sheet.end))) ≤ rows_on state.paper
    by true one = let most = room state.paper in omega (arith, most)
    by false one = body-low state.paper sheet.round (rows_in state) ((layout_in state).breaks ++ locked_starts state.lines (rows_in state) state.pages) sheet.start sheet.end (state-joined state whole.text) is.within (one refl)

-- ---- title sheets

abbrev IsLow : Paper → Sheet → Type 0
IsLow paper sheet = length sheet.rows ≤ rows_on paper

titles-low : (paper : Paper) (titles : List Shown) (front starts : List ℕ) → AreJoined (map shape_of titles) → ArePagesOf (length titles) (page_starts (rows_on paper) (map shape_of titles) [])
    → page_starts (rows_on paper) (map shape_of titles) [] ≡ front ++ starts → All (IsLow paper) (title_sheets titles starts)
titles-low paper titles front [] joined are is = All-nil (IsLow paper)
titles-low paper titles front (p ∷ later) joined are is =
    let end = slice_index_or later 0 (length titles) in
    let own = slice_range titles p end in
    let one = ap (filter (lies_in p end)) is ∙ one-page front p later (length titles) (subst AreAbove is are.rise) (subst (All (λ page. page < length titles)) is are.inside) in
    All-cons (IsLow paper) (title_sheet own) (title_sheets titles later) (body-low paper (greatest_mark own) titles [] p end joined (within front later (subst (All (λ page. page < length titles)) is are.inside)) one)
    (titles-low paper titles (front ++ (p ∷ [])) later joined are (is ∙ sym (append_assoc front (p ∷ []) later)))
  where
    within : (f l : List ℕ) → All (λ page. page < length titles) (f ++ (p ∷ l)) → slice_index_or l 0 (length titles) ≤ length titles
    within (q ∷ f) l all = within f l (All-tail (λ page. page < length titles) q (f ++ (p ∷ l)) all)
    within [] [] all = omega arith
    within [] (q ∷ l) all = let h = All-head (λ page. page < length titles) q l (All-tail (λ page. page < length titles) p (q ∷ l) all) in omega (arith, h)

-- No sheet has more rows below its header than its paper holds.
pub sheets-low : (state : State) → IsWhole state → All (λ (sheet : Sheet). length sheet.rows ≤ rows_on state.paper) (sheets_of_state state)
sheets-low state whole =
    let titles = titles_in state in
    let paged : ArePagesOf (length titles) (title_starts state) =
    subst (λ n. ArePagesOf n (title_starts state)) (length-map titles shape_of) (starts-are (rows_on state.paper) (text_heights (map shape_of titles)) (length (map shape_of titles)) []) in
    All-append (IsLow state.paper) (title_sheets titles (title_starts state)) (map (shown_sheet (rows_in state)) (body_sheets state))
    (titles-low state.paper titles [] (title_starts state) (titles-joined state whole.text) paged refl)
    (All-map (IsLow state.paper) (shown_sheet (rows_in state)) (body_sheets state) (λ k d h. sheet-low state whole (get_or (body_sheets state) k d) (body-one state whole k d h)))

-- ---- title sheets end late

-- Each title sheet ends at the latest place where it isn't too high.
pub titles-late : (state : State) → IsText (text_of state) → (p : ℕ) → p < length (titles_in state)
    → EndsLate (rows_on state.paper) (map shape_of (titles_in state)) p (next_page (rows_on state.paper) (map shape_of (titles_in state)) [] p)
titles-late state is p inside =
    let shapes = map shape_of (titles_in state) in
    let size = length-map (titles_in state) shape_of in
    title-ends-late (rows_on state.paper) (room state.paper) shapes p titled (omega (arith, inside, size))
  where
    titled : AreTitleShapes (map shape_of (titles_in state))
    titled = subst AreTitleShapes (sym (shown_rows-shapes state.lines None (layout_in state).titles)) (layout_of-title_shapes state.speakers (text_of state) is)
