-- Sheets by the marks of rows are those of the rows.
use Rattle.std.proofs.Common.{◌≡◌, ℕ, zero, suc, ◌+◌, ◌-◌, max, false, List, [], ◌∷◌, length, map, take, drop, get_or, refl, sym, ap, ap₂, ◌∙◌, subst, arith, All}
use Rattle.std.specs.Prelude.{fold, slice_range}
use Rattle.std.proofs.lemmas.List.{length-map}
use Rattle.std.proofs.lemmas.List.Elements.{All-map}
use Rattle.spec_pages.specs.Rows.{ElementOf}
use Rattle.spec_sheets.specs.Shown.{Shown}
use Rattle.spec_sheets.proofs.ShownLaws.{shown_rows-marks}
use Rattle.spec_labels.specs.Labels.{plain_label}
use Rattle.spec_labels.specs.PageRecords.{SheetOf}
use Rattle.spec_state.specs.State.{State}
use Rattle.spec_state.specs.Headings.{heading_labels}
use Rattle.spec_state.specs.StateSheets.{greatest_mark, layout_in, numbered_sheets, rows_in}
use Rattle.spec_state.specs.Keeping.{IsWhole}
use Rattle.spec_state.proofs.RowMarks.{rows-marks}
use Rattle.spec_state.proofs.StateLaws.{whole-kept}
use Rattle.sp_layout.specs.Bodies.{marks_in}
use Rattle.sp_sheets.specs.Numbered.{mark_of, marked_sheet, marked_sheets}

fold-marks : (mark : ℕ) (rows : List Shown) → fold max mark (map mark_of rows) ≡ fold (λ mark (it : Shown). max mark it.mark) mark rows
fold-marks mark [] = refl
fold-marks mark (row ∷ rows) = fold-marks (max mark row.mark) rows

take-marks : (n : ℕ) (rows : List Shown) → take n (map mark_of rows) ≡ map mark_of (take n rows)
take-marks zero rows = refl
take-marks (suc n) [] = refl
take-marks (suc n) (row ∷ rows) = ap (λ (marks : List ℕ). row.mark ∷ marks) (take-marks n rows)

drop-marks : (n : ℕ) (rows : List Shown) → drop n (map mark_of rows) ≡ map mark_of (drop n rows)
drop-marks zero rows = refl
drop-marks (suc n) [] = refl
drop-marks (suc n) (row ∷ rows) = drop-marks n rows

-- The greatest mark of so many rows from a place on.
pub greatest-marks : (rows : List Shown) (start end : ℕ) → fold max 0 (slice_range (map mark_of rows) start end) ≡ greatest_mark (slice_range rows start end)
greatest-marks rows start end =
    ap (λ (marks : List ℕ). fold max 0 (take (end - start) marks)) (drop-marks start rows)
    ∙ ap (fold max 0) (take-marks (end - start) (drop start rows))
    ∙ fold-marks 0 (take (end - start) (drop start rows))

abbrev with_round : ℕ → ℕ → ℕ → ℕ → SheetOf
with_round number start end round = record { first = plain_label number; last = plain_label number; start = start; end = end; round = round; omitted = false }

sheets-marked : (rows : List Shown) (count number : ℕ) (pages : List ℕ) → count ≡ length rows → length (map mark_of rows) ≡ count → marked_sheets (map mark_of rows) number pages ≡ numbered_sheets rows number pages
sheets-marked rows count number [] is size = refl
sheets-marked rows count number (page ∷ later) is size =
    let same : length (map mark_of rows) ≡ length rows = size ∙ is in
    ap₂ (λ (sheet : SheetOf) (sheets : List SheetOf). sheet ∷ sheets)
    (ap (λ n. marked_sheet (map mark_of rows) number page (get_or later 0 n)) same ∙ ap (with_round number page (get_or later 0 (length rows))) (greatest-marks rows page (get_or later 0 (length rows))))
    (sheets-marked rows count (number + 1) later is size)

pub marked_sheets-numbered : (rows : List Shown) (marks pages : List ℕ) → map mark_of rows ≡ marks → marked_sheets marks 1 pages ≡ numbered_sheets rows 1 pages
marked_sheets-numbered rows marks pages is = ap (λ those. marked_sheets those 1 pages) (sym is) ∙ sheets-marked rows (length rows) 1 pages refl (length-map rows mark_of)

-- In a state of round 0 no row is marked.
pub rows-unmarked : (state : State) (body : List ElementOf) → IsWhole state → body ≡ (layout_in state).body → state.round ≡ 0 → All (λ (mark : ℕ). mark ≡ 0) (marks_in body)
rows-unmarked state body whole is none =
    let low : All (λ (it : Shown). it.mark ≡ 0) (rows_in state) = λ k d inside. (let at = rows-marks state (whole-kept state whole) k d inside in omega (arith, at, none)) in
    let same : map mark_of (rows_in state) ≡ marks_in body = shown_rows-marks state.lines (heading_labels state.lines state.scenes) (layout_in state).body ∙ ap marks_in (sym is) in
    subst (All (λ (mark : ℕ). mark ≡ 0)) same (All-map (λ (mark : ℕ). mark ≡ 0) mark_of (rows_in state) low)
