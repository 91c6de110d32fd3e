-- The rows of a page, by the elements that it has.
use Rattle.std.proofs.Common.{◌≡◌, ℕ, ◌+◌, ◌<◌, Option, List, ◌++◌, sym, ap, ap₂, subst, ◌∙◌, arith}
use Rattle.std.specs.Prelude.{All, slice_range}
use Rattle.spec_text.specs.Lines.{LineState}
use Rattle.spec_pages.specs.Rows.{Row, ElementOf}
use Rattle.spec_text.proofs.ListLaws.{All-front, All-back}
use Rattle.spec_labels.specs.Labels.{LabelOf}
use Rattle.spec_sheets.specs.Cells.{RowShows}
use Rattle.spec_sheets.specs.Layout.{placed_in}
use Rattle.spec_sheets.specs.Shown.{shown_rows, labels_past}
use Rattle.spec_sheets.proofs.ShownLaws.{shown_rows-slice}
use Rattle.sp_layout.specs.Bodies.{IsPageOf, PageOf, row_count}
use Rattle.sp_layout.proofs.BodyLaws.{placed_in-append}

-- They show parts of the lines, as all rows do.
pub page-show : (texts : List (List ℕ)) (elements : List ElementOf) (from to : ℕ) (page : PageOf) → IsPageOf elements from to page → All (RowShows texts) (placed_in elements) → All (RowShows texts) (placed_in page.elements)
page-show texts elements from to page is all =
    let split : placed_in elements ≡ placed_in is.front ++ (placed_in page.elements ++ placed_in is.back) =
    ap placed_in is.split ∙ placed_in-append is.front (page.elements ++ is.back) ∙ ap (λ (rows : List Row). placed_in is.front ++ rows) (placed_in-append page.elements is.back) in
    All-front (RowShows texts) (placed_in page.elements) (placed_in is.back)
    (All-back (RowShows texts) (placed_in is.front) (placed_in page.elements ++ placed_in is.back) (subst (All (RowShows texts)) split all))

-- They are those rows of all elements, with the labels behind those of the headings before the page's elements.
pub page-rows : (lines : List LineState) (labels : Option (List LabelOf)) (elements : List ElementOf) (from to : ℕ) (page : PageOf) → from < to → IsPageOf elements from to page
    → slice_range (shown_rows lines (labels_past page.headings labels) page.elements) page.from page.to ≡ slice_range (shown_rows lines labels elements) from to
page-rows lines labels elements from to page order is =
    let starts = is.starts in
    let ends = is.ends in
    ap (λ n. slice_range (shown_rows lines (labels_past n labels) page.elements) page.from page.to) is.headings
    ∙ sym (shown_rows-slice lines labels is.front page.elements is.back page.from page.to (omega (arith, order, starts, ends)) is.within)
    ∙ ap (λ (those : List ElementOf). slice_range (shown_rows lines labels those) (row_count is.front + page.from) (row_count is.front + page.to)) (sym is.split)
    ∙ ap₂ (slice_range (shown_rows lines labels elements)) (sym starts) (sym ends)
