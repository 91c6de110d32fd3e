use Rattle.std.proofs.Common.{◌≡◌, ℕ, ◌+◌, ◌∙◌, List, max, ap}
use Rattle.std.specs.Prelude.{None, fold, slice_index, slice_index_or, slice_range}
use Rattle.spec_sheets.specs.Shown.{shown_rows}
use Rattle.spec_sheets.specs.PageRows.{page_body}
use Rattle.spec_sheets.specs.Sheets.{Sheet}
use Rattle.spec_state.specs.StateSheets.{greatest_mark, title_sheet}
use Rattle.sp_sheets.proofs.SheetPlaces.{marks-greatest}
use Rattle.sp_sheets.proofs.views.title_view.Goals as goal

pub returns : goal.returns
returns c =
    let lines = c.args.lines.now.lines in
    let elements = c.args.titles.now.elements in
    let rows = shown_rows lines None elements in
    let from = slice_index c.args.starts.now c.args.place in
    let to = c.page_behind-to.result in
    let end = c.page_behind-to.ensures.value ∙ ap (λ n. slice_index_or c.args.starts.now (c.args.place + 1) n) c.rows.ensures in
    let round : c.greatest-round.result ≡ greatest_mark (slice_range rows from to) =
    c.greatest-round.ensures ∙ ap (λ (marks : List ℕ). fold max 0 (slice_range marks from to)) c.marks.ensures ∙ marks-greatest lines None elements from to in
    let sheet : ℕ → Sheet = λ n. record { label = None; round = n; rows = page_body n (slice_range rows from to) } in
    c.rows_view.ensures
    ∙ ap sheet round
    ∙ ap (λ n. title_sheet (slice_range rows from n)) end
