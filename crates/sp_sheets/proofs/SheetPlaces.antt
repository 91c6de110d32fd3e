-- The sheets of what is made of a state, by their places: they lie in the rows, and are those of the state.
use Rattle.std.proofs.Common.{◌≡◌, ℕ, ◌+◌, ◌-◌, ◌<◌, ◌≤◌, max, Option, Some, None, List, [], length, map, get_or, slice_get, sym, ap, subst, ◌∙◌, arith}
use Rattle.std.specs.Prelude.{All, IfSome, fold, slice_range, slice_index_or, option_map}
use Rattle.std.proofs.lemmas.List.{length-map}
use Rattle.spec_text.specs.Lines.{LineState, line_texts}
use Rattle.spec_pages.specs.Rows.{ElementOf}
use Rattle.spec_pages.specs.Pages.{text_heights, rows_on}
use Rattle.spec_pages.proofs.StartLists.{ArePagesOf, starts-are}
use Rattle.spec_labels.specs.Labels.{LabelOf}
use Rattle.spec_labels.specs.PageRecords.{SheetOf}
use Rattle.spec_sheets.specs.Cells.{RowShows}
use Rattle.spec_sheets.specs.Layout.{placed_in}
use Rattle.spec_sheets.specs.Shown.{Shown, shown_rows, shape_of}
use Rattle.spec_sheets.proofs.LayoutLaws.{layout_of-show}
use Rattle.spec_sheets.proofs.RowCounts.{layout_of-few}
use Rattle.spec_sheets.proofs.ShownLaws.{length-shown_rows, shown_rows-marks}
use Rattle.spec_sheets.specs.Sheets.{Sheet}
use Rattle.spec_state.specs.State.{State, text_of}
use Rattle.spec_state.specs.Headings.{heading_labels}
use Rattle.spec_state.specs.Keeping.{IsWhole}
use Rattle.spec_state.specs.StateSheets.{greatest_mark, title_sheet, layout_in, titles_in, title_starts, body_sheets, shown_sheet, sheets_of_state}
use Rattle.spec_state.proofs.SheetGets.{length-sheets, sheets-title, sheets-body}
use Rattle.sp_layout.specs.Bodies.{row_count, marks_in}
use Rattle.sp_layout.specs.LaidOut.{LayoutOf}
use Rattle.sp_sheets.specs.Made.{MadeOf, IsMadeOf}
use Rattle.sp_sheets.proofs.MadeSheets.{body-made, made-lie}
use Rattle.sp_sheets.specs.Places.{HasPlaces, title_at, sheet_shown}
use Rattle.sp_sheets.proofs.MarkedLaws.{greatest-marks}

-- The first rows of title sheets rise, and are rows of the title page.
pub titles-are : (state : State) → ArePagesOf (row_count (layout_in state).titles) (title_starts state)
titles-are state =
    let shapes = map shape_of (titles_in state) in
    let size = length-map (titles_in state) shape_of in
    let count = length-shown_rows state.lines None (layout_in state).titles in
    let are = starts-are (rows_on state.paper) (text_heights shapes) (length shapes) [] in
    record { rise = are.rise; inside = λ k d h. (let i = are.inside k d h in omega (arith, i, size, count)) }

-- ---- what is made of a state

titles-made : (state : State) (it : MadeOf) → IsMadeOf state it → it.layout.titles.elements ≡ (layout_in state).titles
titles-made state it made = ap (λ (l : LayoutOf). l.titles.elements) made.layout

pub made-places : (state : State) (it : MadeOf) → IsWhole state → IsMadeOf state it → HasPlaces state.lines it
made-places state it whole made =
    let show = layout_of-show state.speakers (text_of state) whole.text in
    let most = layout_of-few state.speakers (text_of state) whole.text in
    let few_titles : row_count (layout_in state).titles ≤ 16777216 = omega (arith, most) in
    let few_rows : row_count (layout_in state).body ≤ 16777216 = omega (arith, most) in
    let starts : ArePagesOf (row_count it.layout.titles.elements) it.numbered.title_starts =
    subst (ArePagesOf (row_count it.layout.titles.elements)) (sym made.numbered.title_starts) (subst (λ (elements : List ElementOf). ArePagesOf (row_count elements) (title_starts state)) (sym (titles-made state it made)) (titles-are state)) in
    record {
      rising = starts.rise;
      within = starts.inside;
      few_titles = subst (λ (elements : List ElementOf). row_count elements ≤ 16777216) (sym (titles-made state it made)) few_titles;
      titles_show = subst (λ (elements : List ElementOf). All (RowShows (line_texts state.lines)) (placed_in elements)) (sym (titles-made state it made)) show.0;
      few_rows = subst (λ (elements : List ElementOf). row_count elements ≤ 16777216) (sym (body-made state it made)) few_rows;
      body_show = subst (λ (elements : List ElementOf). All (RowShows (line_texts state.lines)) (placed_in elements)) (sym (body-made state it made)) show.1;
      sheets_lie = made-lie state it whole made;
    }

-- How many sheets it has.
pub made-count : (state : State) (it : MadeOf) → IsMadeOf state it → length (sheets_of_state state) ≡ length it.numbered.title_starts + length it.numbered.sheets
made-count state it made =
    let all = length-sheets state in
    let titles = ap length made.numbered.title_starts in
    let sheets = ap length made.numbered.sheets in
    omega (arith, all, titles, sheets)

-- The title sheet at a place of these rows.
abbrev rows_at : List Shown → List ℕ → ℕ → ℕ → Sheet
rows_at rows starts i count = title_sheet (slice_range rows (get_or starts i 0) (slice_index_or starts (i + 1) count))

pub made-title : (state : State) (it : MadeOf) (i : ℕ) → IsMadeOf state it → i < length it.numbered.title_starts
    → slice_get (sheets_of_state state) i ≡ Some (title_at state.lines it i)
made-title state it i made inside =
    let own = layout_in state in
    sheets-title state i (subst (λ (starts : List ℕ). i < length starts) made.numbered.title_starts inside)
    ∙ ap (λ n. Some (rows_at (titles_in state) (title_starts state) i n)) (length-shown_rows state.lines None own.titles)
    ∙ ap (λ (elements : List ElementOf). Some (rows_at (shown_rows state.lines None elements) (title_starts state) i (row_count elements))) (sym (titles-made state it made))
    ∙ ap (λ (starts : List ℕ). Some (rows_at (shown_rows state.lines None it.layout.titles.elements) starts i (row_count it.layout.titles.elements))) (sym made.numbered.title_starts)

-- The sheet at a place behind the title sheets.
pub made-body : (state : State) (it : MadeOf) (i : ℕ) → IsMadeOf state it → length it.numbered.title_starts ≤ i
    → slice_get (sheets_of_state state) i ≡ option_map (sheet_shown state.lines it) (slice_get it.numbered.sheets (i - length it.numbered.title_starts))
made-body state it i made behind =
    let own = layout_in state in
    sheets-body state i (subst (λ (starts : List ℕ). length starts ≤ i) made.numbered.title_starts behind)
    ∙ ap (λ (elements : List ElementOf). option_map (shown_sheet (shown_rows state.lines (heading_labels state.lines state.scenes) elements)) (slice_get (body_sheets state) (i - length (title_starts state)))) (sym (body-made state it made))
    ∙ ap (λ (labels : Option (List LabelOf)). option_map (shown_sheet (shown_rows state.lines labels it.layout.body.elements)) (slice_get (body_sheets state) (i - length (title_starts state)))) (sym made.numbered.labels)
    ∙ ap (λ (sheets : List SheetOf). option_map (shown_sheet (shown_rows state.lines it.numbered.labels it.layout.body.elements)) (slice_get sheets (i - length (title_starts state)))) (sym made.numbered.sheets)
    ∙ ap (λ (starts : List ℕ). option_map (shown_sheet (shown_rows state.lines it.numbered.labels it.layout.body.elements)) (slice_get it.numbered.sheets (i - length starts))) (sym made.numbered.title_starts)

-- The sheet that was found there, if any.
pub made-found : (state now : State) (it : MadeOf) (i place : ℕ) (found : Option Sheet) → state ≡ now → IsMadeOf state it → length it.numbered.title_starts ≤ i → i - length it.numbered.title_starts ≡ place
    → IfSome found (λ page. option_map (sheet_shown state.lines it) (slice_get it.numbered.sheets place) ≡ Some page) → IfSome found (λ page. slice_get (sheets_of_state now) i ≡ Some page)
made-found state now it i place None same made behind at is = tt
made-found state now it i place (Some page) same made behind at is =
    ap (λ (those : State). slice_get (sheets_of_state those) i) (sym same)
    ∙ made-body state it i made behind
    ∙ ap (λ n. option_map (sheet_shown state.lines it) (slice_get it.numbered.sheets n)) at
    ∙ is

-- ---- marks

-- The greatest mark of rows of elements.
pub marks-greatest : (lines : List LineState) (labels : Option (List LabelOf)) (elements : List ElementOf) (start end : ℕ)
    → fold max 0 (slice_range (marks_in elements) start end) ≡ greatest_mark (slice_range (shown_rows lines labels elements) start end)
marks-greatest lines labels elements start end =
    ap (λ (marks : List ℕ). fold max 0 (slice_range marks start end)) (sym (shown_rows-marks lines labels elements)) ∙ greatest-marks (shown_rows lines labels elements) start end
