-- The pages and the sheets of what is made of a state, by its body.
use Rattle.std.proofs.Common.{◌≡◌, ℕ, List, [], ◌++◌, length, map, Option, Some, None, Result, Ok, Err, refl, sym, ap, subst, ◌∙◌}
use Rattle.std.specs.Prelude.{IfOk}
use Rattle.spec_text.specs.Lines.{TextState, IsText, line_texts}
use Rattle.spec_script.specs.Stanzas.{blocks_of}
use Rattle.spec_script.proofs.BlockPlaces.{FromPlace, blocks_of-lie}
use Rattle.spec_pages.specs.declared.Shape.{Shape}
use Rattle.spec_pages.specs.Pages.{page_starts, rows_on}
use Rattle.spec_pages.specs.Rows.{ElementOf}
use Rattle.spec_labels.specs.PageRecords.{PageRecordOf, SheetOf, record_starts, sheets_of_records}
use Rattle.spec_sheets.specs.Shown.{shape_of}
use Rattle.spec_sheets.proofs.RowLaws.{IsText-texts}
use Rattle.spec_sheets.proofs.ShownLaws.{shown_rows-shapes, shown_rows-marks}
use Rattle.spec_state.specs.State.{State}
use Rattle.spec_state.specs.Headings.{heading_labels}
use Rattle.spec_state.specs.StateSheets.{layout_in, rows_in, keys_in, locked_starts, numbered_sheets, sheets_in}
use Rattle.spec_locked_pages.specs.Segments.{pages_of}
use Rattle.sp_layout.specs.Bodies.{row_count, shapes_in, marks_in}
use Rattle.sp_sheets.specs.Numbered.{marked_sheets}
use Rattle.sp_sheets.proofs.MarkedLaws.{marked_sheets-numbered}
use Rattle.sp_sheets.specs.Firsts.{key_starts}
use Rattle.sp_sheets.proofs.FirstsLaws.{count-rows}

-- The sheets of elements on these pages: those of page records, or numbered ones by the marks of rows.
abbrev pub marked_or_locked : List ElementOf → Option (List PageRecordOf) → List ℕ → List ℕ → List SheetOf
marked_or_locked elements None starts pages = marked_sheets (marks_in elements) 1 pages
marked_or_locked elements (Some records) starts pages = sheets_of_records (row_count elements) records starts pages

-- What a value shows is something, and so is what is equal to that.
pub shows-same : {V E X : Type 0} (shows : V → X) (result : Result V E) (one other : X) → one ≡ other → IfOk result (λ it. shows it ≡ one) → IfOk result (λ it. shows it ≡ other)
shows-same shows (Ok it) one other same is = is ∙ same
shows-same shows (Err error) one other same is = tt

-- What a value shows is something of which this holds.
pub shows-such : {V E X : Type 0} (shows : V → X) (P : X → Type 0) (result : Result V E) (one : X) → P one → IfOk result (λ it. shows it ≡ one) → IfOk result (λ it. P (shows it))
shows-such shows P (Ok it) one such is = subst P (sym is) such
shows-such shows P (Err error) one such is = tt

-- The blocks of a text lie in it, in order.
pub blocks-lie : (text : TextState) → IsText text → FromPlace (line_texts text.lines) 0 (blocks_of (line_texts text.lines))
blocks-lie text is = let are = IsText-texts text is in blocks_of-lie (line_texts text.lines) are.utf8 are.few

-- The shapes of its rows.
pub same-shapes : (state : State) → map shape_of (rows_in state) ≡ shapes_in (layout_in state).body
same-shapes state = shown_rows-shapes state.lines (heading_labels state.lines state.scenes) (layout_in state).body

-- The sheets of a state, by its body.
pub sheets-by : (state : State) (o : Option (List PageRecordOf)) → let firsts = key_starts state.lines (keys_in state) o in let body = (layout_in state).body in
    marked_or_locked body o firsts (page_starts (rows_on state.paper) (shapes_in body) ((layout_in state).breaks ++ firsts)) ≡ sheets_in (rows_on state.paper) state.lines (rows_in state) (layout_in state).breaks o
sheets-by state None =
    let body = (layout_in state).body in
    let stops = (layout_in state).breaks ++ [] in
    marked_sheets-numbered (rows_in state) (marks_in body) (page_starts (rows_on state.paper) (shapes_in body) stops) (shown_rows-marks state.lines (heading_labels state.lines state.scenes) body)
    ∙ ap (λ (shapes : List Shape). numbered_sheets (rows_in state) 1 (page_starts (rows_on state.paper) shapes stops)) (sym (same-shapes state))
sheets-by state (Some records) =
    let body = (layout_in state).body in
    let begin = record_starts state.lines (keys_in state) records in
    let stops = (layout_in state).breaks ++ begin in
    ap (λ n. sheets_of_records n records begin (page_starts (rows_on state.paper) (shapes_in body) stops)) (sym (count-rows state))
    ∙ ap (λ (shapes : List Shape). sheets_of_records (length (rows_in state)) records begin (page_starts (rows_on state.paper) shapes stops)) (sym (same-shapes state))

-- The first rows of page records, by rows and by keys.
pub locked-keys : (state : State) (o : Option (List PageRecordOf)) → locked_starts state.lines (rows_in state) o ≡ key_starts state.lines (keys_in state) o
locked-keys state None = refl
locked-keys state (Some records) = refl

-- The page starts of a state, by its body, its page breaks and the first rows of its page records.
pub pages-are : (state : State) (body : List ElementOf) (o : Option (List PageRecordOf)) (breaks firsts : List ℕ) → body ≡ (layout_in state).body → state.pages ≡ o → breaks ≡ (layout_in state).breaks
    → firsts ≡ key_starts state.lines (keys_in state) o → pages_of state ≡ page_starts (rows_on state.paper) (shapes_in body) (breaks ++ firsts)
pages-are state body o breaks firsts elements records stops first =
    let limit = rows_on state.paper in
    ap (λ (shapes : List Shape). page_starts limit shapes ((layout_in state).breaks ++ locked_starts state.lines (rows_in state) state.pages)) (same-shapes state ∙ sym (ap shapes_in elements))
    ∙ ap (λ (bs : List ℕ). page_starts limit (shapes_in body) (bs ++ locked_starts state.lines (rows_in state) state.pages)) (sym stops)
    ∙ ap (λ (fs : List ℕ). page_starts limit (shapes_in body) (breaks ++ fs)) (ap (locked_starts state.lines (rows_in state)) records ∙ locked-keys state o ∙ sym first)
