-- What is made of a state is what the rules say of it.
use Rattle.std.proofs.Common.{◌≡◌, ℕ, ◌<◌, ◌≤◌, List, [], ◌++◌, length, Option, Some, None, Result, Ok, Err, refl, sym, ap, ◌∙◌, subst, arith}
use Rattle.std.specs.Prelude.{All, AllPairs, IfSome, OnOk, option_map}
use Rattle.std.proofs.lemmas.List.{length-map}
use Rattle.std.proofs.lemmas.List.Elements.{All-nil}
use Rattle.spec_text.specs.Lines.{LineState, TextState, IsText, line_texts, read_lines}
use Rattle.spec_pages.specs.Pages.{page_starts, rows_on, text_heights}
use Rattle.spec_pages.specs.Rows.{Row, ElementOf}
use Rattle.spec_pages.proofs.StartLists.{starts-are}
use Rattle.spec_labels.specs.Scenes.{HeadingOf, SceneRecordOf, locked_labels}
use Rattle.spec_labels.specs.PageRecords.{PageRecordOf, record_starts}
use Rattle.spec_sheets.specs.Layout.{placed_in}
use Rattle.spec_state.specs.State.{State, opened_state, text_of}
use Rattle.spec_state.specs.Headings.{headings_of, heading_labels}
use Rattle.spec_state.specs.StateSheets.{layout_in, rows_in, keys_in, pages_in, sheets_in, body_sheets}
use Rattle.spec_state.specs.Keeping.{IsWhole, records_of, state_of}
use Rattle.spec_state.proofs.OpenedLaws.{opening-whole}
use Rattle.spec_state.proofs.StateLaws.{state-AreKeptPages, state-ArePageRecords, state-AreStarts, state-ArePages, state-few, rising-few}
use Rattle.sp_layout.specs.Bodies.{row_count, shapes_in}
use Rattle.sp_sheets.proofs.FirstsLaws.{count-rows}
use Rattle.sp_sheets.proofs.MadePages.{marked_or_locked, same-shapes, sheets-by}
use Rattle.sp_sheets.specs.Locked.{LockedSheets}
use Rattle.sp_sheets.specs.Firsts.{key_starts}

-- Page starts rise, are rows, and are few.
pub record AreFewPages (rows : ℕ) (pages : List ℕ) : Type 0 where
  pub rising : AllPairs (λ (one other : ℕ). one < other) pages
  pub within : All (λ (page : ℕ). page < rows) pages
  pub few : length pages ≤ 16777216

-- What the sheets of elements on these pages ask for.
pub record AskedOfPages {V : Type 0} (items : V → List PageRecordOf) (elements : List ElementOf) (records : Option V) (starts pages : List ℕ) : Type 0 where
  pub are : AreFewPages (row_count elements) pages
  pub locked : IfSome records (λ those. LockedSheets (row_count elements) (items those) starts pages)

-- What was done makes something, and so what is equal to that.
pub done-same : {V E X : Type 0} (result : Result V E) (it one other : X) → one ≡ other → OnOk result (it ≡ one) → OnOk result (it ≡ other)
done-same (Ok value) it one other same is = is ∙ same
done-same (Err error) it one other same is = tt

-- The labels of headings, where scenes are locked.
pub labels-are : {V : Type 0} (items : V → List SceneRecordOf) (scenes : Option V) (lines : List LineState) (headings : List HeadingOf) → headings ≡ headings_of lines
    → option_map (λ records. locked_labels (items records) headings) scenes ≡ heading_labels lines (option_map items scenes)
labels-are items None lines headings is = refl
labels-are items (Some records) lines headings is = ap (λ those. Some (locked_labels (items records) those)) is

-- No page record starts behind the last row.
starts-by : (state : State) (o : Option (List PageRecordOf)) → IsWhole state → state.pages ≡ o → All (λ (stop : ℕ). stop ≤ length (rows_in state)) (key_starts state.lines (keys_in state) o)
starts-by state None whole is = All-nil (λ (stop : ℕ). stop ≤ length (rows_in state))
starts-by state (Some records) whole is = (state-AreStarts state records whole is).within

pub starts-within : (state : State) (o : Option (List PageRecordOf)) → IsWhole state → state.pages ≡ o → All (λ (stop : ℕ). stop ≤ row_count (layout_in state).body) (key_starts state.lines (keys_in state) o)
starts-within state o whole is = subst (λ n. All (λ (stop : ℕ). stop ≤ n) (key_starts state.lines (keys_in state) o)) (count-rows state) (starts-by state o whole is)

-- Page starts rise, are rows, and are few.
pub pages-few : (state : State) (stops : List ℕ) → IsWhole state → AreFewPages (row_count (layout_in state).body) (page_starts (rows_on state.paper) (shapes_in (layout_in state).body) stops)
pages-few state stops whole =
    let body = (layout_in state).body in
    let shapes = shapes_in body in
    let pages = page_starts (rows_on state.paper) shapes stops in
    let same : length shapes ≡ row_count body = length-map (placed_in body) (λ (row : Row). row.shape) in
    let are = starts-are (rows_on state.paper) (text_heights shapes) (length shapes) stops in
    let inside : All (λ (page : ℕ). page < row_count body) pages = λ k d h. (let i = are.inside k d h in omega (arith, i, same)) in
    let few = rising-few 0 (row_count body) pages (omega arith) are.rise (λ k d h. omega arith) inside in
    record { rising = are.rise; within = inside; few = omega (arith, few, state-few state whole, count-rows state) }

-- What the sheets of page records ask for.
pub locked : {V : Type 0} (items : V → List PageRecordOf) (state : State) (pages_of : Option V) (firsts : List ℕ) → IsWhole state → state.pages ≡ option_map items pages_of
    → firsts ≡ key_starts state.lines (keys_in state) (option_map items pages_of)
    → IfSome pages_of (λ those. LockedSheets (row_count (layout_in state).body) (items those) firsts (page_starts (rows_on state.paper) (shapes_in (layout_in state).body) ((layout_in state).breaks ++ firsts)))
locked items state None firsts whole is first = tt
locked items state (Some those) firsts whole is first =
    let records = items those in
    let rows = rows_in state in
    let breaks = (layout_in state).breaks in
    let limit = rows_on state.paper in
    let begin = record_starts state.lines (keys_in state) records in
    let pages = pages_in limit state.lines rows breaks (Some records) in
    let keep : LockedSheets (length rows) records begin pages = record {
      some = (state-AreKeptPages state records whole is).some;
      are = state-ArePageRecords state records whole is;
      begin = state-AreStarts state records whole is;
      pages_are = state-ArePages state records whole;
    } in
    let counted : LockedSheets (row_count (layout_in state).body) records begin pages = subst (λ n. LockedSheets n records begin pages) (count-rows state) keep in
    let shaped : LockedSheets (row_count (layout_in state).body) records begin (page_starts limit (shapes_in (layout_in state).body) (breaks ++ begin)) =
    subst (λ shapes. LockedSheets (row_count (layout_in state).body) records begin (page_starts limit shapes (breaks ++ begin))) (same-shapes state) counted in
    subst (λ fs. LockedSheets (row_count (layout_in state).body) records fs (page_starts limit (shapes_in (layout_in state).body) (breaks ++ fs))) (sym first) shaped

-- The same of a body and of pages that were made.
pub pages-of : (state : State) (body : List ElementOf) (stops pages : List ℕ) → IsWhole state → body ≡ (layout_in state).body → pages ≡ page_starts (rows_on state.paper) (shapes_in body) stops → AreFewPages (row_count body) pages
pages-of state body stops pages whole elements is =
    subst (AreFewPages (row_count body)) (sym is)
    (subst (λ (it : List ElementOf). AreFewPages (row_count it) (page_starts (rows_on state.paper) (shapes_in it) stops)) (sym elements) (pages-few state stops whole))

pub locked-of : {V : Type 0} (items : V → List PageRecordOf) (state : State) (pages_of : Option V) (body : List ElementOf) (breaks firsts pages : List ℕ) → IsWhole state → state.pages ≡ option_map items pages_of
    → body ≡ (layout_in state).body → breaks ≡ (layout_in state).breaks → firsts ≡ key_starts state.lines (keys_in state) (option_map items pages_of) → pages ≡ page_starts (rows_on state.paper) (shapes_in body) (breaks ++ firsts)
    → IfSome pages_of (λ those. LockedSheets (row_count body) (items those) firsts pages)
locked-of items state pages_of body breaks firsts pages whole records elements stops first is =
    let limit = rows_on state.paper in
    subst (λ (ps : List ℕ). IfSome pages_of (λ those. LockedSheets (row_count body) (items those) firsts ps)) (sym is)
    (subst (λ (bs : List ℕ). IfSome pages_of (λ those. LockedSheets (row_count body) (items those) firsts (page_starts limit (shapes_in body) (bs ++ firsts)))) (sym stops)
    (subst (λ (it : List ElementOf). IfSome pages_of (λ those. LockedSheets (row_count it) (items those) firsts (page_starts limit (shapes_in it) ((layout_in state).breaks ++ firsts)))) (sym elements)
    (locked items state pages_of firsts whole records first)))

-- The sheets that are made are those of the state.
pub sheets-made : (state : State) (body : List ElementOf) (o : Option (List PageRecordOf)) (breaks firsts pages : List ℕ) → body ≡ (layout_in state).body → state.pages ≡ o → breaks ≡ (layout_in state).breaks
    → firsts ≡ key_starts state.lines (keys_in state) o → pages ≡ page_starts (rows_on state.paper) (shapes_in body) (breaks ++ firsts) → marked_or_locked body o firsts pages ≡ body_sheets state
sheets-made state body o breaks firsts pages elements records stops first page =
    let limit = rows_on state.paper in
    let those = (layout_in state).breaks in
    let begin = key_starts state.lines (keys_in state) o in
    ap (marked_or_locked body o firsts) (page ∙ ap (λ (bs : List ℕ). page_starts limit (shapes_in body) (bs ++ firsts)) stops)
    ∙ ap (λ (fs : List ℕ). marked_or_locked body o fs (page_starts limit (shapes_in body) (those ++ fs))) first
    ∙ ap (λ (it : List ElementOf). marked_or_locked it o begin (page_starts limit (shapes_in it) (those ++ begin))) elements
    ∙ sheets-by state o
    ∙ ap (sheets_in limit state.lines (rows_in state) those) (sym records)

-- What the sheets of a body's pages ask for.
pub asked-of : {V : Type 0} (items : V → List PageRecordOf) (state : State) (records : Option V) (body : List ElementOf) (breaks firsts pages : List ℕ) → IsWhole state → state.pages ≡ option_map items records
    → body ≡ (layout_in state).body → breaks ≡ (layout_in state).breaks → firsts ≡ key_starts state.lines (keys_in state) (option_map items records) → pages ≡ page_starts (rows_on state.paper) (shapes_in body) (breaks ++ firsts)
    → AskedOfPages items body records firsts pages
asked-of items state records body breaks firsts pages whole same elements stops first is = record {
  are = pages-of state body (breaks ++ firsts) pages whole elements is;
  locked = locked-of items state records body breaks firsts pages whole same elements stops first is;
}

-- Lines that were just read, without records, are the opened state.
pub opened-is : (text : TextState) → text.lines ≡ read_lines (line_texts text.lines) → text.next ≡ length text.lines → state_of text (records_of (opened_state [])) ≡ opened_state (line_texts text.lines)
opened-is text read next =
    let none = records_of (opened_state []) in
    ap (λ (lines : List LineState). state_of (record { lines = lines; next = text.next }) none) read
    ∙ ap (λ (id : ℕ). state_of (record { lines = read_lines (line_texts text.lines); next = id }) none) (next ∙ sym (length-map text.lines (λ (line : LineState). line.text)))

pub opened-whole : (text : TextState) → IsText text → text.lines ≡ read_lines (line_texts text.lines) → text.next ≡ length text.lines → IsWhole (state_of text (records_of (opened_state [])))
opened-whole text is read next =
    let same = opened-is text read next in
    subst IsWhole (sym same) (opening-whole (line_texts text.lines) (subst (λ (state : State). IsText (text_of state)) same is))
