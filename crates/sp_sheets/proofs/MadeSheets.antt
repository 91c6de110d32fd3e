-- The sheets of a state lie in its rows, and so do those of what is made of it.
use Rattle.std.proofs.Common.{◌≡◌, ℕ, ◌+◌, ◌<◌, false, Option, Some, None, List, [], ◌∷◌, ◌++◌, length, map, refl, sym, ap, subst, ◌∙◌, arith}
use Rattle.std.specs.Prelude.{All, slice_range, slice_index_or}
use Rattle.std.proofs.lemmas.List.{length-map}
use Rattle.std.proofs.lemmas.List.Elements.{All-nil, All-cons, All-head, All-tail}
use Rattle.spec_text.proofs.ListLaws.{pairs-head, pairs-tail}
use Rattle.spec_pages.specs.Rows.{ElementOf}
use Rattle.spec_pages.specs.Pages.{text_heights, rows_on}
use Rattle.spec_pages.proofs.StartLists.{AreAbove, starts-are}
use Rattle.spec_labels.specs.Labels.{plain_label}
use Rattle.spec_labels.specs.PageRecords.{PageRecordOf, SheetOf, LiesWithin}
use Rattle.spec_sheets.specs.Shown.{Shown, shape_of}
use Rattle.spec_state.specs.State.{State}
use Rattle.spec_state.specs.Keeping.{IsWhole}
use Rattle.spec_state.specs.StateSheets.{greatest_mark, numbered_sheets, pages_in, sheets_in, layout_in, keys_in, rows_in, body_sheets}
use Rattle.spec_state.proofs.StateKeys.{state-row_keys}
use Rattle.spec_state.proofs.StateLaws.{state-Cover}
use Rattle.sp_layout.specs.Bodies.{row_count}
use Rattle.sp_layout.specs.LaidOut.{LayoutOf}
use Rattle.sp_sheets.specs.Made.{MadeOf, IsMadeOf}
use Rattle.sp_sheets.proofs.FirstsLaws.{count-rows}

-- ---- sheets that are numbered

abbrev numbered_sheet : List Shown → ℕ → ℕ → ℕ → SheetOf
numbered_sheet rows number page end = record {
  first = plain_label number;
  last = plain_label number;
  start = page;
  end = end;
  round = greatest_mark (slice_range rows page end);
  omitted = false;
}

abbrev IsRow : List Shown → ℕ → Type 0
IsRow rows page = page < length rows

numbered-lie : (rows : List Shown) (number : ℕ) (pages : List ℕ) → All (IsRow rows) pages → AreAbove pages → All (LiesWithin (length rows)) (numbered_sheets rows number pages)
numbered-lie rows number [] inside rise = All-nil (LiesWithin (length rows))
numbered-lie rows number (page ∷ later) inside rise =
    All-cons (LiesWithin (length rows)) (numbered_sheet rows number page (slice_index_or later 0 (length rows))) (numbered_sheets rows (number + 1) later)
    (by later (All-tail (IsRow rows) page later inside) (pairs-head (λ one other. one < other) page later rise))
    (numbered-lie rows (number + 1) later (All-tail (IsRow rows) page later inside) (pairs-tail (λ one other. one < other) page later rise))
  where
    here : page < length rows
    here = All-head (IsRow rows) page later inside

    by : (pages : List ℕ) → All (IsRow rows) pages → All (λ other. page < other) pages → LiesWithin (length rows) (numbered_sheet rows number page (slice_index_or pages 0 (length rows)))
    by [] each above = record { order = omega (arith, here); within = omega arith; some = λ shown. here }
    by (next ∷ pages) each above =
        let less : page < next = All-head (λ other. page < other) next pages above in
        let end : next < length rows = All-head (IsRow rows) next pages each in
        record { order = omega (arith, less); within = omega (arith, end); some = λ shown. less }

-- Each sheet of the body lies in the rows, and only omitted ones have none.
pub body-lie : (state : State) → IsWhole state → All (LiesWithin (length (rows_in state))) (body_sheets state)
body-lie state whole = by state.pages refl
  where
    by : (records : Option (List PageRecordOf)) → state.pages ≡ records
        → All (LiesWithin (length (rows_in state))) (sheets_in (rows_on state.paper) state.lines (rows_in state) (layout_in state).breaks records)
    by (Some records) is = (state-Cover state records whole is).1
    by None is =
        let rows = rows_in state in
        let shapes = map shape_of rows in
        let size = length-map rows shape_of in
        let are = starts-are (rows_on state.paper) (text_heights shapes) (length shapes) ((layout_in state).breaks ++ []) in
        numbered-lie rows 1 (pages_in (rows_on state.paper) state.lines rows (layout_in state).breaks None) (λ k d h. (let i = are.inside k d h in omega (arith, i, size))) are.rise

-- ---- what is made of a state

pub body-made : (state : State) (it : MadeOf) → IsMadeOf state it → it.layout.body.elements ≡ (layout_in state).body
body-made state it made = ap (λ (l : LayoutOf). l.body.elements) made.layout

pub keys-made : (state : State) (it : MadeOf) → IsMadeOf state it → it.layout.body.keys ≡ keys_in state
keys-made state it made = ap (λ (l : LayoutOf). l.body.keys) made.layout ∙ sym (state-row_keys state)

-- Its sheets lie in the rows of its body.
pub made-lie : (state : State) (it : MadeOf) → IsWhole state → IsMadeOf state it → All (LiesWithin (row_count it.layout.body.elements)) it.numbered.sheets
made-lie state it whole made =
    let lie : All (LiesWithin (row_count (layout_in state).body)) (body_sheets state) = subst (λ n. All (LiesWithin n) (body_sheets state)) (count-rows state) (body-lie state whole) in
    subst (All (LiesWithin (row_count it.layout.body.elements))) (sym made.numbered.sheets)
    (subst (λ (elements : List ElementOf). All (LiesWithin (row_count elements)) (body_sheets state)) (sym (body-made state it made)) lie)
