-- Each row of a state stands on one of its sheets, and on no other.
use Rattle.std.proofs.Common.{◌≡◌, ℕ, zero, suc, ◌+◌, ◌<◌, ◌≤◌, ◌&&◌, Bool, true, false, cond, Option, Some, None, List, [], ◌∷◌, ◌++◌, length, map, slice_get, refl, ap, subst, ◌∙◌, nat_lt, inl, inr, arith}
use Rattle.std.specs.Prelude.{All, nat_le, find, slice_range, slice_index_or}
use Rattle.std.proofs.lemmas.Bool.{cases_lt, lt-ltb, le-leb, le-ltb, leb-true, ltb-true, and_parts, and_from}
use Rattle.std.proofs.lemmas.List.{length-map}
use Rattle.std.proofs.lemmas.List.Elements.{All-nil, All-cons, All-head, All-tail}
use Rattle.spec_text.proofs.ListLaws.{pairs-head, pairs-tail}
use Rattle.spec_pages.specs.declared.Paper.{Paper}
use Rattle.spec_pages.specs.declared.Paper.TheVariants.{Letter, A4}
use Rattle.spec_pages.specs.declared.Shape.{Shape}
use Rattle.spec_pages.specs.Pages.{text_heights, rows_on}
use Rattle.spec_pages.proofs.PageLaws.{PagesFrom, page_starts-PagesFrom}
use Rattle.spec_pages.proofs.StartLists.{AreAbove, starts-are}
use Rattle.spec_labels.specs.Labels.{plain_label}
use Rattle.spec_labels.specs.PageRecords.{PageRecordOf, SheetOf, Covers}
use Rattle.spec_sheets.specs.Shown.{Shown, shape_of}
use Rattle.spec_state.specs.State.{State}
use Rattle.spec_state.specs.Keeping.{IsWhole}
use Rattle.spec_state.specs.StateSheets.{greatest_mark, numbered_sheets, pages_in, sheets_in, layout_in, rows_in, body_sheets}
use Rattle.spec_state.proofs.StateLaws.{state-Cover}
use Rattle.spec_machine.specs.Outlines.{has_row}
use Rattle.spec_cast.specs.Places.{StandsOnOne}

abbrev IsOrdered : SheetOf → Type 0
IsOrdered sheet = sheet.start ≤ sheet.end

-- ---- sheets that follow one another

covers-low : (at end : ℕ) (sheets : List SheetOf) → Covers at sheets end → All IsOrdered sheets → (i : ℕ) (other : SheetOf) → slice_get sheets i ≡ Some other → at ≤ other.start
covers-low at end [] covers order i other is = cc
covers-low at end (sheet ∷ sheets) covers order zero other is =
    let same : sheet ≡ other = cc in let here = covers.0 in let start = ap (λ (it : SheetOf). it.start) same in omega (arith, here, start)
covers-low at end (sheet ∷ sheets) covers order (suc i) other is =
    let here = covers.0 in
    let own : sheet.start ≤ sheet.end = All-head IsOrdered sheet sheets order in
    let later = covers-low sheet.end end sheets covers.1 (All-tail IsOrdered sheet sheets order) i other is in
    omega (arith, here, own, later)

has-row : (row : ℕ) (sheet : SheetOf) → has_row row sheet ≡ true → (sheet.start ≤ row) × (row < sheet.end)
has-row row sheet has =
    let parts = and_parts (nat_le sheet.start row) (nat_lt row sheet.end) has in (leb-true sheet.start row parts.0, ltb-true row sheet.end parts.1)

-- The row of a list of sheets that cover it.
pub covers-one : (at end : ℕ) (sheets : List SheetOf) → Covers at sheets end → All IsOrdered sheets → (row : ℕ) → at ≤ row → row < end → StandsOnOne sheets row
covers-one at end [] covers order row low high = absurd (omega (arith, covers, low, high))
covers-one at end (sheet ∷ sheets) covers order row low high = elim (cases_lt row sheet.end) [
  | inl here ↦
      let start = covers.0 in
      let has : has_row row sheet ≡ true = and_from (nat_le sheet.start row) (nat_lt row sheet.end) (le-leb sheet.start row (omega (arith, start, low))) (lt-ltb row sheet.end here) in
      record {
        place = 0;
        sheet = sheet;
        at = refl;
        has = has;
        only = first here;
        found = ap (λ b. cond b (Some sheet) (find (has_row row) sheets)) has;
      }
  | inr past ↦
      let rest = covers-one sheet.end end sheets covers.1 (All-tail IsOrdered sheet sheets order) row past high in
      let not : has_row row sheet ≡ false = ap (λ b. nat_le sheet.start row && b) (le-ltb row sheet.end past) ∙ and-false (nat_le sheet.start row) in
      record {
        place = suc rest.place;
        sheet = rest.sheet;
        at = rest.at;
        has = rest.has;
        only = others past rest.place rest.only;
        found = ap (λ b. cond b (Some sheet) (find (has_row row) sheets)) not ∙ rest.found;
      }
]
  where
    and-false : (b : Bool) → (b && false) ≡ false
    and-false true = refl
    and-false false = refl

    first : row < sheet.end → (i : ℕ) (other : SheetOf) → slice_get (sheet ∷ sheets) i ≡ Some other → has_row row other ≡ true → i ≡ 0
    first here zero other is has = refl
    first here (suc i) other is has =
        let behind = covers-low sheet.end end sheets covers.1 (All-tail IsOrdered sheet sheets order) i other is in
        let begun = (has-row row other has).0 in absurd (omega (arith, here, behind, begun))

    others : sheet.end ≤ row → (place : ℕ) → ((i : ℕ) (other : SheetOf) → slice_get sheets i ≡ Some other → has_row row other ≡ true → i ≡ place)
        → (i : ℕ) (other : SheetOf) → slice_get (sheet ∷ sheets) i ≡ Some other → has_row row other ≡ true → i ≡ suc place
    others past place only zero other is has =
        let same : sheet ≡ other = cc in
        let ended = (has-row row other has).1 in
        let end = ap (λ (it : SheetOf). it.end) same in absurd (omega (arith, past, ended, end))
    others past place only (suc i) other is has = ap suc (only i other is has)

-- ---- sheets that are numbered

numbered-covers : (rows : List Shown) (number : ℕ) (pages : List ℕ) → Covers (slice_index_or pages 0 (length rows)) (numbered_sheets rows number pages) (length rows)
numbered-covers rows number [] = refl
numbered-covers rows number (page ∷ later) = (refl, numbered-covers rows (number + 1) later)

abbrev numbered_sheet : List Shown → ℕ → ℕ → ℕ → SheetOf
numbered_sheet rows number page end = record {
  first = plain_label number;
  last = plain_label number;
  start = page;
  end = end;
  round = greatest_mark (slice_range rows page end);
  omitted = false;
}

numbered-order : (rows : List Shown) (number : ℕ) (pages : List ℕ) → All (λ page. page < length rows) pages → AreAbove pages → All IsOrdered (numbered_sheets rows number pages)
numbered-order rows number [] inside rise = All-nil IsOrdered
numbered-order rows number (page ∷ later) inside rise =
    All-cons IsOrdered (numbered_sheet rows number page (slice_index_or later 0 (length rows))) (numbered_sheets rows (number + 1) later)
    (by later (pairs-head (λ one other. one < other) page later rise))
    (numbered-order rows (number + 1) later (All-tail (λ page. page < length rows) page later inside) (pairs-tail (λ one other. one < other) page later rise))
  where
    here : page < length rows
    here = All-head (λ page. page < length rows) page later inside

    by : (pages : List ℕ) → All (λ other. page < other) pages → page ≤ slice_index_or pages 0 (length rows)
    by [] above = omega (arith, here)
    by (next ∷ pages) above = (let less : page < next = All-head (λ other. page < other) next pages above in omega (arith, less))

-- The first page begins with the first row.
first-page : (limit : ℕ) (shapes : List Shape) (stops starts : List ℕ) (n : ℕ) → length shapes ≡ n → PagesFrom limit shapes stops 0 starts → slice_index_or starts 0 n ≡ 0
first-page limit shapes stops [] n size pages = omega (arith, size, pages)
first-page limit shapes stops (start ∷ starts) n size pages = pages.1

three-rows : (paper : Paper) → 3 ≤ rows_on paper
three-rows Letter = omega arith
three-rows A4 = omega arith

-- ---- the sheets of a state

pub row-one : (state : State) → IsWhole state → (row : ℕ) → row < length (rows_in state) → StandsOnOne (body_sheets state) row
row-one state whole row inside = by state.pages refl
  where
    by : (records : Option (List PageRecordOf)) → state.pages ≡ records → StandsOnOne (sheets_in (rows_on state.paper) state.lines (rows_in state) (layout_in state).breaks records) row
    by (Some records) is =
        let cover = state-Cover state records whole is in
        covers-one 0 (length (rows_in state)) (sheets_in (rows_on state.paper) state.lines (rows_in state) (layout_in state).breaks (Some records)) cover.0
        (λ i d below. (cover.1 i d below).order) row (omega arith) inside
    by None is =
        let rows = rows_in state in
        let shapes = map shape_of rows in
        let stops = (layout_in state).breaks ++ [] in
        let pages = pages_in (rows_on state.paper) state.lines rows (layout_in state).breaks None in
        let size = length-map rows shape_of in
        let start = first-page (rows_on state.paper) shapes stops pages (length rows) size (page_starts-PagesFrom (rows_on state.paper) (three-rows state.paper) shapes stops) in
        let are = starts-are (rows_on state.paper) (text_heights shapes) (length shapes) stops in
        covers-one 0 (length rows) (numbered_sheets rows 1 pages) (subst (λ n. Covers n (numbered_sheets rows 1 pages) (length rows)) start (numbered-covers rows 1 pages))
        (numbered-order rows 1 pages (λ k d h. (let i = are.inside k d h in omega (arith, i, size))) are.rise) row (omega arith) inside
