-- The sheet with a row, by halves.
use Rattle.std.proofs.Common.{◌≡◌, ℕ, zero, suc, ◌+◌, ◌<◌, ◌≤◌, ◌&&◌, Bool, true, false, cond, Option, Some, None, List, [], ◌∷◌, length, get_or, slice_get, refl, sym, ap, subst, nat_lt, leb, inl, inr, arith}
use Rattle.std.specs.Prelude.{All, AllPairs, nat_le, find, slice_index_or}
use Rattle.std.proofs.lemmas.Bool.{cases_eq, leb-true, leb-false, ltb-true, ltb-false}
use Rattle.std.specs.List.Sorted.{IsPartitionPoint, IsNonDecreasingBy}
use Rattle.std.proofs.lemmas.List.Elements.{All-nil, All-cons, All-head, All-tail}
use Rattle.std.proofs.lemmas.List.Kept.{AllPairs-cons}
use Rattle.spec_text.proofs.ListLaws.{pairs-head, pairs-tail}
use Rattle.spec_labels.specs.PageRecords.{PageRecordOf, SheetOf, Covers, LiesWithin}
use Rattle.spec_sheets.specs.Shown.{Shown}
use Rattle.spec_pages.specs.Pages.{rows_on}
use Rattle.spec_state.specs.State.{State}
use Rattle.spec_state.specs.Keeping.{IsWhole}
use Rattle.spec_state.specs.StateSheets.{numbered_sheets, sheets_in, pages_in, rows_in, layout_in, body_sheets}
use Rattle.spec_state.proofs.StateLaws.{state-Cover}
use Rattle.spec_machine.specs.Outlines.{has_row}
use Rattle.sp_contents.specs.Sheets.{AreInTurn, EndBefore, if_begun}

find-none : (row : ℕ) (sheets : List SheetOf) → All (λ (sheet : SheetOf). row < sheet.start) sheets → find (has_row row) sheets ≡ None
find-none row [] all = refl
find-none row (sheet ∷ sheets) all = by (nat_le sheet.start row) refl (find-none row sheets (All-tail (λ (it : SheetOf). row < it.start) sheet sheets all))
  where
    by : (b : Bool) → nat_le sheet.start row ≡ b → find (has_row row) sheets ≡ None → cond (b && nat_lt row sheet.end) (Some sheet) (find (has_row row) sheets) ≡ None
    by true e later = (let low = leb-true sheet.start row e in let high : row < sheet.start = All-head (λ (it : SheetOf). row < it.start) sheet sheets all in absurd (omega (arith, low, high)))
    by false e later = later

starts-behind : (row : ℕ) (sheet : SheetOf) (sheets : List SheetOf) → row < sheet.end → All (λ (other : SheetOf). sheet.end ≤ other.start) sheets → All (λ (it : SheetOf). row < it.start) sheets
starts-behind row sheet [] low all = All-nil (λ (it : SheetOf). row < it.start)
starts-behind row sheet (other ∷ sheets) low all =
    let later : sheet.end ≤ other.start = All-head (λ (it : SheetOf). sheet.end ≤ it.start) other sheets all in
    All-cons (λ (it : SheetOf). row < it.start) other sheets (omega (arith, low, later)) (starts-behind row sheet sheets low (All-tail (λ (it : SheetOf). sheet.end ≤ it.start) other sheets all))

pub find-place : (row : ℕ) (sheets : List SheetOf) (count : ℕ) → AreInTurn sheets → EndBefore sheets row count → find (has_row row) sheets ≡ if_begun row (slice_get sheets count)
find-place row [] count are ends = refl
find-place row (sheet ∷ sheets) zero are ends = by (nat_le sheet.start row) refl (nat_lt row sheet.end) refl
  where
    low : row < sheet.end
    low = ends.behind 0 sheet refl (omega arith)

    none : find (has_row row) sheets ≡ None
    none = find-none row sheets (starts-behind row sheet sheets low (pairs-head (λ (one other : SheetOf). one.end ≤ other.start) sheet sheets are.turn))

    by : (a : Bool) → nat_le sheet.start row ≡ a → (b : Bool) → nat_lt row sheet.end ≡ b → cond (a && b) (Some sheet) (find (has_row row) sheets) ≡ cond a (Some sheet) None
    by true at true is = refl
    by true at false is = (let past = ltb-false row sheet.end is in absurd (omega (arith, past, low)))
    by false at b is = none
find-place row (sheet ∷ sheets) (suc count) are ends = by (nat_lt row sheet.end) refl (nat_le sheet.start row) (find-place row sheets count later later_ends)
  where
    past : sheet.end ≤ row
    past = ends.before 0 sheet refl (omega arith)

    later : AreInTurn sheets
    later = record { order = All-tail (λ (it : SheetOf). it.start ≤ it.end) sheet sheets are.order; turn = pairs-tail (λ (one other : SheetOf). one.end ≤ other.start) sheet sheets are.turn }

    later_ends : EndBefore sheets row count
    later_ends = record {
      within = (let within = ends.within in omega (arith, within));
      before = λ i it at below. ends.before (suc i) it at (omega (arith, below));
      behind = λ i it at low. ends.behind (suc i) it at (omega (arith, low));
    }

    by : (b : Bool) → nat_lt row sheet.end ≡ b → (a : Bool) → find (has_row row) sheets ≡ if_begun row (slice_get sheets count)
        → cond (a && b) (Some sheet) (find (has_row row) sheets) ≡ if_begun row (slice_get sheets count)
    by true is a rest = (let low = ltb-true row sheet.end is in absurd (omega (arith, past, low)))
    by false is true rest = rest
    by false is false rest = rest

-- The ends of sheets in turn never fall.
pub ends-rise : (sheets : List SheetOf) → AreInTurn sheets → IsNonDecreasingBy (λ (sheet : SheetOf). sheet.end) sheets
ends-rise sheets are i j d order inside = elim (cases_eq i j) [
  | inl same ↦ omega (arith, ap (λ k. (get_or sheets k d).end) same)
  | inr other ↦ (let turn = are.turn i j d (omega (arith, order, other)) inside in let own = are.order j d inside in omega (arith, turn, own))
]

-- Where a partition is, so many sheets end at a row or before it.
pub ends-before : (sheets : List SheetOf) (row count : ℕ) → count ≤ length sheets → IsPartitionPoint (λ (it : SheetOf). leb it.end row ≡ true) (λ (it : SheetOf). leb it.end row ≡ false) sheets count → EndBefore sheets row count
ends-before sheets row count within parts = record {
  within = within;
  before = λ i it at low. (let inside = below-get sheets i it at in let is = parts.0 i it (omega arith) low in leb-true it.end row (subst (λ (those : SheetOf). leb those.end row ≡ true) (or-get sheets i it at) is));
  behind = λ i it at low. (let inside = below-get sheets i it at in let is = parts.1 i it low inside in leb-false it.end row (subst (λ (those : SheetOf). leb those.end row ≡ false) (or-get sheets i it at) is));
}
  where
    below-get : (those : List SheetOf) (i : ℕ) (it : SheetOf) → slice_get those i ≡ Some it → i < length those
    below-get [] i it at = cc
    below-get (x ∷ xs) zero it at = omega arith
    below-get (x ∷ xs) (suc i) it at = let less = below-get xs i it at in omega (arith, less)

    or-get : (those : List SheetOf) (i : ℕ) (it : SheetOf) → slice_get those i ≡ Some it → get_or those i it ≡ it
    or-get [] i it at = cc
    or-get (x ∷ xs) zero it at = cc
    or-get (x ∷ xs) (suc i) it at = or-get xs i it at

-- ---- sheets that follow one another

covers-low : (at end : ℕ) (sheets : List SheetOf) → Covers at sheets end → All (λ (it : SheetOf). it.start ≤ it.end) sheets → All (λ (it : SheetOf). at ≤ it.start) sheets
covers-low at end [] covers order = All-nil (λ (it : SheetOf). at ≤ it.start)
covers-low at end (sheet ∷ sheets) covers order =
    let here = covers.0 in
    let own : sheet.start ≤ sheet.end = All-head (λ (it : SheetOf). it.start ≤ it.end) sheet sheets order in
    All-cons (λ (it : SheetOf). at ≤ it.start) sheet sheets (omega (arith, here))
    (raise sheets (covers-low sheet.end end sheets covers.1 (All-tail (λ (it : SheetOf). it.start ≤ it.end) sheet sheets order)) (omega (arith, here, own)))
  where
    raise : (those : List SheetOf) → All (λ (it : SheetOf). sheet.end ≤ it.start) those → at ≤ sheet.end → All (λ (it : SheetOf). at ≤ it.start) those
    raise those all low = λ i d below. (let higher = all i d below in omega (arith, higher, low))

pub covers-turn : (at end : ℕ) (sheets : List SheetOf) → Covers at sheets end → All (λ (it : SheetOf). it.start ≤ it.end) sheets → AreInTurn sheets
covers-turn at end sheets covers order = record { order = order; turn = turn at sheets covers order }
  where
    turn : (at : ℕ) (those : List SheetOf) → Covers at those end → All (λ (it : SheetOf). it.start ≤ it.end) those → AllPairs (λ (one other : SheetOf). one.end ≤ other.start) those
    turn at [] follow all = λ i j d low below. absurd (omega (arith, below))
    turn at (sheet ∷ later) follow all =
        let rest = All-tail (λ (it : SheetOf). it.start ≤ it.end) sheet later all in
        AllPairs-cons (λ (one other : SheetOf). one.end ≤ other.start) sheet later (covers-low sheet.end end later follow.1 rest) (turn sheet.end later follow.1 rest)

-- Numbered sheets follow one another.
numbered-covers : (rows : List Shown) (number : ℕ) (pages : List ℕ) → Covers (slice_index_or pages 0 (length rows)) (numbered_sheets rows number pages) (length rows)
numbered-covers rows number [] = refl
numbered-covers rows number (page ∷ later) = (refl, numbered-covers rows (number + 1) later)

-- The sheets of a state are in turn, where they lie in its rows.
pub body-turn : (state : State) → IsWhole state → All (LiesWithin (length (rows_in state))) (body_sheets state) → AreInTurn (body_sheets state)
body-turn state whole lie = by state.pages refl
  where
    order : All (λ (it : SheetOf). it.start ≤ it.end) (body_sheets state)
    order = λ i d below. (lie i d below).order

    by : (records : Option (List PageRecordOf)) → state.pages ≡ records → AreInTurn (body_sheets state)
    by (Some records) is =
        let covers = (state-Cover state records whole is).0 in
        covers-turn 0 (length (rows_in state)) (body_sheets state)
        (subst (λ o. Covers 0 (sheets_in (rows_on state.paper) state.lines (rows_in state) (layout_in state).breaks o) (length (rows_in state))) (sym is) covers) order
    by None is =
        let pages = pages_in (rows_on state.paper) state.lines (rows_in state) (layout_in state).breaks None in
        covers-turn (slice_index_or pages 0 (length (rows_in state))) (length (rows_in state)) (body_sheets state)
        (subst (λ o. Covers (slice_index_or pages 0 (length (rows_in state))) (sheets_in (rows_on state.paper) state.lines (rows_in state) (layout_in state).breaks o) (length (rows_in state))) (sym is)
        (numbered-covers (rows_in state) 1 pages)) order
