-- The sheets of pages where no row is marked.
use Rattle.std.proofs.Common.{◌≡◌, ℕ, zero, suc, ◌+◌, ◌<◌, ◌≤◌, None, List, [], ◌∷◌, length, map, take, drop, get_or, refl, sym, ap, ap₂, ◌∙◌, arith, All}
use Rattle.std.proofs.lemmas.List.Elements.{All-nil, All-cons, All-head, All-tail}
use Rattle.sp_gap.specs.Moves.{shifted, CanShift}
use Rattle.spec_labels.specs.PageRecords.{SheetOf}
use Rattle.spec_state.specs.State.{State}
use Rattle.spec_state.specs.StateSheets.{body_sheets, layout_in, numbered_sheets, rows_in}
use Rattle.spec_state.specs.Headings.{heading_labels}
use Rattle.spec_state.specs.Keeping.{IsWhole}
use Rattle.spec_sheets.proofs.ShownLaws.{shown_rows-marks}
use Rattle.spec_locked_pages.specs.Segments.{pages_of}
use Rattle.sp_layout.specs.Bodies.{marks_in}
use Rattle.sp_sheets.specs.Numbered.{mark_of, numbered_sheet, marked_sheets, unmarked_sheets, AreMoved, AreUnmarked, CanLessen}
use Rattle.sp_sheets.proofs.MarkedLaws.{marked_sheets-numbered, rows-unmarked}
use Rattle.sp_sheets.proofs.SheetMoves.{greatest-none}

-- Where no row is marked, sheets by the marks of rows are these.
pub marked-unmarked : (marks : List ℕ) (number : ℕ) (pages : List ℕ) → All (λ (mark : ℕ). mark ≡ 0) marks → marked_sheets marks number pages ≡ unmarked_sheets (length marks) number pages
marked-unmarked marks number [] none = refl
marked-unmarked marks number (page ∷ later) none =
    ap₂ (λ (sheet : SheetOf) (sheets : List SheetOf). sheet ∷ sheets)
    (ap (numbered_sheet number page (get_or later 0 (length marks))) (greatest-none marks page (get_or later 0 (length marks)) none))
    (marked-unmarked marks (number + 1) later none)

pub length-unmarked : (rows number : ℕ) (pages : List ℕ) → length (unmarked_sheets rows number pages) ≡ length pages
length-unmarked rows number [] = refl
length-unmarked rows number (page ∷ later) = ap suc (length-unmarked rows (number + 1) later)

-- A list that begins as another has its first item.
first-same : (ones others : List ℕ) (i d e : ℕ) → 0 < length ones → 0 < length others → take (suc i) ones ≡ take (suc i) others → get_or ones 0 d ≡ get_or others 0 e
first-same [] others i d e some also same = absurd (omega (arith, some))
first-same (one ∷ ones) [] i d e some also same = absurd (omega (arith, also))
first-same (one ∷ ones) (other ∷ others) i d e some also same = cc

-- Sheets before a place are those of the pages up to it: the last of them ends where that page begins.
pub take-unmarked : (rows other number i : ℕ) (pages others : List ℕ) → i < length pages → i < length others → take (suc i) pages ≡ take (suc i) others
    → take i (unmarked_sheets rows number pages) ≡ take i (unmarked_sheets other number others)
take-unmarked rows other number zero pages others inside also same = refl
take-unmarked rows other number (suc i) [] others inside also same = absurd (omega (arith, inside))
take-unmarked rows other number (suc i) (one ∷ ones) [] inside also same = absurd (omega (arith, also))
take-unmarked rows other number (suc i) (one ∷ ones) (it ∷ others) inside also same =
    let start : one ≡ it = cc in
    let rest : take (suc i) ones ≡ take (suc i) others = cc in
    let end : get_or ones 0 rows ≡ get_or others 0 other = first-same ones others i rows other (omega (arith, inside)) (omega (arith, also)) rest in
    ap₂ (λ (sheet : SheetOf) (sheets : List SheetOf). sheet ∷ sheets)
    (ap₂ (λ from to. numbered_sheet number from to 0) start end)
    (take-unmarked rows other (number + 1) i ones others (omega (arith, inside)) (omega (arith, also)) rest)

-- Sheets from a place on are those of the pages from it on.
pub drop-unmarked : (rows number i : ℕ) (pages : List ℕ) → drop i (unmarked_sheets rows number pages) ≡ unmarked_sheets rows (number + i) (drop i pages)
drop-unmarked rows number zero pages = ap (λ n. unmarked_sheets rows n pages) (omega arith)
drop-unmarked rows number (suc i) [] = refl
drop-unmarked rows number (suc i) (page ∷ later) = drop-unmarked rows (number + 1) i later ∙ ap (λ n. unmarked_sheets rows n (drop i later)) (omega arith)

next-shifted : (rows less more : ℕ) (later : List ℕ) → get_or (map (shifted less more) later) 0 (shifted less more rows) ≡ shifted less more (get_or later 0 rows)
next-shifted rows less more [] = refl
next-shifted rows less more (page ∷ later) = refl

-- Sheets of pages that were moved, and the last row with them, are moved back to those of the pages.
pub moved-unmarked : (rows less more number : ℕ) (pages : List ℕ) → less ≤ rows → All (CanShift less more) pages
    → AreMoved more less (unmarked_sheets (shifted less more rows) number (map (shifted less more) pages)) (unmarked_sheets rows number pages)
moved-unmarked rows less more number [] few can = record { can = All-nil (CanLessen more); same = refl }
moved-unmarked rows less more number (page ∷ later) few can =
    let here = All-head (CanShift less more) page later can in
    let those = All-tail (CanShift less more) page later can in
    let rest = moved-unmarked rows less more (number + 1) later few those in
    let next = get_or later 0 rows in
    let low : less ≤ next = next-low rows less more later few those in
    let end = next-shifted rows less more later in
    let sheet = numbered_sheet number (shifted less more page) (get_or (map (shifted less more) later) 0 (shifted less more rows)) 0 in
    record {
      can = All-cons (CanLessen more) sheet (unmarked_sheets (shifted less more rows) (number + 1) (map (shifted less more) later))
          (record { start = omega arith; end = omega (arith, end) }) rest.can;
      same = ap₂ (λ (one : SheetOf) (sheets : List SheetOf). one ∷ sheets)
          (ap₂ (λ from to. numbered_sheet number from to 0) (let e : shifted more less (shifted less more page) ≡ page = omega (arith, here.from) in e)
          (let e : shifted more less (get_or (map (shifted less more) later) 0 (shifted less more rows)) ≡ next = omega (arith, end, low) in e))
          rest.same;
    }
  where
    next-low : (rows less more : ℕ) (later : List ℕ) → less ≤ rows → All (CanShift less more) later → less ≤ get_or later 0 rows
    next-low rows less more [] few can = few
    next-low rows less more (page ∷ later) few can = (All-head (CanShift less more) page later can).from

-- The last sheet ends behind the last row.
pub last-ends : (rows number page : ℕ) (later : List ℕ) (other : SheetOf) → (get_or (unmarked_sheets rows number (page ∷ later)) (length later) other).end ≡ rows
last-ends rows number page [] other = refl
last-ends rows number page (next ∷ later) other = last-ends rows (number + 1) next later other

-- In a state of round 0 whose pages aren't locked, the sheets are these.
pub body-unmarked : (state : State) → IsWhole state → state.pages ≡ None → state.round ≡ 0 → AreUnmarked (body_sheets state) (pages_of state)
body-unmarked state whole unlocked first =
    let marks = marks_in (layout_in state).body in
    let same : map mark_of (rows_in state) ≡ marks = shown_rows-marks state.lines (heading_labels state.lines state.scenes) (layout_in state).body in
    let numbered : body_sheets state ≡ numbered_sheets (rows_in state) 1 (pages_of state) = rw unlocked refl in
    record {
      rows = length marks;
      are = numbered ∙ sym (marked_sheets-numbered (rows_in state) marks (pages_of state) same) ∙ marked-unmarked marks 1 (pages_of state) (rows-unmarked state (layout_in state).body whole refl first);
    }
