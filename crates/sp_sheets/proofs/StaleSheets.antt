-- Sheets that stay where others are set anew.
use Rattle.std.proofs.Common.{◌≡◌, ℕ, zero, suc, ◌+◌, ◌-◌, ◌^◌, ◌<◌, ◌≤◌, min, List, [], ◌∷◌, ◌++◌, length, take, drop, map, get_or, sym, ap, ap₂, ◌∙◌, subst, inl, inr, arith, append-nil, take-append-drop, take_all, take_at, drop_at, take-take, length-take, length-take-le, length-drop, All}
use Rattle.std.proofs.lemmas.Bool.{cases_lt}
use Rattle.std.proofs.lemmas.List.{drop_all, length-map}
use Rattle.std.proofs.lemmas.List.Elements.{All-nil, All-cons, All-head, All-tail, All-drop}
use Rattle.spec_labels.specs.PageRecords.{SheetOf}
use Rattle.sp_gap.specs.Moves.{shifted}
use Rattle.sp_reflow.specs.Starts.{Taken}
use Rattle.sp_reflow.specs.Updates.{with_taken, CanPutBack, AreStanding, AreStandingBehind}
use Rattle.sp_sheets.specs.declared.numbered.Stale.{Stale}
use Rattle.sp_sheets.specs.Numbered.{marked_sheet, marked_sheets, moved_sheet, numbered_sheet, unmarked_sheets, AreMoved, AreMovedOutside, AreUnmarked, CanLessen, CanMoveSheet}
use Rattle.sp_sheets.proofs.SheetMoves.{length-marked}
use Rattle.sp_sheets.proofs.UnmarkedLaws.{marked-unmarked, moved-unmarked, length-unmarked, take-unmarked, drop-unmarked, last-ends}

-- Sheets that are moved to others are as many.
moved-length : (less more : ℕ) (ones others : List SheetOf) (i : ℕ) → i < length ones → AreMoved less more (drop i ones) (drop i others) → length ones ≡ length others
moved-length less more ones others i inside moved =
    omega (arith, inside, ap length moved.same, length-map (drop i ones) (moved_sheet less more), length-drop i ones, length-drop i others)

-- Sheets beyond those of the pages go.
pub moved-cut : (sheets others : List SheetOf) (stale : Stale) (n : ℕ) → AreMovedOutside sheets others stale → n ≡ length others → AreMovedOutside (take n sheets) others stale
moved-cut sheets others stale n same is =
    let from = stale.from in
    let count = length-take n sheets in
    let begin : from ≤ n = omega (arith, ap length same.before, same.within, is, length-take from sheets, length-take from others) in
    record {
      order = same.order;
      within = omega (arith, count, begin, same.within);
      before = take-take from n sheets begin ∙ same.before;
      behind = λ inside. (
          let there : stale.to < length sheets = omega (arith, inside, count) in
          let rest = same.behind there in
          let all : take n sheets ≡ sheets = take_all n sheets (omega (arith, is, moved-length stale.less stale.more sheets others stale.to there rest)) in
          subst (λ those. AreMoved stale.less stale.more (drop stale.to those) (drop stale.to others)) (sym all) rest);
    }

-- At the first place to be set anew those before it stand.
pub begun : (sheets others : List SheetOf) (stale : Stale) → AreMovedOutside sheets others stale → sheets ≡ take stale.from others ++ drop stale.from sheets
begun sheets others stale same = sym (take-append-drop stale.from sheets) ∙ ap (λ front. front ++ drop stale.from sheets) same.before

-- Sheets of rows that are places of memory, to which others are moved: so these can be moved.
moved-fit : (less more : ℕ) (sheets others : List SheetOf) → AreMoved less more sheets others → All (λ (it : SheetOf). (it.start < 2 ^ 64) × (it.end < 2 ^ 64)) others → All (CanMoveSheet less more) sheets
moved-fit less more [] others moved small = All-nil (CanMoveSheet less more)
moved-fit less more (sheet ∷ sheets) [] moved small = absurd (omega (arith, ap length moved.same))
moved-fit less more (sheet ∷ sheets) (other ∷ others) moved small =
    let Small : SheetOf → Type 0 = λ it. (it.start < 2 ^ 64) × (it.end < 2 ^ 64) in
    let low = All-head (CanLessen less) sheet sheets moved.can in
    let here = All-head Small other others small in
    let one : moved_sheet less more sheet ≡ other = cc in
    let rest : map (moved_sheet less more) sheets ≡ others = cc in
    All-cons (CanMoveSheet less more) sheet sheets
    (record {
      start = record { from = low.start; fits = omega (arith, here.0, ap (λ (it : SheetOf). it.start) one) };
      end = record { from = low.end; fits = omega (arith, here.1, ap (λ (it : SheetOf). it.end) one) };
    })
    (moved-fit less more sheets others (record { can = All-tail (CanLessen less) sheet sheets moved.can; same = rest }) (All-tail Small other others small))

-- The rows of sheets are places of memory.
marked-small : (marks : List ℕ) (number : ℕ) (pages : List ℕ) → length marks < 2 ^ 64 → All (λ (page : ℕ). page < length marks) pages
    → All (λ (it : SheetOf). (it.start < 2 ^ 64) × (it.end < 2 ^ 64)) (marked_sheets marks number pages)
marked-small marks number [] few within = All-nil (λ (it : SheetOf). (it.start < 2 ^ 64) × (it.end < 2 ^ 64))
marked-small marks number (page ∷ later) few within =
    let Within : ℕ → Type 0 = λ page. page < length marks in
    let here = All-head Within page later within in
    let rest = All-tail Within page later within in
    All-cons (λ (it : SheetOf). (it.start < 2 ^ 64) × (it.end < 2 ^ 64)) (marked_sheet marks number page (get_or later 0 (length marks))) (marked_sheets marks (number + 1) later)
    (omega (arith, here, few), end-small marks later few rest) (marked-small marks (number + 1) later few rest)
  where
    end-small : (marks later : List ℕ) → length marks < 2 ^ 64 → All (λ (page : ℕ). page < length marks) later → get_or later 0 (length marks) < 2 ^ 64
    end-small marks [] few within = few
    end-small marks (page ∷ later) few within = (let here = All-head (λ (page : ℕ). page < length marks) page later within in omega (arith, here, few))

later-same : (olds others sheets : List SheetOf) (place : ℕ) → place ≤ length others → sheets ≡ take place others ++ drop place olds
    → (take place sheets ≡ take place others) × (drop place sheets ≡ drop place olds)
later-same olds others sheets place inside so_far =
    let front = length-take-le place others inside in (
      ap (take place) so_far ∙ take_at (take place others) (drop place olds) place front,
      ap (drop place) so_far ∙ drop_at (take place others) (drop place olds) place front,
    )

-- The later ones can be moved.
pub can-move : (marks pages : List ℕ) (olds sheets : List SheetOf) (stale : Stale) (place : ℕ) → AreMovedOutside olds (marked_sheets marks 1 pages) stale → place ≡ min stale.to (length olds) → length olds ≤ length pages
    → length marks < 2 ^ 64 → All (λ (page : ℕ). page < length marks) pages → sheets ≡ take place (marked_sheets marks 1 pages) ++ drop place olds → All (CanMoveSheet stale.less stale.more) (drop place sheets)
can-move marks pages olds sheets stale place same place_is fewer few within so_far =
    let all = marked_sheets marks 1 pages in
    let back = (later-same olds all sheets place (omega (arith, place_is, fewer, length-marked marks 1 pages)) so_far).1 in
    subst (All (CanMoveSheet stale.less stale.more)) (sym back)
    (elim (cases_lt stale.to (length olds)) [
      | inl inside ↦
          let here : place ≡ stale.to = omega (arith, place_is, inside) in
          let Small : SheetOf → Type 0 = λ it. (it.start < 2 ^ 64) × (it.end < 2 ^ 64) in
          subst (λ n. All (CanMoveSheet stale.less stale.more) (drop n olds)) (sym here)
          (moved-fit stale.less stale.more (drop stale.to olds) (drop stale.to all) (same.behind inside) (All-drop Small stale.to all (marked-small marks 1 pages few within)))
      | inr behind ↦
          let none : drop place olds ≡ [] = drop_all place olds (omega (arith, place_is, behind)) in
          subst (All (CanMoveSheet stale.less stale.more)) (sym none) (All-nil (CanMoveSheet stale.less stale.more))
    ])

-- Once the later ones are moved all are those of the pages.
pub ended : (olds others sheets done : List SheetOf) (stale : Stale) (place : ℕ) → AreMovedOutside olds others stale → place ≡ min stale.to (length olds) → length olds ≤ length others
    → sheets ≡ take place others ++ drop place olds → done ≡ take place sheets ++ map (moved_sheet stale.less stale.more) (drop place sheets) → done ≡ take (length olds) others
ended olds others sheets done stale place same place_is fewer so_far is =
    let parts = later-same olds others sheets place (omega (arith, place_is, fewer)) so_far in
    let move = moved_sheet stale.less stale.more in
    let both : done ≡ take place others ++ map move (drop place olds) = is ∙ ap₂ (λ front back. front ++ map move back) parts.0 parts.1 in
    elim (cases_lt stale.to (length olds)) [
      | inl inside ↦
          let here : place ≡ stale.to = omega (arith, place_is, inside) in
          let rest = same.behind inside in
          both
          ∙ ap (λ n. take n others ++ map move (drop n olds)) here
          ∙ ap (λ back. take stale.to others ++ back) rest.same
          ∙ take-append-drop stale.to others
          ∙ sym (take_all (length olds) others (omega (arith, moved-length stale.less stale.more olds others stale.to inside rest)))
      | inr behind ↦
          let here : place ≡ length olds = omega (arith, place_is, behind) in
          let none : drop place olds ≡ [] = drop_all place olds (omega (arith, here)) in
          both ∙ ap (λ back. take place others ++ map move back) none ∙ append-nil (take place others) ∙ ap (λ n. take n others) here
    ]

-- Where pages from a place on were exchanged, the sheets before the one before it stay.
pub stays-before : (sheets : List SheetOf) (pages olds : List ℕ) (rows before from : ℕ) → AreUnmarked sheets olds → AreStanding pages olds before → from ≡ before - 1
    → (from ≤ length sheets) × (take from sheets ≡ take from (unmarked_sheets rows 1 pages))
stays-before sheets pages olds rows zero from are standing is =
    let none : from ≡ 0 = omega (arith, is) in
    (omega (arith, none), ap (λ n. take n sheets) none ∙ ap (λ n. take n (unmarked_sheets rows 1 pages)) (sym none))
stays-before sheets pages olds rows (suc i) from are standing is =
    let place : from ≡ i = omega (arith, is) in
    let count : length sheets ≡ length olds = ap length are.are ∙ length-unmarked are.rows 1 olds in (
      omega (arith, place, count, standing.within_others),
      ap₂ (λ n (those : List SheetOf). take n those) place are.are
          ∙ sym (take-unmarked rows are.rows 1 i pages olds (omega (arith, standing.within)) (omega (arith, standing.within_others)) standing.same)
          ∙ ap (λ n. take n (unmarked_sheets rows 1 pages)) (sym place),
    )

last-is : (rows : ℕ) (pages : List ℕ) (sheets : List SheetOf) (other : SheetOf) → sheets ≡ unmarked_sheets rows 1 pages → 0 < length sheets → (get_or sheets (length sheets - 1) other).end ≡ rows
last-is rows [] sheets other is some = absurd (omega (arith, some, ap length is))
last-is rows (page ∷ later) sheets other is some =
    let place : length sheets - 1 ≡ length later = omega (arith, ap length is, length-unmarked rows 1 (page ∷ later)) in
    ap₂ (λ (those : List SheetOf) n. (get_or those n other).end) is place ∙ last-ends rows 1 page later other

-- Where the last sheet ends behind the last row, moved, those behind the exchanged pages are moved.
pub stays-behind : (sheets : List SheetOf) (pages olds : List ℕ) (rows less more to : ℕ) → AreUnmarked sheets olds → AreStandingBehind pages olds less more to → less ≤ rows
    → ((other : SheetOf) → (get_or sheets (length sheets - 1) other).end ≡ shifted less more rows) → to < length sheets → AreMoved more less (drop to sheets) (drop to (unmarked_sheets rows 1 pages))
stays-behind sheets pages olds rows less more to are standing few ends inside =
    let other = numbered_sheet 0 0 0 0 in
    let same : are.rows ≡ shifted less more rows = sym (last-is are.rows olds sheets other are.are (omega (arith, inside))) ∙ ends other in
    let those : drop to sheets ≡ unmarked_sheets (shifted less more rows) (1 + to) (map (shifted less more) (drop to pages)) =
    ap (drop to) are.are
    ∙ ap (λ n. drop to (unmarked_sheets n 1 olds)) same
    ∙ drop-unmarked (shifted less more rows) 1 to olds
    ∙ ap (unmarked_sheets (shifted less more rows) (1 + to)) standing.same in
    subst (λ (xs : List SheetOf). AreMoved more less xs (drop to (unmarked_sheets rows 1 pages))) (sym those)
    (subst (AreMoved more less (unmarked_sheets (shifted less more rows) (1 + to) (map (shifted less more) (drop to pages)))) (sym (drop-unmarked rows 1 to pages))
    (moved-unmarked rows less more (1 + to) (drop to pages) few standing.can))

-- Between these places are all that aren't those of the pages, where no row is marked.
pub stale-between : (sheets : List SheetOf) (marks pages olds : List ℕ) (before : ℕ) (stale : Stale) → All (λ (mark : ℕ). mark ≡ 0) marks → AreUnmarked sheets olds → AreStanding pages olds before → stale.from ≡ before - 1
    → ((stale.from ≤ length sheets) → stale.from ≤ stale.to) → (stale.to < length sheets → AreMoved stale.less stale.more (drop stale.to sheets) (drop stale.to (unmarked_sheets (length marks) 1 pages)))
    → AreMovedOutside sheets (marked_sheets marks 1 pages) stale
stale-between sheets marks pages olds before stale none are standing is order behind =
    let front = stays-before sheets pages olds (length marks) before stale.from are standing is in
    let same = sym (marked-unmarked marks 1 pages none) in
    record {
      order = order front.0;
      within = front.0;
      before = front.1 ∙ ap (take stale.from) same;
      behind = λ inside. subst (λ (xs : List SheetOf). AreMoved stale.less stale.more (drop stale.to sheets) (drop stale.to xs)) same (behind inside);
    }

-- The same of sheets, marks and pages that are these.
pub stale-same : (given sheets shown : List SheetOf) (marks those starts pages : List ℕ) (swapped : Taken) (Unmarked : Type 0) (stale : Stale) → given ≡ sheets → sheets ≡ shown → marks ≡ those → starts ≡ pages
    → CanPutBack pages swapped → (Unmarked → AreUnmarked shown (with_taken pages swapped))
    → ((others : List ℕ) → CanPutBack others swapped → (Unmarked → AreUnmarked given (with_taken others swapped)) → AreMovedOutside given (marked_sheets marks 1 others) stale)
    → AreMovedOutside sheets (marked_sheets those 1 starts) stale
stale-same given sheets shown marks those starts pages swapped Unmarked stale given_is shown_is marks_are starts_are can unmarked outside =
    let first = outside pages can (λ it. subst (λ xs. AreUnmarked xs (with_taken pages swapped)) (sym (given_is ∙ shown_is)) (unmarked it)) in
    let second : AreMovedOutside given (marked_sheets those 1 starts) stale = subst (λ xs. AreMovedOutside given xs stale) (ap₂ (λ ms ps. marked_sheets ms 1 ps) marks_are (sym starts_are)) first in
    subst (λ xs. AreMovedOutside xs (marked_sheets those 1 starts) stale) given_is second
