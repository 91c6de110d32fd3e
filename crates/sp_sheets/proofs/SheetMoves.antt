-- Sheets of pages, made one by one in a list.
use Rattle.std.proofs.Common.{◌≡◌, ℕ, zero, suc, ◌+◌, ◌-◌, ◌<◌, ◌≤◌, max, List, [], ◌∷◌, ◌++◌, length, take, drop, get_or, set, refl, sym, ap, ap₂, ◌∙◌, arith, add-one, All}
use Rattle.std.specs.Prelude.{fold, slice_range}
use Rattle.std.proofs.lemmas.List.{take_more}
use Rattle.std.proofs.lemmas.List.Elements.{All-head, All-tail, All-take, All-drop}
use Rattle.spec_labels.specs.PageRecords.{SheetOf}
use Rattle.sp_sheets.specs.Numbered.{marked_sheet, marked_sheets}

pub length-marked : (marks : List ℕ) (number : ℕ) (pages : List ℕ) → length (marked_sheets marks number pages) ≡ length pages
length-marked marks number [] = refl
length-marked marks number (page ∷ later) = ap suc (length-marked marks (number + 1) later)

-- The sheet of the page at a place.
marked-at : (marks : List ℕ) (number place : ℕ) (pages : List ℕ) (other : SheetOf) → place < length pages
    → get_or (marked_sheets marks number pages) place other ≡ marked_sheet marks (number + place) (get_or pages place 0) (get_or pages (place + 1) (length marks))
marked-at marks number place [] other inside = absurd (omega (arith, inside))
marked-at marks number zero (page ∷ later) other inside = ap (λ n. marked_sheet marks n page (get_or later 0 (length marks))) (omega arith)
marked-at marks number (suc place) (page ∷ later) other inside =
    let behind : suc (place + 1) ≡ suc place + 1 = omega arith in
    marked-at marks (number + 1) place later other (omega (arith, inside))
    ∙ ap (λ n. marked_sheet marks n (get_or later place 0) (get_or later (place + 1) (length marks))) (omega arith)
    ∙ ap (λ n. marked_sheet marks (number + suc place) (get_or later place 0) (get_or (page ∷ later) n (length marks))) behind

-- The sheet of the next page is that of the list.
next-is : (marks : List ℕ) (place start end : ℕ) (pages : List ℕ) (it : SheetOf) → place < length pages → start ≡ get_or pages place 0 → end ≡ get_or pages (place + 1) (length marks)
    → it ≡ marked_sheet marks (place + 1) start end → it ≡ get_or (marked_sheets marks 1 pages) place it
next-is marks place start end pages it inside start_is end_is is =
    is ∙ ap₂ (marked_sheet marks (place + 1)) start_is end_is ∙ ap (λ n. marked_sheet marks n (get_or pages place 0) (get_or pages (place + 1) (length marks))) (omega arith)
    ∙ sym (marked-at marks 1 place pages it inside)

-- An item of one list comes into another, behind those before it.
set-next : (ones others : List SheetOf) (place : ℕ) (other : SheetOf) → place < length ones → place < length others
    → set (take place ones ++ drop place others) place (get_or ones place other) ≡ take (suc place) ones ++ drop (suc place) others
set-next [] others place other inside also = absurd (omega (arith, inside))
set-next (one ∷ ones) [] place other inside also = absurd (omega (arith, also))
set-next (one ∷ ones) (it ∷ others) zero other inside also = refl
set-next (one ∷ ones) (it ∷ others) (suc place) other inside also = ap (λ those. one ∷ those) (set-next ones others place other (omega (arith, inside)) (omega (arith, also)))

-- One sheet more is renewed.
pub renewed-next : (marks : List ℕ) (place start end : ℕ) (pages : List ℕ) (olds sheets : List SheetOf) (it : SheetOf) → place < length olds → length olds ≤ length pages
    → sheets ≡ take place (marked_sheets marks 1 pages) ++ drop place olds → start ≡ get_or pages place 0 → end ≡ get_or pages (place + 1) (length marks)
    → it ≡ marked_sheet marks (place + 1) start end → set sheets place it ≡ take (place + 1) (marked_sheets marks 1 pages) ++ drop (place + 1) olds
renewed-next marks place start end pages olds sheets it inside fewer so_far start_is end_is is =
    let all = marked_sheets marks 1 pages in
    ap₂ (λ (those : List SheetOf) (one : SheetOf). set those place one) so_far (next-is marks place start end pages it (omega (arith, inside, fewer)) start_is end_is is)
    ∙ set-next all olds place it (omega (arith, inside, fewer, length-marked marks 1 pages)) inside
    ∙ ap (λ n. take n all ++ drop n olds) (sym (add-one place))

-- One sheet more is added.
pub added-next : (marks : List ℕ) (place start end : ℕ) (pages : List ℕ) (sheets : List SheetOf) (it : SheetOf) → place < length pages → sheets ≡ take place (marked_sheets marks 1 pages)
    → start ≡ get_or pages place 0 → end ≡ get_or pages (place + 1) (length marks) → it ≡ marked_sheet marks (place + 1) start end → sheets ++ it ∷ [] ≡ take (place + 1) (marked_sheets marks 1 pages)
added-next marks place start end pages sheets it inside so_far start_is end_is is =
    ap₂ (λ (those : List SheetOf) (one : SheetOf). those ++ one ∷ []) so_far (next-is marks place start end pages it inside start_is end_is is)
    ∙ sym (take_more (marked_sheets marks 1 pages) place it (omega (arith, inside, length-marked marks 1 pages)))

fold-none : (marks : List ℕ) → All (λ (mark : ℕ). mark ≡ 0) marks → fold max 0 marks ≡ 0
fold-none [] none = refl
fold-none (mark ∷ marks) none =
    let here = All-head (λ (m : ℕ). m ≡ 0) mark marks none in
    ap (λ m. fold max m marks) (omega (arith, here)) ∙ fold-none marks (All-tail (λ (m : ℕ). m ≡ 0) mark marks none)

-- Rows without marks have no round.
pub greatest-none : (marks : List ℕ) (start end : ℕ) → All (λ (mark : ℕ). mark ≡ 0) marks → fold max 0 (slice_range marks start end) ≡ 0
greatest-none marks start end none = fold-none (slice_range marks start end) (All-take (λ (m : ℕ). m ≡ 0) (end - start) (drop start marks) (All-drop (λ (m : ℕ). m ≡ 0) start marks none))
