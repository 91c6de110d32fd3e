use Rattle.std.proofs.Common.{◌≡◌, ℕ, ◌-◌, ◌+◌, ◌++◌, All, List, [], ◌∷◌, map, take, drop, refl, sym, ap, ap₂, ◌∙◌, arith, take-append-drop}
use Rattle.std.proofs.lemmas.List.Elements.{All-head, All-tail}
use Rattle.spec_labels.specs.PageRecords.{SheetOf}
use Rattle.sp_sheets.specs.Numbered.{moved_sheet, CanMoveSheet}
use Rattle.sp_sheets.proofs.numbered.move_sheets.Goals as goal

still : (less more : ℕ) (sheets : List SheetOf) → less ≡ more → All (CanMoveSheet less more) sheets → map (moved_sheet less more) sheets ≡ sheets
still less more [] same can = refl
still less more (sheet ∷ sheets) same can =
    let here = All-head (CanMoveSheet less more) sheet sheets can in
    let start : sheet.start - less + more ≡ sheet.start = omega (arith, here.start.from, same) in
    let end : sheet.end - less + more ≡ sheet.end = omega (arith, here.end.from, same) in
    let one : moved_sheet less more sheet ≡ sheet = ap₂ (λ (from to : ℕ). record sheet { start = from; end = to }) start end in
    ap₂ (λ (it : SheetOf) (rest : List SheetOf). it ∷ rest) one (still less more sheets same (All-tail (CanMoveSheet less more) sheet sheets can))

pub returns-else-less-more-clause-sheets : goal.returns-else-less-more-clause-sheets
returns-else-less-more-clause-sheets c =
    let from = c.args.from in
    let items = c.args.sheets.now.items in
    sym (take-append-drop from items) ∙ ap (λ (rest : List SheetOf). take from items ++ rest) (sym (still c.args.less c.args.more (drop from items) c.if-less-more.false c.requires.can))
