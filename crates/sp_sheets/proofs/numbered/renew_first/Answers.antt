use Rattle.std.proofs.Common.{◌≡◌, ◌+◌, ◌<◌, ◌++◌, ◌∙◌, min, refl, length, take, drop, map, ap, subst, arith, All}
use Rattle.std.specs.Prelude.{slice_index_or}
use Rattle.sp_sheets.specs.Numbered.{marked_sheets, moved_sheet, numbered_sheet, CanMoveSheet}
use Rattle.sp_sheets.proofs.SheetMoves.{renewed-next, length-marked}
use Rattle.sp_sheets.proofs.StaleSheets.{begun, can-move, ended}
use Rattle.sp_sheets.proofs.numbered.renew_first.Goals as goal

pub loop-place-init : goal.loop-place-init
loop-place-init c = (begun c.args.sheets.now.items (marked_sheets c.args.marks.now.items 1 c.args.pages.now) c.args.stale c.requires.stale, refl, refl)

pub loop-place-preserved : goal.loop-place-preserved
loop-place-preserved c =
    let so_far = c.loop-place.invariant in
    let place = c.loop-place.place in
    let inside : place < length c.args.sheets.now.items = omega (arith, c.loop-place-test.true, c.min-to.ensures, c.len.ensures, c.args.sheets.now.ok.0) in (
      renewed-next c.args.marks.now.items place _ _ c.args.pages.now c.args.sheets.now.items c.loop-place.sheets.items c.renew_sheet.new.sheet inside
          (omega (arith, c.requires.fewer, c.args.sheets.now.ok.0)) so_far.0 refl
          (c.page_behind-end.ensures.value ∙ ap (slice_index_or c.args.pages.now (place + 1)) c.len-rows.ensures.len) (c.renew_sheet.ensures ∙ ap (numbered_sheet _ _ _) c.round_of-round.ensures),
      so_far.1,
      so_far.2,
    )

pub move_sheets-requires-clause-can : goal.move_sheets-requires-clause-can
move_sheets-requires-clause-can c =
    let olds = c.args.sheets.now in
    let stale = c.args.stale in
    let is = c.requires.stale in
    let end : c.loop-place.place ≡ min stale.to (length olds.items) = omega (arith, c.loop-place-test.false, c.loop-place.auto.place-end, c.min-to.ensures, c.len.ensures, olds.ok.0, is.order, is.within) in
    let same : c.loop-place.place ≡ c.min-to.result = omega (arith, end, c.min-to.ensures, c.len.ensures, olds.ok.0) in
    subst (λ n. All (CanMoveSheet stale.less stale.more) (drop n c.loop-place.sheets.items)) same
    (can-move c.args.marks.now.items c.args.pages.now olds.items c.loop-place.sheets.items stale c.loop-place.place is end (omega (arith, c.requires.fewer, olds.ok.0))
    (omega (arith, c.len-rows.ensures.enough, c.len-rows.ensures.small)) c.requires.within c.loop-place.invariant.0)

pub returns-clause-sheets : goal.returns-clause-sheets
returns-clause-sheets c =
    let olds = c.args.sheets.now in
    let stale = c.args.stale in
    let is = c.requires.stale in
    let sheets = c.loop-place.sheets.items in
    let marks = c.args.marks.now.items in
    let all = marked_sheets marks 1 c.args.pages.now in
    let done = c.move_sheets.new.sheets.items in
    let end : c.loop-place.place ≡ min stale.to (length olds.items) = omega (arith, c.loop-place-test.false, c.loop-place.auto.place-end, c.min-to.ensures, c.len.ensures, olds.ok.0, is.order, is.within) in
    let same : c.min-to.result ≡ c.loop-place.place = omega (arith, end, c.min-to.ensures, c.len.ensures, olds.ok.0) in
    let moved : done ≡ take c.loop-place.place sheets ++ map (moved_sheet stale.less stale.more) (drop c.loop-place.place sheets) =
    subst (λ n. done ≡ take n sheets ++ map (moved_sheet stale.less stale.more) (drop n sheets)) same c.move_sheets.ensures.sheets in
    ended olds.items all sheets done stale c.loop-place.place is end (omega (arith, c.requires.fewer, olds.ok.0, length-marked marks 1 c.args.pages.now)) c.loop-place.invariant.0 moved
    ∙ ap (λ n. take n all) (omega (arith, olds.ok.0))
