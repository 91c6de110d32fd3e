use Rattle.std.proofs.Common.{◌+◌, ◌<◌, ◌∙◌, refl, length, ap, arith, take_all}
use Rattle.std.specs.Prelude.{slice_index_or}
use Rattle.sp_sheets.specs.Numbered.{marked_sheets, numbered_sheet}
use Rattle.sp_sheets.proofs.SheetMoves.{added-next, length-marked}
use Rattle.sp_sheets.proofs.numbered.add_sheets.Goals as goal

pub loop-place-preserved : goal.loop-place-preserved
loop-place-preserved c =
    let so_far = c.loop-place.invariant in
    let place = c.loop-place.place in
    let inside : place < length c.args.pages.now = omega (arith, c.loop-place-test.true) in (
      c.push_reserved.ensures.items
          ∙ added-next c.args.marks.now.items place _ _ c.args.pages.now c.loop-place.sheets.items c.numbered_sheet.result inside so_far.0 refl
          (c.page_behind-end.ensures.value ∙ ap (slice_index_or c.args.pages.now (place + 1)) c.len.ensures.len)
          (c.numbered_sheet.ensures ∙ ap (numbered_sheet _ _ _) c.round_of-round.ensures),
      c.push_reserved.ensures.capacity ∙ so_far.1,
    )

pub returns : goal.returns
returns c =
    let all = marked_sheets c.args.marks.now.items 1 c.args.pages.now in
    c.loop-place.invariant.0 ∙ take_all c.loop-place.place all (omega (arith, c.loop-place-test.false, length-marked c.args.marks.now.items 1 c.args.pages.now))
