use Rattle.std.proofs.Common.{◌<◌, length, arith}
use Rattle.std.proofs.lemmas.List.{get_or_default}
use Rattle.sp_text.proofs.Relabels.{relabelled-more}
use Rattle.sp_text.proofs.sides.relabel_lines.Goals as goal

pub loop-at-preserved : goal.loop-at-preserved
loop-at-preserved c =
    let so_far = c.loop-at.invariant in
    let at = c.loop-at.at in
    let inside : at < length c.args.lines.now.items = omega (arith, c.loop-at-test.true, c.len-at-end.ensures, c.args.lines.now.ok.0) in
    let id_is = get_or_default c.args.ids.now at 0 _ (omega (arith, inside, c.requires.ids)) in
    let mark_is = get_or_default c.args.marks.now at 0 _ (omega (arith, inside, c.requires.marks)) in (
      relabelled-more c.args.lines.now.items c.loop-at.lines.items c.args.ids.now c.args.marks.now at _ _ c.index_mut.result.now c.relabel_line.new.line c.requires.ids c.requires.marks inside so_far.0 c.index_mut.ensures.value id_is mark_is c.relabel_line.ensures,
      so_far.1,
      so_far.2,
    )
