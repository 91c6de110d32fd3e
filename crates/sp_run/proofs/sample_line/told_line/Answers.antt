use Rattle.sp_run.proofs.ToldLines.{made, told}
use Rattle.sp_run.proofs.sample_line.told_line.Goals as goal

pub returns : goal.returns
returns c =
    told c.args.rooms c.from.result c.args.lines c.args.sheets c.args.round c.from-2.result c.args.digest.now c.as_bytes.result.now _
    (made c.from.result c.args.lines c.args.sheets c.from-2.result c.as_bytes.result.now c.new-line.result.items _ _ _ _ _ _ _ c.new-line.ensures.items c.in_ok-add_numbered.ensures c.in_ok-add_numbered-2.ensures c.in_ok-add_numbered-3.ensures c.in_ok-add_numbered-4.ensures
    c.in_ok-extend_from_slice.ensures.items c.in_ok-extend_from_slice-2.ensures.items c.in_ok-extend_from_slice-3.ensures.items)
    c.from.ensures c.from-2.ensures c.as_bytes.ensures.value
