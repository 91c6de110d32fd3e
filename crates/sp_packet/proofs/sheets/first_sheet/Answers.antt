use Rattle.std.proofs.Common.{◌+◌, length, sym}
use Rattle.std.proofs.lemmas.List.{length-take-le}
use Rattle.sp_packet.proofs.AddLaws.{whole-piece}
use Rattle.sp_packet.proofs.sheets.first_sheet.Goals as goal

pub slice_bounds-result-end : goal.slice_bounds-result-end
slice_bounds-result-end c =
    let whole = whole-piece c.args.bytes.now c.in-Some.piece.now c.in-Some.behind.now c.in-Some.ensures in
    sym (length-take-le (length c.in-Some.piece.now + 1) c.args.bytes.now whole.1)

pub returns-in-Some : goal.returns-in-Some
returns-in-Some c = (c.in-Some.ensures, (whole-piece c.args.bytes.now c.in-Some.piece.now c.in-Some.behind.now c.in-Some.ensures).0)
