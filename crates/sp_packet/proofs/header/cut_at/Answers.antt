use Rattle.std.proofs.Common.{◌==◌, ◌+◌, take, sym, subst}
use Rattle.std.proofs.lemmas.List.{take_rest}
use Rattle.sp_packet.specs.Cuts.{IsCut}
use Rattle.sp_packet.proofs.CutLaws.{cut-some, cut-none}
use Rattle.sp_packet.proofs.header.cut_at.Goals as goal

pub returns-in-Some : goal.returns-in-Some
returns-in-Some c =
    let bytes = c.args.bytes.now in
    let place = c.in-Some.place in
    subst (IsCut (λ b. b == c.args.byte) bytes (take place bytes)) (sym (take_rest bytes (place + 1))) (cut-some (λ b. b == c.args.byte) bytes place (sym c.in-Some.ensures))

pub returns-in-None : goal.returns-in-None
returns-in-None c = cut-none (λ b. b == c.args.byte) c.args.bytes.now (sym c.in-None.ensures)
