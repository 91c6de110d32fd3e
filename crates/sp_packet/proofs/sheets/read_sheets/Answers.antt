use Rattle.std.proofs.Common.{sym, subst, ◌∙◌, arith}
use Rattle.sp_packet.specs.Collating.{IsNotRead}
use Rattle.sp_packet.proofs.AddLaws.{read-step, not-read}
use Rattle.sp_packet.proofs.sheets.read_sheets.Goals as goal

pub returns-in-Err-clause-refused : goal.returns-in-Err-clause-refused
returns-in-Err-clause-refused c =
    subst (IsNotRead c.args.file c.args.bytes.now) (sym c.fault_of.ensures)
    (not-read c.in-Err.fault c.args.file c.loop-rest.place c.loop-rest.list c.args.bytes.now c.loop-rest.rest.now c.in-Some.piece.now c.in-Some.behind.now
    c.in-Some.ensures.0 c.in-Err.ensures.refused c.loop-rest.invariant.reads)

pub loop-rest-preserved : goal.loop-rest-preserved
loop-rest-preserved c =
    let cut = c.in-Some.ensures.0 in
    let shorter = cut.shorter in
    record {
      reads = sym (read-step c.loop-rest.place c.loop-rest.list c.add.new.self c.loop-rest.rest.now c.in-Some.piece.now c.in-Some.behind.now cut c.in_default-add.ensures.added) ∙ c.loop-rest.invariant.reads;
      small = (let small = c.loop-rest.invariant.small in omega (arith, small, shorter));
    }
