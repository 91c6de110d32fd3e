use Rattle.std.proofs.Common.{arith}
use Rattle.sp_packet.proofs.CutLaws.{word-at}
use Rattle.sp_packet.proofs.header.last_word.Goals as goal

pub returns-then-header-at-eq32 : goal.returns-then-header-at-eq32
returns-then-header-at-eq32 c =
    word-at c.args.header.now c.loop-at.at (omega arith) c.loop-at.invariant.low c.if-header-at-eq32.true c.loop-at.invariant.none
