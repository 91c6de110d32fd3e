use Rattle.std.proofs.Common.{◌∙◌, arith}
use Rattle.sp_reread.proofs.Blocks.{blocks_from-next}
use Rattle.sp_reread.proofs.placed.placed_blocks_between.Goals as goal

pub loop-i-preserved : goal.loop-i-preserved
loop-i-preserved c =
    let next = blocks_from-next c.loop-i.placed.items c.args.stanzas.now.stanzas c.loop-i.i c.args.to c.stanza.result.now c.stanza.ensures (omega arith) in
    rw (c.in_ok-add_stanza.ensures, c.lines_before.ensures) (next ∙ c.loop-i.invariant)
