use Rattle.std.proofs.Common.{sym, ap, ◌∙◌, ◌-◌, None, Some, arith}
use Rattle.std.specs.Option.{option_copied}
use Rattle.sp_refill.proofs.NextBlocks.{got, last-found}
use Rattle.sp_refill.proofs.blocks.last_before.Goals as goal

pub returns-in-Some : goal.returns-in-Some
returns-in-Some c =
    let (low, same) = c.loop-place.invariant in
    let stanzas = c.args.stanzas.now.stanzas in
    let s = c.stanza.result.now in
    sym (same ∙ last-found stanzas c.loop-place.place s (Some c.in-Some.block.now) c.loop-place-test.true (omega (arith, low, c.requires)) (got stanzas (c.loop-place.place - 1) s c.stanza.ensures)
    (sym c.last_one.ensures ∙ ap option_copied c.in-Some.is))

pub loop-place-preserved : goal.loop-place-preserved
loop-place-preserved c =
    let (low, same) = c.loop-place.invariant in
    let stanzas = c.args.stanzas.now.stanzas in
    let s = c.stanza.result.now in (
      omega (arith, low),
      same ∙ last-found stanzas c.loop-place.place s None c.loop-place-test.true (omega (arith, low, c.requires)) (got stanzas (c.loop-place.place - 1) s c.stanza.ensures)
          (sym c.last_one.ensures ∙ ap option_copied c.in_default.is),
    )
