use Rattle.std.proofs.Common.{sym, ap, ◌∙◌, None, Some, arith}
use Rattle.std.specs.Option.{option_copied}
use Rattle.sp_refill.proofs.NextBlocks.{last-found}
use Rattle.sp_refill.proofs.blocks.last_of.Goals as goal

pub returns-in-Some : goal.returns-in-Some
returns-in-Some c =
    let (low, same) = c.loop-place.invariant in
    sym (same ∙ last-found c.args.stanzas.now c.loop-place.place c.index-stanzas-place.result (Some c.in-Some.block.now) c.loop-place-test.true low (sym c.index-stanzas-place.is)
    (sym c.last_one.ensures ∙ ap option_copied c.in-Some.is))

pub loop-place-preserved : goal.loop-place-preserved
loop-place-preserved c =
    let (low, same) = c.loop-place.invariant in (
      omega (arith, low),
      same ∙ last-found c.args.stanzas.now c.loop-place.place c.index-stanzas-place.result None c.loop-place-test.true low (sym c.index-stanzas-place.is)
          (sym c.last_one.ensures ∙ ap option_copied c.in_default.is),
    )
