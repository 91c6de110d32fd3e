use Rattle.std.proofs.Common.{sym, ap, ◌∙◌, None, Some, arith}
use Rattle.std.specs.Option.{option_copied}
use Rattle.sp_refill.proofs.NextBlocks.{first-found}
use Rattle.sp_refill.proofs.blocks.first_among.Goals as goal

pub returns-in-Some : goal.returns-in-Some
returns-in-Some c =
    let (low, same) = c.loop-place.invariant in
    sym (same ∙ first-found c.args.stanzas.now.stanzas c.loop-place.place c.args.to c.stanza.result.now (Some c.in-Some.block.now) c.loop-place-test.true c.requires.within c.stanza.ensures
    (sym c.first_one.ensures ∙ ap option_copied c.in-Some.is))

pub loop-place-preserved : goal.loop-place-preserved
loop-place-preserved c =
    let (low, same) = c.loop-place.invariant in (
      omega (arith, c.loop-place-test.true),
      same ∙ first-found c.args.stanzas.now.stanzas c.loop-place.place c.args.to c.stanza.result.now None c.loop-place-test.true c.requires.within c.stanza.ensures
          (sym c.first_one.ensures ∙ ap option_copied c.in_default.is),
    )
