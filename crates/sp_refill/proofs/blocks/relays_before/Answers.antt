use Rattle.std.proofs.Common.{◌+◌, ◌-◌, ◌∙◌, ap, take, drop, arith}
use Rattle.std.specs.Option.{option_copied}
use Rattle.sp_refill.specs.Neighbours.{first_in}
use Rattle.sp_refill.proofs.NextBlocks.{relays-found}
use Rattle.sp_refill.proofs.blocks.relays_before.Goals as goal

pub returns : goal.returns
returns c =
    let stanzas = c.args.stanzas.now.stanzas in
    let at = c.at-at.result in
    let end = at + c.stands.result in
    c.relays_front.ensures
    ∙ relays-found stanzas c.args.swapped.now.stanzas c.args.swapped.now.at c.args.swapped.now.stands at end
    (option_copied c.last_before.result) (option_copied c.first_of.result) (option_copied c.first_among.result) (option_copied c.first_among-2.result)
    c.at-at.ensures (omega (arith, c.at-at.ensures, c.stands.ensures)) c.requires
    c.last_before.ensures (c.first_of.ensures ∙ ap first_in c.stanzas.ensures) c.first_among.ensures
    (c.first_among-2.ensures ∙ ap (λ n. first_in (take (n - end) (drop end stanzas))) c.len-count.ensures.len)
