use Rattle.std.proofs.Common.{List, length, sym, ap, arith}
use Rattle.std.proofs.lemmas.List.{length-take-le}
use Rattle.spec_script.specs.BlockValues.{BlockOf, StanzaOf}
use Rattle.sp_layout.proofs.speeches.speech_element.Goals as goal

pub slice_bounds-body_blocks-end : goal.slice_bounds-body_blocks-end
slice_bounds-body_blocks-end c =
    let within = c.requires.block c.stanza-own.result.now c.stanza-own.ensures in
    sym (length-take-le c.args.place.block c.deref.result.now (omega (arith, within, ap (λ (s : StanzaOf). length s.blocks) c.own.view_is, ap (λ (bs : List BlockOf). length bs) c.deref.ensures.value)))
