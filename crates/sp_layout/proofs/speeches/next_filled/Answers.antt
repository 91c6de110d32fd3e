use Rattle.std.proofs.Common.{◌<◌, length, inr, ap, arith}
use Rattle.spec_script.specs.BlockValues.{StanzaOf}
use Rattle.sp_layout.proofs.SpeechLaws.{filled}
use Rattle.sp_layout.proofs.speeches.next_filled.Goals as goal

pub returns-then-len-gt0-clause-filled : goal.returns-then-len-gt0-clause-filled
returns-then-len-gt0-clause-filled c =
    let some : 0 < length c.stanza-stanza.result.now.blocks = omega (arith, c.if-len-gt0.true, c.len.ensures, c.stanza.inside.blocks.ok.0, ap (λ (s : StanzaOf). length s.blocks) c.stanza.view_is) in
    inr (filled c.args.stanzas.now.stanzas c.args.from c.loop-place.place c.stanza-stanza.result.now (omega arith) c.stanza-stanza.ensures some)
