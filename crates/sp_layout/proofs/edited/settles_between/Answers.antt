use Rattle.std.proofs.Common.{sym, ◌∙◌, arith}
use Rattle.std.proofs.lemmas.Bool.{or_from}
use Rattle.sp_reread.proofs.SettlingLaws.{settles-none, settles-next, settles-in}
use Rattle.sp_layout.proofs.edited.settles_between.Goals as goal

pub loop-place-init : goal.loop-place-init
loop-place-init c = settles-none c.args.stanzas.now.stanzas c.args.from

pub loop-place-preserved : goal.loop-place-preserved
loop-place-preserved c =
    settles-next c.args.stanzas.now.stanzas c.args.from c.loop-place.place c.stanza.result.now (omega arith) c.stanza.ensures
    ∙ or_from _ _ c.loop-place.invariant (sym c.stanza_settles.ensures ∙ c.if-stanza_settles.false)

pub returns-then-stanza_settles : goal.returns-then-stanza_settles
returns-then-stanza_settles c =
    sym (settles-in c.args.stanzas.now.stanzas c.args.from c.loop-place.place c.args.to c.stanza.result.now (omega arith) (omega arith) c.stanza.ensures (sym c.stanza_settles.ensures ∙ c.if-stanza_settles.true))
