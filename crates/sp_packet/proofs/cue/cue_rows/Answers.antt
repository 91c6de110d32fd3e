use Rattle.std.proofs.Common.{sym, ◌∙◌, arith}
use Rattle.sp_packet.proofs.CueRows.{cues_from, cues-more, cues-end}
use Rattle.sp_packet.proofs.cue.cue_rows.Goals as goal

pub returns-then-not-is_cue : goal.returns-then-not-is_cue
returns-then-not-is_cue c =
    cues-end c.args.shapes.now.items c.args.from c.min-rows.result c.loop-count.count (cues_from c.args.shapes.now.items c.args.from c.args.most) _ c.loop-count.invariant c.at.ensures (omega arith) (sym c.is_cue.ensures ∙ c.if-not-is_cue.true)

pub loop-count-preserved : goal.loop-count-preserved
loop-count-preserved c =
    cues-more c.args.shapes.now.items c.args.from c.min-rows.result c.loop-count.count (cues_from c.args.shapes.now.items c.args.from c.args.most) _ c.loop-count.invariant c.at.ensures (omega arith) (sym c.is_cue.ensures ∙ c.if-not-is_cue.false)
