use Rattle.std.proofs.Common.{sym, ap, ◌∙◌}
use Rattle.std.specs.Prelude.{min}
use Rattle.sp_packet.proofs.CueRows.{reach-first}
use Rattle.sp_packet.proofs.cue.reach.Goals as goal

pub returns-clause-value : goal.returns-clause-value
returns-clause-value c =
    c.min.ensures ∙ ap (λ n. min n c.at.result.now.rest) c.cue_rows.ensures ∙ sym (reach-first c.args.shapes.now.items c.args.from c.at.result.now c.at.ensures)
