use Rattle.std.proofs.Common.{ap, sym, ◌∙◌}
use Rattle.std.specs.Prelude.{option_copied}
use Rattle.sp_scenes.proofs.RecordLabels.{label_at-above}
use Rattle.sp_scenes.proofs.numbering.label_between.Goals as goal

pub between-requires-clause-above : goal.between-requires-clause-above
between-requires-clause-above c = λ next is.
    rw c.label_before-low.ensures.label (label_at-above c.args.records.now c.args.place next.now c.requires.records (sym c.label_at.ensures ∙ ap option_copied is))
