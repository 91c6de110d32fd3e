use Rattle.std.proofs.Common.{◌++◌, ap, ◌∙◌}
use Rattle.std.specs.Prelude.{decimal, flat_map}
use Rattle.sp_kit.proofs.Writing.{writes_as, writes_then, writes_failed}
use Rattle.spec_labels.specs.Labels.{label_text, step_text}
use Rattle.sp_labels.proofs.writing.write.Goals as goal

pub returns-in_err-write_number : goal.returns-in_err-write_number
returns-in_err-write_number g c =
    writes_as (ap label_text c.label.view_is) (writes_failed (flat_map step_text c.label.inside.path.items) c.in_err-write_number.ensures c.from_residual.ensures.0)

pub returns : goal.returns
returns g c =
    writes_as (ap (λ path. decimal c.label.inside.number ++ flat_map step_text path) c.deref.ensures.value ∙ ap label_text c.label.view_is)
    (writes_then c.in_ok-write_number.ensures c.write_steps.ensures)
