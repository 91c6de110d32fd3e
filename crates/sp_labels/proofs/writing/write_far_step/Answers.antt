use Rattle.std.proofs.Common.{[], ◌∷◌}
use Rattle.sp_kit.proofs.Writing.{writes_then, writes_failed}
use Rattle.sp_labels.proofs.writing.write_far_step.Goals as goal

pub returns-in_err-write_number : goal.returns-in_err-write_number
returns-in_err-write_number g c =
    writes_then c.in_ok-write_whole.ensures (writes_failed (41 ∷ []) c.in_err-write_number.ensures c.from_residual-in_err-write_number.ensures.0)

pub returns : goal.returns
returns g c = writes_then c.in_ok-write_whole.ensures (writes_then c.in_ok-write_number.ensures c.write_whole-2.ensures)
