use Rattle.std.proofs.Common.{◌≡◌, ◌*◌, ◌≤◌, length, take}
use Rattle.std.specs.Prelude.{flat_map}
use Rattle.spec_labels.specs.Labels.{step_text}
use Rattle.sp_labels.proofs.width.path_columns.Given as goal

abbrev pub invariant-loop-step : goal.invariant-loop-step
invariant-loop-step l = record {
  columns : l.columns ≡ length (flat_map step_text (take l.step-index l.path));
  low : l.columns ≤ 22 * l.step-index;
}
