use Rattle.std.proofs.Common.{ap, ap₂, sym, ◌∙◌}
use Rattle.sp_kit.proofs.Writing.{writes_as}
use Rattle.sp_run.specs.Statuses.{mismatch_line, records_fault_line}
use Rattle.sp_run.proofs.status.records_fault_line.Goals as goal

pub returns-in-BadForm : goal.returns-in-BadForm
returns-in-BadForm g c = writes_as (ap records_fault_line (sym c.in-BadForm.is)) c.place_line.ensures

pub returns-in-Mismatch : goal.returns-in-Mismatch
returns-in-Mismatch g c = writes_as (ap₂ mismatch_line c.as_str.ensures.value c.as_str-in-Mismatch.ensures.value ∙ ap records_fault_line (sym c.in-Mismatch.is)) c.mismatch_line.ensures
