use Rattle.std.proofs.Common.{take}
use Rattle.std.specs.Prelude.{Ok, flat_map}
use Rattle.sp_kit.specs.declared.outside.Failed.{Failed}
use Rattle.sp_kit.specs.Outside.{Writes}
use Rattle.spec_labels.specs.Labels.{step_text}
use Rattle.sp_labels.proofs.writing.write_steps.Given as goal

abbrev pub invariant-loop-step : goal.invariant-loop-step
invariant-loop-step g l =
    Writes {T = Unit {0}} {E = Failed} (g.O.Sink.state l.fn.sink) (g.O.Sink.state l.sink) (flat_map step_text (take l.step-index l.path)) (Ok tt)
