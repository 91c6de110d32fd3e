use Rattle.std.proofs.Common.{◌≡◌}
use Rattle.spec_sample.specs.Sample.{sample_script}
use Rattle.sp_run.proofs.sample_text.sample_script.Given as goal

abbrev pub invariant-loop-before : goal.invariant-loop-before
invariant-loop-before l = l.script.items ≡ sample_script l.before
