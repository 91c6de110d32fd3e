use Rattle.std.proofs.Common.{◌≡◌, take, string_bytes}
use Rattle.std.specs.Prelude.{slice_range}
use Rattle.std.specs.List.{flat_map}
use Rattle.spec_script.specs.declared.Run.{Run}
use Rattle.sp_blocks.proofs.spans.shown_text.Given as goal

-- What the runs so far show.
abbrev pub invariant-loop-run : goal.invariant-loop-run
invariant-loop-run l = string_bytes l.shown ≡ flat_map (λ (run : Run). slice_range l.text run.from run.to) (take l.run-index l.runs)
