use Rattle.std.proofs.Common.{◌≡◌, take, map}
use Rattle.std.specs.Prelude.{string_bytes}
use Rattle.spec_text.specs.Lines.{line_texts}
use Rattle.spec_machine.specs.Outlines.{speaker_names}
use Rattle.sp_contents.proofs.names.speaker_names.Given as goal

abbrev pub invariant-loop-placed : goal.invariant-loop-placed
invariant-loop-placed l = map string_bytes l.names.items ≡ speaker_names (line_texts l.lines.lines) (take l.placed-index l.blocks)
