use Rattle.std.proofs.Common.{◌≡◌, take, string_bytes}
use Rattle.spec_script.specs.Spans.{text_in}
use Rattle.sp_blocks.proofs.spans.parts_text.Given as goal

abbrev pub invariant-loop-part : goal.invariant-loop-part
invariant-loop-part l = string_bytes l.joined ≡ text_in l.text (take l.part-index l.parts)
