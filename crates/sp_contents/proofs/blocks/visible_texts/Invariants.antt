use Rattle.std.proofs.Common.{◌≡◌, map, take, string_bytes}
use Rattle.spec_text.specs.Lines.{line_texts}
use Rattle.spec_sheets.specs.Speakers.{visible_text}
use Rattle.sp_contents.proofs.blocks.visible_texts.Given as goal

abbrev pub invariant-loop-line : goal.invariant-loop-line
invariant-loop-line l = map string_bytes l.texts.items ≡ map (visible_text (line_texts l.lines.lines) l.first) (take l.line-index l.own)
