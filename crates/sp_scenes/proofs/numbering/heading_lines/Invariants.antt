use Rattle.std.proofs.Common.{◌≡◌, take}
use Rattle.sp_scenes.specs.LineLabels.{heading_lines}
use Rattle.sp_scenes.proofs.numbering.heading_lines.Given as goal

abbrev pub invariant-loop-heading : goal.invariant-loop-heading
invariant-loop-heading l = l.lines.items ≡ heading_lines (take l.heading-index l.headings)
