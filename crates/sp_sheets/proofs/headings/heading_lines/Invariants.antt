use Rattle.std.proofs.Common.{◌≡◌, ◌++◌}
use Rattle.std.specs.Prelude.{All}
use Rattle.spec_text.specs.Lines.{line_texts}
use Rattle.spec_script.specs.Elements.{PlacedLies}
use Rattle.spec_script.specs.Stanzas.{blocks_from}
use Rattle.sp_sheets.specs.HeadingLines.{heading_lines}
use Rattle.sp_sheets.proofs.LinesOfHeadings.{blocks_left}
use Rattle.sp_sheets.proofs.headings.heading_lines.Given as goal

abbrev pub invariant-loop-i : goal.invariant-loop-i
invariant-loop-i l =
    (l.ids.items ++ heading_lines l.lines.lines (blocks_left l.stanzas.stanzas l.i) ≡ heading_lines l.lines.lines (blocks_from 0 l.stanzas.stanzas))
    × All (PlacedLies (line_texts l.lines.lines)) (blocks_left l.stanzas.stanzas l.i)
