use Rattle.std.proofs.Common.{◌≤◌}
use Rattle.sp_scenes.specs.LineLabels.{line_labels}
use Rattle.sp_scenes.proofs.NewLabels.{Labelled}
use Rattle.sp_scenes.proofs.LineLabels.{bare_headings}
use Rattle.sp_scenes.proofs.numbering.locked_lines.Given as goal

abbrev pub invariant-loop-line : goal.invariant-loop-line
invariant-loop-line l = record {
  labelled : Labelled l.records (bare_headings l.lines) l.labels.items l.waiting l.line-index (line_labels l.records l.lines);
  few : l.waiting ≤ l.line-index;
}
