use Rattle.std.proofs.Common.{◌≡◌, ℕ, ◌*◌, ◌≤◌, length, map, take, drop}
use Rattle.spec_text.specs.Parts.{Parts}
use Rattle.spec_script.specs.Runs.{span_of}
use Rattle.spec_pages.specs.Rows.{runs_width}
use Rattle.sp_columns.proofs.speakers.runs_width.Given as goal

-- The other runs begin at a place, before which no more than its columns were counted.
abbrev pub invariant-loop-run : goal.invariant-loop-run
invariant-loop-run l = record {
  at : ℕ;
  within : at ≤ length l.text;
  parts : Parts l.text at (map span_of (drop l.run-index l.runs));
  bound : l.width ≤ 4 * at;
  value : l.width ≡ runs_width l.text (take l.run-index l.runs);
}
