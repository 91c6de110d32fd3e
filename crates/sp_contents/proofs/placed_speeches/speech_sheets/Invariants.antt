use Rattle.std.proofs.Common.{◌≡◌, ◌++◌, drop}
use Rattle.sp_contents.specs.Speeches.{speech_sheets}
use Rattle.sp_contents.proofs.placed_speeches.speech_sheets.Given as goal

-- The labels so far and those of the rows that are left are all.
abbrev pub invariant-loop-row : goal.invariant-loop-row
invariant-loop-row l = l.labels.items ++ speech_sheets l.sheets l.row (drop l.row l.shapes.items) ≡ speech_sheets l.sheets 0 l.shapes.items
