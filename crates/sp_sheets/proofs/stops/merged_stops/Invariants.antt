use Rattle.std.proofs.Common.{◌≡◌, take}
use Rattle.sp_layout.specs.LaidOut.{rows_before}
use Rattle.sp_sheets.proofs.stops.merged_stops.Given as goal

-- The rows of the page breaks that were passed.
abbrev pub invariant-loop-place : goal.invariant-loop-place
invariant-loop-place l = record {
  items : l.stops.items ≡ rows_before l.body.elements (take l.place-index l.breaks);
}
