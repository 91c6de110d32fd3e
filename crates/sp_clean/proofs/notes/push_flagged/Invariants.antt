use Rattle.std.proofs.Common.{◌≡◌, ◌≤◌, ◌+◌, ◌++◌, drop, map, not}
use Rattle.spec_script.specs.Spans.{runs_left}
use Rattle.sp_clean.proofs.notes.push_flagged.Given as goal

abbrev pub invariant-loop-flag : goal.invariant-loop-flag
invariant-loop-flag l =
    (l.from ≤ l.at) × (l.at ≡ l.start + l.flag-index)
    × (l.parts.items ++ runs_left l.from l.at (map not (drop l.flag-index l.flags)) ≡ l.fn.parts.items ++ runs_left l.start l.start (map not l.flags))
