use Rattle.std.proofs.Common.{◌-◌, ◌+◌, ◌<◌, ◌≤◌, length, take}
use Rattle.spec_edit.specs.Windows.{stanza_lines_in}
use Rattle.sp_reread.specs.Gaps.{gap_list}
use Rattle.sp_reread.proofs.sides.Sides.at_line.Given as goal

-- The stanza at the lower place begins not behind the line, and that at the higher behind it.
abbrev pub invariant-loop-high : goal.invariant-loop-high
invariant-loop-high l = record {
  order : l.at ≤ l.high;
  within : l.high ≤ length l.front.stanzas + length l.back.stanzas;
  some : 0 < length l.front.stanzas + length l.back.stanzas → l.at < l.high;
  low : stanza_lines_in (take l.at (gap_list l.front.stanzas l.back.stanzas)) ≤ l.first;
  past : l.high < length l.front.stanzas + length l.back.stanzas → l.first < stanza_lines_in (take l.high (gap_list l.front.stanzas l.back.stanzas));
}

abbrev pub decreases-loop-high : goal.decreases-loop-high
decreases-loop-high l = l.high - l.at
