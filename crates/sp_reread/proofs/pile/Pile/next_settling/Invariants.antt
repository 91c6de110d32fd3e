use Rattle.std.proofs.Common.{◌≡◌, ◌-◌, ◌<◌, ◌≤◌, true, false, length, slice_range}
use Rattle.std.specs.List.{list_any}
use Rattle.spec_edit.specs.Settling.{stanza_settles}
use Rattle.sp_reread.proofs.pile.Pile.next_settling.Given as goal

-- None is before the lower place, and one is before the higher.
abbrev pub invariant-loop-high : goal.invariant-loop-high
invariant-loop-high l = record {
  from : l.from ≤ l.low;
  order : l.low < l.high;
  within : l.high ≤ length l.self.stanzas;
  none : list_any stanza_settles (slice_range l.self.stanzas l.from l.low) ≡ false;
  some : list_any stanza_settles (slice_range l.self.stanzas l.from l.high) ≡ true;
}

abbrev pub decreases-loop-high : goal.decreases-loop-high
decreases-loop-high l = l.high - l.low
