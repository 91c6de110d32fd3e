use Rattle.std.proofs.Common.{◌≡◌, false, slice_range}
use Rattle.std.specs.List.{list_any}
use Rattle.spec_edit.specs.Settling.{stanza_settles}
use Rattle.sp_layout.proofs.edited.settles_between.Given as goal

-- No stanza so far settles it.
abbrev pub invariant-loop-place : goal.invariant-loop-place
invariant-loop-place l = list_any stanza_settles (slice_range l.stanzas.stanzas l.from l.place) ≡ false
