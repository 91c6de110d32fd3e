use Rattle.std.proofs.Common.{◌≡◌, ◌++◌, take, slice_range}
use Rattle.spec_script.specs.Stanzas.{blocks_from}
use Rattle.spec_edit.specs.Windows.{stanza_lines_in}
use Rattle.sp_reread.proofs.placed.placed_blocks_between.Given as goal

-- The blocks so far and those of the stanzas that are left are all blocks.
abbrev pub invariant-loop-i : goal.invariant-loop-i
invariant-loop-i l = l.placed.items ++ blocks_from (stanza_lines_in (take l.i l.stanzas.stanzas)) (slice_range l.stanzas.stanzas l.i l.to) ≡ blocks_from (stanza_lines_in (take l.from l.stanzas.stanzas)) (slice_range l.stanzas.stanzas l.from l.to)
