use Rattle.std.proofs.Common.{◌≡◌, take}
use Rattle.spec_edit.specs.Windows.{stanza_lines_in}
use Rattle.sp_layout.proofs.edited.lines_in.Given as goal

-- The lines of the stanzas so far.
abbrev pub invariant-loop-stanza : goal.invariant-loop-stanza
invariant-loop-stanza l = l.count ≡ stanza_lines_in (take l.stanza-index l.stanzas)
