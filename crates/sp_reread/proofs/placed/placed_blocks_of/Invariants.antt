use Rattle.std.proofs.Common.{◌≡◌, ◌+◌, ◌++◌, drop}
use Rattle.spec_script.specs.Stanzas.{blocks_from}
use Rattle.spec_edit.specs.Windows.{stanza_lines_in}
use Rattle.sp_reread.proofs.placed.placed_blocks_of.Given as goal

-- The blocks so far and those of the stanzas that are left are all blocks, and the lines that are left end where all do.
abbrev pub invariant-loop-stanza : goal.invariant-loop-stanza
invariant-loop-stanza l = record {
  all : l.placed.items ++ blocks_from l.place (drop l.stanza-index l.stanzas) ≡ blocks_from l.first l.stanzas;
  end : l.place + stanza_lines_in (drop l.stanza-index l.stanzas) ≡ l.first + stanza_lines_in l.stanzas;
}
