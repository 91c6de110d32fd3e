use Rattle.std.proofs.Common.{◌≡◌, ◌+◌, ◌++◌, length, drop, map, filter}
use Rattle.spec_text.specs.Lines.{line_texts}
use Rattle.spec_state.specs.Headings.{is_heading_block}
use Rattle.spec_machine.specs.Outlines.{entries_from}
use Rattle.sp_outline.specs.Entries.{entry_of}
use Rattle.sp_contents.specs.Walks.{IsWalked}
use Rattle.sp_contents.proofs.entries.entries_of.Given as goal

-- The entries so far and those of the blocks that are left are all; so are the headings; and the walk is behind those that were.
abbrev pub invariant-loop-placed : goal.invariant-loop-placed
invariant-loop-placed l = record {
  entries : map entry_of l.entries.items ++ entries_from l.scenes (line_texts l.lines.lines) l.walk.headings (drop l.placed-index l.blocks) ≡ entries_from l.scenes (line_texts l.lines.lines) 0 l.blocks;
  count : l.walk.headings + length (filter is_heading_block (drop l.placed-index l.blocks)) ≡ length l.scenes.labels;
  walked : IsWalked l.scenes.labels l.scenes.gone l.walk.headings l.walk.gone;
}
