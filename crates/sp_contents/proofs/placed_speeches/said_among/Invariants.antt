use Rattle.std.proofs.Common.{◌≡◌, ◌≤◌, ◌++◌, drop}
use Rattle.spec_text.specs.Lines.{line_texts}
use Rattle.sp_contents.specs.Speeches.{said_from, walk_start}
use Rattle.sp_contents.proofs.placed_speeches.said_among.Given as goal

-- The speeches so far and those of the blocks that are left are all.
abbrev pub invariant-loop-placed : goal.invariant-loop-placed
invariant-loop-placed l = record {
  said : l.said.items ++ said_from l.scenes l.sheets (line_texts l.lines.lines) l.walk (drop l.placed-index l.blocks) ≡ said_from l.scenes l.sheets (line_texts l.lines.lines) walk_start l.blocks;
  headings : l.walk.headings ≤ l.placed-index;
  speeches : l.walk.speeches ≤ l.placed-index;
}
