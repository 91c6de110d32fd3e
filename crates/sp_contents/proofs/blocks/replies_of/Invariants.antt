use Rattle.std.proofs.Common.{◌≡◌, ◌++◌, false, drop}
use Rattle.spec_text.specs.Lines.{line_texts}
use Rattle.sp_contents.proofs.Paired.{replies_behind}
use Rattle.sp_contents.proofs.blocks.replies_of.Given as goal

-- The replies so far and those of the blocks that are left are all.
abbrev pub invariant-loop-placed : goal.invariant-loop-placed
invariant-loop-placed l =
    l.replies.items ++ replies_behind (line_texts l.lines.lines) l.opened (drop l.placed-index l.blocks) ≡ replies_behind (line_texts l.lines.lines) false l.blocks
