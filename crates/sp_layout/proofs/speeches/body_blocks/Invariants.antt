use Rattle.std.proofs.Common.{◌≡◌, ◌≤◌, take}
use Rattle.sp_layout.specs.Speeches.{body_blocks}
use Rattle.sp_layout.proofs.speeches.body_blocks.Given as goal

-- The blocks of the body so far.
abbrev pub invariant-loop-block : goal.invariant-loop-block
invariant-loop-block l = record {
  value : l.count ≡ body_blocks (take l.block-index l.blocks);
  few : l.count ≤ l.block-index;
}
