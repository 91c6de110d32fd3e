use Rattle.std.proofs.Common.{◌≡◌, ◌-◌, ◌≤◌, length, drop}
use Rattle.sp_layout.specs.LaidOut.{layout_behind}
use Rattle.sp_layout.proofs.LayoutAhead.{followed_by}
use Rattle.sp_layout.proofs.Elements.{elements_behind}
use Rattle.sp_layout.proofs.layout.lay_out_behind.Given as goal

-- What is laid out so far, followed by what the blocks that are left come to, is all.
abbrev pub invariant-loop-place : goal.invariant-loop-place
invariant-loop-place l = record {
  within : l.place ≤ length l.blocks;
  all : followed_by l.lines.lines l.layout (elements_behind l.lines.lines l.speakers (drop l.place l.blocks)) ≡ layout_behind l.lines.lines l.fn.speakers l.blocks;
}

abbrev pub decreases-loop-place : goal.decreases-loop-place
decreases-loop-place l = length l.blocks - l.place
