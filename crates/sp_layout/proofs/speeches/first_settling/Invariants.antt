use Rattle.std.proofs.Common.{◌≡◌, false, take}
use Rattle.std.specs.List.{list_any}
use Rattle.spec_edit.specs.Settling.{block_settles}
use Rattle.sp_layout.proofs.speeches.first_settling.Given as goal

-- No block so far settles it.
abbrev pub invariant-loop-place : goal.invariant-loop-place
invariant-loop-place l = list_any block_settles (take l.place l.blocks) ≡ false
