use Rattle.std.proofs.Common.{◌≡◌, false, take}
use Rattle.std.specs.List.{list_any}
use Rattle.spec_edit.specs.Settling.{block_settles}
use Rattle.sp_reread.proofs.settling.stanza_settles.Given as goal

-- No block so far settles it.
abbrev pub invariant-loop-block : goal.invariant-loop-block
invariant-loop-block l = list_any block_settles (take l.block-index l.block-items) ≡ false
