use Rattle.std.proofs.Common.{◌≡◌, ◌++◌, map, take}
use Rattle.spec_script.specs.Elements.{placed_at}
use Rattle.sp_reread.proofs.placed.add_stanza.Given as goal

abbrev pub invariant-loop-block : goal.invariant-loop-block
invariant-loop-block l = l.placed.items ≡ l.fn.placed.items ++ map (placed_at l.first) (take l.block-index l.block-items)
