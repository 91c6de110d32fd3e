use Rattle.std.proofs.Common.{take}
use Rattle.sp_emph.specs.Layering.{Changes, hidden_spent}
use Rattle.sp_emph.proofs.looks.hide_markers.Given as goal

abbrev pub invariant-loop-pair : goal.invariant-loop-pair
invariant-loop-pair l = Changes (hidden_spent l.fn.layer (take l.pair-index l.pairs)) l.fn.looks l.looks
