use Rattle.std.proofs.Common.{◌≡◌, ◌++◌, map, take, drop}
use Rattle.sp_layout.specs.Exchanges.{moved_element}
use Rattle.sp_layout.proofs.moves.move_all.Given as goal

abbrev pub invariant-loop-element : goal.invariant-loop-element
invariant-loop-element l = l.elements ≡ map (moved_element l.less l.more) (take l.element-index l.initial.elements) ++ drop l.element-index l.initial.elements
