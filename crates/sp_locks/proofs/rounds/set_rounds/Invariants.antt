use Rattle.std.proofs.Common.{◌≡◌, ◌++◌, map, take, drop}
use Rattle.sp_locks.specs.Rounds.{in_round}
use Rattle.sp_locks.proofs.rounds.set_rounds.Given as goal

abbrev pub invariant-loop-sheet : goal.invariant-loop-sheet
invariant-loop-sheet l = l.sheets ≡ map (in_round l.round) (take l.sheet-index l.initial.sheets) ++ drop l.sheet-index l.initial.sheets
