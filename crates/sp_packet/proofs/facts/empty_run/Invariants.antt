use Rattle.std.proofs.Common.{◌≡◌, ◌+◌, drop}
use Rattle.sp_packet.specs.Runs.{empty_run}
use Rattle.sp_packet.proofs.facts.empty_run.Given as goal

abbrev pub invariant-loop-i : goal.invariant-loop-i
invariant-loop-i l = l.i + empty_run l.rows (drop l.i l.starts) ≡ l.from + empty_run l.rows (drop l.from l.starts)
