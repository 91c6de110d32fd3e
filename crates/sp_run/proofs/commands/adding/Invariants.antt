use Rattle.std.proofs.Common.{◌≡◌, map, codes, replicate, string_bytes}
use Rattle.sp_run.proofs.commands.adding.Given as goal

abbrev pub invariant-loop : goal.invariant-loop
invariant-loop l = map string_bytes l.lines.items ≡ replicate l.counter (codes "A new line of action.")
