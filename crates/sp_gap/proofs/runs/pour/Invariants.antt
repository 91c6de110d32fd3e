use Rattle.std.proofs.Common.{◌≡◌, ◌+◌, vec_len, vec_capacity}
use Rattle.sp_gap.specs.Runs.{Poured}
use Rattle.sp_gap.proofs.runs.pour.Given as goal

abbrev pub invariant-loop : goal.invariant-loop
invariant-loop g l =
    Poured l.initial.source.items l.initial.target.items l.source.items l.target.items l.counter
    × (vec_len l.source + l.counter ≡ vec_len l.initial.source)
    × (vec_len l.target ≡ vec_len l.initial.target + l.counter)
    × (vec_capacity l.source ≡ vec_capacity l.initial.source)
    × (vec_capacity l.target ≡ vec_capacity l.initial.target)
