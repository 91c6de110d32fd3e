use Rattle.std.proofs.Common.{◌≡◌, ◌+◌, ◌≤◌, vec_len, vec_capacity, All}
use Rattle.sp_gap.specs.Gaps.{round_gap}
use Rattle.sp_gap.proofs.gap_places.pour_mirrored.Given as goal

-- So many places stand in the other list, and both lists read round the gap as before, from either side.
abbrev pub invariant-loop : goal.invariant-loop
invariant-loop l = record {
  same : round_gap l.target.items l.source.items l.end ≡ round_gap l.initial.target.items l.initial.source.items l.end;
  back : round_gap l.source.items l.target.items l.end ≡ round_gap l.initial.source.items l.initial.target.items l.end;
  from_len : vec_len l.source + l.counter ≡ vec_len l.initial.source;
  to_len : vec_len l.target ≡ vec_len l.initial.target + l.counter;
  from_low : All (λ place. place ≤ l.end) l.source.items;
  to_low : All (λ place. place ≤ l.end) l.target.items;
  from_room : vec_capacity l.source ≡ vec_capacity l.initial.source;
  to_room : vec_capacity l.target ≡ vec_capacity l.initial.target;
}
