use Rattle.std.proofs.Common.{◌≡◌, ◌-◌, ◌≤◌, ◌++◌, reverse, vec_len, vec_capacity}
use Rattle.spec_text.specs.Edits.{line_ids}
use Rattle.sp_text.specs.Paired.{IsPaired}
use Rattle.sp_text.proofs.sides.swap_paired.Given as goal

abbrev pub invariant-loop-count : goal.invariant-loop-count
invariant-loop-count l =
    IsPaired (l.initial.front.items ++ reverse l.initial.back.items) l.initial.lines.items (l.front.items ++ reverse l.back.items) l.lines.items l.first l.count
    × (l.count ≤ l.stands) × (line_ids l.front.items ≡ line_ids l.initial.front.items) × (line_ids l.back.items ≡ line_ids l.initial.back.items)
    × (vec_len l.front ≡ vec_len l.initial.front) × (vec_len l.back ≡ vec_len l.initial.back) × (vec_len l.lines ≡ vec_len l.initial.lines)
    × (vec_capacity l.front ≡ vec_capacity l.initial.front) × (vec_capacity l.back ≡ vec_capacity l.initial.back) × (vec_capacity l.lines ≡ vec_capacity l.initial.lines)

abbrev pub decreases-loop-count : goal.decreases-loop-count
decreases-loop-count l = l.stands - l.count
