use Rattle.std.proofs.Common.{◌≡◌, ◌-◌, ◌<◌, ◌≤◌, None, length, take, replicate, get_or}
use Rattle.sp_emph.proofs.visible.stretch_len.Given as goal

abbrev pub invariant-loop-len : goal.invariant-loop-len
invariant-loop-len l = record {
  some : 0 < l.len;
  within : l.len ≤ length l.looks;
  alike : take l.len l.looks ≡ replicate l.len (get_or l.looks 0 None);
}

abbrev pub decreases-loop-len : goal.decreases-loop-len
decreases-loop-len l = length l.looks - l.len
