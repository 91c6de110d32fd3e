use Rattle.std.proofs.Common.{◌≡◌, ◌+◌, drop}
use Rattle.std.specs.List.{prefix_len}
use Rattle.spec_script.specs.Trim.{is_space}
use Rattle.sp_clean.proofs.spaces.spaces_before.Given as goal

abbrev pub invariant-loop-count : goal.invariant-loop-count
invariant-loop-count l = l.count + prefix_len is_space (drop l.count l.bytes) ≡ prefix_len is_space l.bytes
