use Rattle.std.proofs.Common.{◌≡◌, ◌++◌, take, string_bytes, flat_map}
use Rattle.spec_cast.specs.Groups.{side_of_group}
use Rattle.sp_cast.proofs.writing.write_sides.Given as goal

abbrev pub invariant-loop-group : goal.invariant-loop-group
invariant-loop-group l = string_bytes l.out ≡ string_bytes l.fn.out ++ flat_map side_of_group (take l.group-index l.groups)
