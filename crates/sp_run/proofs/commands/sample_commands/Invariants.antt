use Rattle.std.proofs.Common.{◌≡◌, ◌-◌, ◌∷◌, ◌++◌, map}
use Rattle.spec_wire.specs.Commands.{lock_scenes, lock_pages, next_round}
use Rattle.spec_sample.specs.Sample.{edits_down}
use Rattle.sp_wire.specs.Values.{command_of}
use Rattle.sp_run.proofs.commands.sample_commands.Given as goal

abbrev pub invariant-loop-behind : goal.invariant-loop-behind
invariant-loop-behind l = map command_of l.commands.items ++ edits_down (l.rooms - l.behind) ≡ lock_scenes ∷ lock_pages ∷ next_round ∷ edits_down l.rooms
