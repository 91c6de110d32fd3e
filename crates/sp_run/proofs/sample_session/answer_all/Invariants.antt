use Rattle.std.proofs.Common.{◌≡◌, ℕ, map}
use Rattle.std.specs.Prelude.{fold}
use Rattle.std.specs.Vec.Iter.{into_iter_items}
use Rattle.spec_sample.specs.Sample.{stepped}
use Rattle.sp_wire.specs.Values.{command_of}
use Rattle.sp_desk.specs.Outcomes.{FillsAtMost, FillsOf, ReadsAtMost, ReadsOf}
use Rattle.sp_run.specs.SampleCounts.{CountsAlong, CountsUpTo}
use Rattle.sp_run.proofs.sample_session.answer_all.Given as goal

abbrev pub invariant-loop-command : goal.invariant-loop-command
invariant-loop-command g l =
    (goal.iterator-loop-command g).can_next l.command-iterator × (goal.iterator-loop-command g).is_finite l.command-iterator
    × (fold stepped l.desk (map command_of (into_iter_items l.command-iterator)) ≡ fold stepped l.fn.desk (map command_of l.fn.commands.items))
    × ((to : ℕ) → CountsAlong ReadsOf l.desk (map command_of (into_iter_items l.command-iterator)) (g.S.Steps.reads l.steps) to
    → CountsAlong ReadsOf l.fn.desk (map command_of l.fn.commands.items) (g.S.Steps.reads l.fn.steps) to)
    × ((to : ℕ) → CountsAlong FillsOf l.desk (map command_of (into_iter_items l.command-iterator)) (g.S.Steps.fills l.steps) to
    → CountsAlong FillsOf l.fn.desk (map command_of l.fn.commands.items) (g.S.Steps.fills l.fn.steps) to)
    × ((to : ℕ) → CountsUpTo ReadsOf ReadsAtMost l.desk (map command_of (into_iter_items l.command-iterator)) (g.S.Steps.reads l.steps) to
    → CountsUpTo ReadsOf ReadsAtMost l.fn.desk (map command_of l.fn.commands.items) (g.S.Steps.reads l.fn.steps) to)
    × ((to : ℕ) → CountsUpTo FillsOf FillsAtMost l.desk (map command_of (into_iter_items l.command-iterator)) (g.S.Steps.fills l.steps) to
    → CountsUpTo FillsOf FillsAtMost l.fn.desk (map command_of l.fn.commands.items) (g.S.Steps.fills l.fn.steps) to)
