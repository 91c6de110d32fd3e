-- Each run's part of the window is put behind those before it.
use Rattle.std.proofs.Common.{◌≡◌, List, ℕ, take, drop, ◌∙◌}
use Rattle.std.specs.List.{All}
use Rattle.std.proofs.lemmas.Result.{IfOk-weaker}
use Rattle.spec_pages.specs.Wrapping.{runs_of}
use Rattle.sp_measure.specs.RowRuns.{row_runs}
use Rattle.sp_measure.specs.Shown.{EndsIn, runs_behind, shown_clusters}
use Rattle.sp_measure.proofs.Windows.{shown-end, shown-more}
use Rattle.sp_measure.proofs.shown.shown_runs.Goals as goal

pub loop-run-preserved : goal.loop-run-preserved
loop-run-preserved c text ends =
    shown-more text c.args.runs.now c.loop-run.run-index (record { from = 0; to = 0; style = 0 }) c.loop-run.done.items c.add_part.new.done.items _
    c.loop-run.last c.in_ok-last.last c.loop-run.skip c.loop-run.left c.saturating_sub-len.result c.min-passed.result c.min-size.result
    c.loop-run-test.true ends c.saturating_sub-len.ensures c.min-passed.ensures c.min-size.ensures c.in_ok-last.ensures (c.loop-run.invariant text ends)

pub returns : goal.returns
returns c =
    IfOk-weaker c.joined_runs.result _
    (λ v. (text : List ℕ) → All (EndsIn text) c.args.runs.now → row_runs v ≡ runs_of (take c.args.count (drop c.args.from (shown_clusters text c.args.runs.now))))
    (λ v h text ends. h ∙ shown-end text c.args.runs.now c.loop-run.run-index c.loop-run.done.items _ c.loop-run.last c.loop-run.skip c.loop-run.left
    c.loop-run-test.false (c.loop-run.invariant text ends))
    c.joined_runs.ensures
