use Rattle.std.proofs.Common.{◌≡◌, ℕ, List, ◌++◌, take, drop}
use Rattle.std.specs.List.{All}
use Rattle.spec_pages.specs.Wrapping.{runs_of}
use Rattle.sp_measure.specs.Shown.{EndsIn, runs_behind, shown_clusters}
use Rattle.sp_measure.proofs.shown.shown_runs.Given as goal

abbrev pub invariant-loop-run : goal.invariant-loop-run
invariant-loop-run l = (text : List ℕ) → All (EndsIn text) l.runs
    → l.done.items ++ runs_behind l.last (take l.left (drop l.skip (shown_clusters text (drop l.run-index l.runs))))
    ≡ runs_of (take l.count (drop l.from (shown_clusters text l.runs)))
