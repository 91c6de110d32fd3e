-- Printable text that the runs of a line show (docs/RULES.md, "Columns").
use Rattle.std.specs.Prelude.{ℕ, ◌≤◌, Option, Some, None, List, length, flat_map, slice_range}
use Rattle.spec_script.specs.declared.Run.{Run}
use Rattle.spec_pages.specs.declared.Cluster.{Cluster}
use Rattle.spec_pages.specs.Clusters.{byte_clusters}
use Rattle.spec_pages.specs.Wrapping.{runs_from, runs_of}

-- The run ends in the text.
abbrev pub EndsIn : List ℕ → Run → Type 0
EndsIn text run = run.to ≤ length text

-- The bytes that runs show, one run after the other.
abbrev pub shown_bytes : List ℕ → List Run → List ℕ
shown_bytes text runs = flat_map (λ run. slice_range text run.from run.to) runs

-- Their clusters, where they are printable.
abbrev pub shown_clusters : List ℕ → List Run → List Cluster
shown_clusters text runs = flat_map (λ run. byte_clusters run.style run.from (slice_range text run.from run.to)) runs

-- The runs of clusters that stand behind a run, where there is one.
abbrev pub runs_behind : Option Run → List Cluster → List Run
runs_behind None clusters = runs_of clusters
runs_behind (Some run) clusters = runs_from run clusters
