-- Runs of a line as parts of it (docs/RULES.md, "Places and parts").
use Rattle.std.specs.Prelude.{ℕ, List, map}
use Rattle.spec_script.specs.declared.Run.{Run}
use Rattle.spec_text.specs.Parts.{SpanOf, Parts}

-- The part that a run shows.
abbrev pub span_of : Run → SpanOf
span_of run = (run.from, run.to)

-- The runs are parts of the text, in order.
abbrev pub RunParts : List ℕ → List Run → Type 0
RunParts text runs = Parts text 0 (map span_of runs)
