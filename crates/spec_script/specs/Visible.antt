-- What is visible of a line, and of a part of its text (docs/RULES.md, "Places and parts").
use Rattle.std.specs.Prelude.{ℕ, ◌+◌, ◌-◌, nat_lt, min, max, List, [], ◌∷◌, map, flat_map, unwrap_or, if◌then◌else◌}
use Rattle.spec_text.specs.Parts.{SpanOf}
use Rattle.spec_script.specs.declared.Run.{Run}
use Rattle.spec_script.specs.Spans.{part, place_in}
use Rattle.spec_script.specs.declared.Cut.{Cut}
use Rattle.spec_script.specs.Emphasis.{runs_of}

-- A part as a run without a style.
abbrev pub plain_run : SpanOf → Run
plain_run span = record { from = span.0; to = span.1; style = 0 }

-- Parts as runs without a style.
abbrev pub plain_runs : List SpanOf → List Run
plain_runs spans = map plain_run spans

-- The runs of these parts of a line: what is visible of them, with its styles.
abbrev pub line_runs : List ℕ → List SpanOf → List Run
line_runs line spans = runs_of line spans

-- The place in the line of a byte of the parts' text.
abbrev pub place_of : List SpanOf → ℕ → ℕ
place_of spans byte = unwrap_or (place_in spans byte) 0

-- Where a part of the parts' text stands in the line: from its first byte to behind its last, and at 0 if it has no byte.
abbrev pub window : List SpanOf → Cut → SpanOf
window spans cut = if nat_lt cut.from cut.to then (place_of spans cut.from, place_of spans (cut.to - 1) + 1) else (0, 0)

-- What of the parts lies in the window.
abbrev pub clip_spans : SpanOf → List SpanOf → List SpanOf
clip_spans window spans = flat_map (λ (span : SpanOf). part (max span.0 window.0) (min span.1 window.1)) spans

-- A run of the style from one place to another, if it has a byte.
abbrev pub run_part : ℕ → ℕ → ℕ → List Run
run_part style from to = if nat_lt from to then record { from = from; to = to; style = style } ∷ [] else []

-- What of the runs lies in the window.
abbrev pub clip_runs : SpanOf → List Run → List Run
clip_runs window runs = flat_map (λ (run : Run). run_part run.style (max run.from window.0) (min run.to window.1)) runs
