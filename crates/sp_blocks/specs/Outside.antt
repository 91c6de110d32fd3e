-- What of the parts of a line is outside other parts.
use Rattle.std.specs.Prelude.{ℕ, nat_lt, List, [], ◌∷◌, ◌++◌, if◌then◌else◌}
use Rattle.spec_text.specs.Parts.{SpanOf}
use Rattle.spec_script.specs.Spans.{part}

-- From one place to another, what is outside these parts.
abbrev pub between : ℕ → ℕ → List SpanOf → List SpanOf
between from to [] = part from to
between from to (gone ∷ others) = if nat_lt gone.0 to then part from gone.0 ++ between gone.1 to others else part from to

-- The parts from the first on that begins at the place or behind it.
abbrev pub later : ℕ → List SpanOf → List SpanOf
later to [] = []
later to (gone ∷ others) = if nat_lt gone.0 to then later to others else gone ∷ others

-- What is outside the other parts, each of which lies in one of these.
abbrev pub outside : List SpanOf → List SpanOf → List SpanOf
outside [] gone = []
outside (span ∷ spans) gone = between span.0 span.1 gone ++ outside spans (later span.1 gone)
