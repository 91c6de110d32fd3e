-- Whether a text ends a sentence, character after character.
use Rattle.std.specs.Prelude.{ℕ, Bool, if◌then◌else◌}
use Rattle.spec_pages.specs.Sentences.{is_closing, is_stop}

-- Whether a text with one more character ends a sentence.
abbrev pub ends_after : Bool → ℕ → Bool
ends_after ends char = if is_closing char then ends else is_stop char
