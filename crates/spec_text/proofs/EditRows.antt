-- Edits of small texts, computed from the definitions (docs/RULES.md, "Edits").
use Rattle.std.proofs.Common.{◌≡◌, Some, None, [], ◌∷◌, refl}
use Rattle.std.specs.Str.{chars}
use lib.Utf8.{encode}
use Rattle.spec_text.specs.Lines.{TextState}
use Rattle.spec_text.specs.Edits.{replace, splice, range, boundary, line_break, ids_spent, Replacement, replacement_of, refusal_of, changed, displaced_by, restored}

-- `!é`, whose second character has two bytes.
abbrev accented : TextState
accented = record { lines = record { id = 0; mark = 0; text = 33 ∷ 195 ∷ 169 ∷ [] } ∷ []; next = 1 }

-- No line at the end makes way for none: nothing is refused.
pub edit-at_end : refusal_of accented (replace 1 0 []) ≡ None
unfolding chars encode
edit-at_end = refl

pub edit-past_end : refusal_of accented (replace 1 1 []) ≡ Some range
unfolding chars encode
edit-past_end = refl

pub edit-within_character : refusal_of accented (splice 0 2 2 (120 ∷ [])) ≡ Some boundary
unfolding chars encode
edit-within_character = refl

pub edit-line_feed : refusal_of accented (splice 0 3 3 (120 ∷ 10 ∷ 121 ∷ [])) ≡ Some line_break
unfolding chars encode
edit-line_feed = refl

-- The range is asked first.
pub edit-range_first : refusal_of accented (splice 1 0 0 (10 ∷ [])) ≡ Some range
unfolding chars encode
edit-range_first = refl

-- `!a`, with one id left.
abbrev last_id : TextState
last_id = record { lines = record { id = 0; mark = 0; text = 33 ∷ 97 ∷ [] } ∷ []; next = 281474976710655 }

pub edit-ids_spent : refusal_of last_id (replace 1 0 ((33 ∷ 98 ∷ []) ∷ (33 ∷ 99 ∷ []) ∷ [])) ≡ Some ids_spent
unfolding chars encode
edit-ids_spent = refl

pub edit-last_id : refusal_of last_id (replace 1 0 ((33 ∷ 98 ∷ []) ∷ [])) ≡ None
unfolding chars encode
edit-last_id = refl

-- Three lines of which the middle one makes way for two: the first of them keeps its id.
abbrev three : TextState
three = record {
  lines = record { id = 0; mark = 0; text = 97 ∷ [] } ∷ record { id = 1; mark = 0; text = 98 ∷ [] } ∷ record { id = 2; mark = 0; text = 99 ∷ [] } ∷ [];
  next = 3;
}

abbrev four : TextState
four = record {
  lines =
      record { id = 0; mark = 0; text = 97 ∷ [] } ∷ record { id = 1; mark = 5; text = 120 ∷ [] } ∷ record { id = 3; mark = 5; text = 121 ∷ [] }
      ∷ record { id = 2; mark = 0; text = 99 ∷ [] } ∷ [];
  next = 4;
}

-- A character that a script drops is dropped.
abbrev edit : Replacement
edit = replacement_of three.lines (replace 1 1 ((120 ∷ 0 ∷ []) ∷ (121 ∷ []) ∷ []))

pub edit-changed : changed three edit 5 ≡ four
unfolding chars encode
edit-changed = refl

pub edit-restored : restored four (displaced_by three edit) ≡ three
unfolding chars encode
edit-restored = refl
