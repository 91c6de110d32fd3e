-- Boneyards and notes by the first places of their marks (docs/RULES.md, "Boneyards" and "Notes").
use Rattle.std.specs.Prelude.{◌≡◌, ◌==◌, ℕ, Bool, true, false, ◌&&◌, ◌⊎◌, List, [], ◌∷◌, length, drop, codes, nat_lt, nat_le, ◌<◌, ◌≤◌, ◌+◌}
use Rattle.std.specs.List.{list_any, starts_with}
use Rattle.spec_text.specs.Parts.{SpanOf}

-- The mark stands in the text at a place.
abbrev pub stands : List ℕ → List ℕ → ℕ → Bool
stands mark text place = starts_with (λ a b. a == b) (drop place text) mark

-- The place is the first, from `at` on, where the mark stands.
pub record IsFirst (mark text : List ℕ) (at place : ℕ) : Type 0 where
  pub after : at ≤ place
  pub here : stands mark text place ≡ true
  pub before : (k : ℕ) → at ≤ k → k < place → stands mark text k ≡ false

-- From `at` on the mark stands nowhere.
abbrev pub StandsNowhere : List ℕ → List ℕ → ℕ → Type 0
StandsNowhere mark text at = (k : ℕ) → at ≤ k → stands mark text k ≡ false

-- A part from the place of its opening mark on ends behind the first closing mark that begins at least two bytes later.
abbrev pub IsClosed : List ℕ → List ℕ → ℕ → ℕ → Type 0
IsClosed mark text from to = (close : ℕ) × IsFirst mark text (from + 2) close × (to ≡ close + 2)

-- There is no such closing mark.
abbrev pub IsUnclosed : List ℕ → List ℕ → ℕ → Type 0
IsUnclosed mark text from = StandsNowhere mark text (from + 2)

-- The boneyards of a text from a place on: the first begins at the first `/*`, and ends behind its `*/` or, where it is
-- unclosed, with the text. After it the search goes on behind it.
abbrev pub AreBoneyards : List ℕ → ℕ → List SpanOf → Type 0
AreBoneyards text at [] = StandsNowhere (codes "/*") text at
AreBoneyards text at (yard ∷ yards) =
    IsFirst (codes "/*") text at yard.0
    × (IsClosed (codes "*/") text yard.0 yard.1 ⊎ (IsUnclosed (codes "*/") text yard.0 × (yard.1 ≡ length text)))
    × AreBoneyards text yard.1 yards

-- The notes of a text from a place on: the first begins at the first `[[`, and ends behind its `]]`. After it the
-- search goes on behind it. Where the first `[[` is unclosed, it is literal, and there are no more notes.
abbrev pub AreNotes : List ℕ → ℕ → List SpanOf → Type 0
AreNotes text at [] = (place : ℕ) → IsFirst (codes "[[") text at place → IsUnclosed (codes "]]") text place
AreNotes text at (note ∷ notes) =
    IsFirst (codes "[[") text at note.0 × IsClosed (codes "]]") text note.0 note.1 × AreNotes text note.1 notes

-- The place lies in one of the parts.
abbrev pub lies_in : List SpanOf → ℕ → Bool
lies_in spans place = list_any (λ (span : SpanOf). nat_le span.0 place && nat_lt place span.1) spans

-- The parts follow one another with a gap between any two, and each has a byte; the first begins not before `at`.
abbrev pub AreApart : ℕ → List SpanOf → Type 0
AreApart at [] = Unit {0}
AreApart at (span ∷ spans) = (at ≤ span.0) × (span.0 < span.1) × AreApart (span.1 + 1) spans
