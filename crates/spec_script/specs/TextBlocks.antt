-- The blocks of a text by relations: its boneyards, the notes of its stanzas, and the blocks of these (docs/RULES.md, "Boneyards",
-- "Stanzas", "Notes" and "Blocks").
use Rattle.std.specs.Prelude.{◌≡◌, ℕ, zero, suc, ◌+◌, ◌-◌, Bool, true, false, ◌&&◌, nat_lt, List, [], ◌∷◌, ◌++◌, length, map}
use Rattle.spec_text.specs.Parts.{SpanOf}
use Rattle.spec_script.specs.Marked.{Covered, joined}
use Rattle.spec_script.specs.FirstMarks.{AreBoneyards, AreNotes, lies_in}
use Rattle.spec_script.specs.LongestRuns.{Group, members, AreRuns}
use Rattle.spec_script.specs.BlockValues.{BlockOf}
use Rattle.spec_script.specs.Left.{Cleaned}
use Rattle.spec_script.specs.Blocks.{IsStanza}
use Rattle.spec_script.specs.Stanzas.{Kept, kept_line, kept_text, one_stanza, cleaned_line, PlacedBlock}
use Rattle.spec_script.specs.Elements.{placed_at}

-- For each of so many places from one on, whether it lies in one of the parts.
abbrev pub lie_in : List SpanOf → ℕ → ℕ → List Bool
lie_in spans at zero = []
lie_in spans at (suc count) = lies_in spans at ∷ lie_in spans (at + 1) count

-- A line that begins at this place of its text begins inside a boneyard where the line feed before it lies in one.
abbrev pub begins_in : List SpanOf → ℕ → Bool
begins_in yards at = nat_lt 0 at && lies_in yards (at - 1)

-- What these boneyards of a text cover of such a line.
abbrev pub covered_by : List SpanOf → ℕ → List ℕ → Covered
covered_by yards at line = record { began = begins_in yards at; gone = lie_in yards at (length line) }

-- The lines of a text, the first of which begins at this place of it, outside these boneyards.
abbrev pub lines_outside : List SpanOf → ℕ → List (List ℕ) → List Kept
lines_outside yards at [] = []
lines_outside yards at (line ∷ lines) = kept_line line (covered_by yards at line) ∷ lines_outside yards (at + length line + 1) lines

-- The lines of a stanza, the first of which begins at this place of its kept text, outside these notes.
abbrev pub lines_without : List SpanOf → ℕ → List Kept → List Cleaned
lines_without notes at [] = []
lines_without notes at (line ∷ lines) =
    cleaned_line line (lie_in notes at (length (kept_text line))) ∷ lines_without notes (at + length (kept_text line) + 1) lines

-- The blocks are those of the stanza of these lines outside its notes; it may be the first of its text.
pub record AreStanzaBlocks (first : Bool) (lines : List Kept) (blocks : List BlockOf) : Type 0 where
  pub notes : List SpanOf
  pub noted : AreNotes (joined (map kept_text lines)) 0 notes
  pub made : IsStanza first (lines_without notes 0 lines) blocks

-- The blocks are those of these stanzas, one behind the other; the first begins at this place.
abbrev pub AreStanzasBlocks : Bool → ℕ → List (Group Kept) → List PlacedBlock → Type 0
AreStanzasBlocks first place [] blocks = blocks ≡ []
AreStanzasBlocks first place (lines ∷ stanzas) blocks =
    (own : List BlockOf) × (rest : List PlacedBlock) × AreStanzaBlocks first (members lines) own
    × AreStanzasBlocks false (place + length (members lines)) stanzas rest × (blocks ≡ map (placed_at place) own ++ rest)

-- The blocks are those of the text: its lines outside its boneyards are cut into stanzas, behind each empty line, and each stanza
-- has its blocks.
pub record AreTextBlocks (texts : List (List ℕ)) (blocks : List PlacedBlock) : Type 0 where
  pub yards : List SpanOf
  pub boneyards : AreBoneyards (joined texts) 0 yards
  pub stanzas : List (Group Kept)
  pub runs : AreRuns one_stanza (lines_outside yards 0 texts) stanzas
  pub made : AreStanzasBlocks true 0 stanzas blocks
