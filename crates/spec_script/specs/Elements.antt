-- Elements: blocks by themselves, and pairs of speeches (docs/RULES.md, "Elements").
use Rattle.std.specs.Prelude.{ℕ, ◌+◌, Bool, true, false, not, ◌&&◌, ◌≤◌, List, [], ◌∷◌}
use Rattle.spec_script.specs.declared.Kind.{Kind}
use Rattle.spec_script.specs.declared.Kind.TheVariants as kinds
use Rattle.spec_script.specs.LongestRuns.{Group, longest_runs}
use Rattle.spec_script.specs.BlockValues.{BlockOf}
use Rattle.spec_script.specs.BlockParts.{BlockLies}
use Rattle.spec_script.specs.Stanzas.{PlacedBlock, blocks_of}

-- A block of the stanza that begins at a place.
abbrev pub placed_at : ℕ → BlockOf → PlacedBlock
placed_at first block = record { first = first; block = block }

-- The line that a block begins with.
abbrev pub line_of_block : PlacedBlock → ℕ
line_of_block placed = placed.first + placed.block.first

abbrev pub is_speech_kind : Kind → Bool
is_speech_kind kinds.Speech = true
is_speech_kind _ = false

abbrev pub is_speech_block : PlacedBlock → Bool
is_speech_block placed = is_speech_kind placed.block.kind

-- Neighbouring blocks are dual dialogue: both are speeches, and of their cues the second's alone ended in `^`.
abbrev pub is_dual : PlacedBlock → PlacedBlock → Bool
is_dual left right = is_speech_kind left.block.kind && not left.block.caret && is_speech_kind right.block.kind && right.block.caret

-- A block by itself, and a pair.
abbrev pub alone : PlacedBlock → Group PlacedBlock
alone block = record { first = block; more = [] }

abbrev pub pair : PlacedBlock → PlacedBlock → Group PlacedBlock
pair left right = record { first = left; more = right ∷ [] }

-- The elements of blocks: a run of dual dialogue is one, and so is every other block.
abbrev pub elements_in : List PlacedBlock → List (Group PlacedBlock)
elements_in blocks = longest_runs is_dual blocks

-- The elements of a text.
abbrev pub elements_of : List (List ℕ) → List (Group PlacedBlock)
elements_of texts = elements_in (blocks_of texts)

-- A block lies in a text.
abbrev pub PlacedLies : List (List ℕ) → PlacedBlock → Type 0
PlacedLies texts placed = BlockLies texts placed.first placed.block

-- The stanzas of blocks begin at a place or behind it, and none before that of the block in front of it.
abbrev pub PlacesRise : ℕ → List PlacedBlock → Type 0
PlacesRise low [] = Unit {0}
PlacesRise low (placed ∷ blocks) = (low ≤ placed.first) × PlacesRise placed.first blocks
