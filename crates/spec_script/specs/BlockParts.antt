-- Blocks lie in the lines of their stanza, in order (docs/RULES.md, "Blocks").
use Rattle.std.specs.Prelude.{ℕ, ◌+◌, ◌<◌, ◌≤◌, List, [], ◌∷◌, length, slice_index_or, All}
use Rattle.spec_text.specs.Limits.{line_count_limit}
use Rattle.spec_text.specs.Parts.{Parts}
use Rattle.spec_script.specs.Runs.{RunParts}
use Rattle.spec_script.specs.BlockValues.{LineOf, BlockOf, StanzaOf}

-- From a place on and up to another, each has something, and begins not before the end of the one before it.
abbrev pub Rise : {X : Type 0} → (X → ℕ) → (X → ℕ) → ℕ → ℕ → List X → Type 0
Rise from to low high [] = low ≤ high
Rise from to low high (x ∷ xs) = (low ≤ from x) × (from x < to x) × Rise from to (to x) high xs

-- The line of a text at a place of the stanza that begins at another.
abbrev pub line_at : List (List ℕ) → ℕ → ℕ → List ℕ
line_at texts first place = slice_index_or texts (first + place) []

-- Where a line of a block stands, and the place behind it.
abbrev pub line_from : LineOf → ℕ
line_from line = line.offset

abbrev pub line_to : LineOf → ℕ
line_to line = line.offset + 1

-- A line of a block is one of the stanza's so many lines, and its runs are parts of that.
pub record LineParts (texts : List (List ℕ)) (first count : ℕ) (line : LineOf) : Type 0 where
  pub within : line.offset < count
  pub runs : RunParts (line_at texts first line.offset) line.runs

-- Where a block begins, and the place behind it.
abbrev pub block_from : BlockOf → ℕ
block_from block = block.first

abbrev pub block_to : BlockOf → ℕ
block_to block = block.last + 1

-- The lines of a block lie in it, in order, and a written number is parts of its line.
pub record BlockParts (texts : List (List ℕ)) (first count : ℕ) (block : BlockOf) : Type 0 where
  pub number : Parts (line_at texts first block.first) 0 block.number
  pub lines : All (LineParts texts first count) block.lines
  pub rise : Rise line_from line_to block.first (block.last + 1) block.lines

-- The blocks of a stanza lie in its lines, in order.
pub record StanzaParts (texts : List (List ℕ)) (first : ℕ) (stanza : StanzaOf) : Type 0 where
  pub within : first + stanza.lines ≤ length texts
  pub blocks : All (BlockParts texts first stanza.lines) stanza.blocks
  pub rise : Rise block_from block_to 0 stanza.lines stanza.blocks

-- A line of a block is a line of the text, and its runs are parts of it.
pub record LineLies (texts : List (List ℕ)) (first : ℕ) (line : LineOf) : Type 0 where
  pub place : first + line.offset < length texts
  pub runs : RunParts (line_at texts first line.offset) line.runs

-- A block of the stanza that begins at a place lies in the text, which keeps the limit of its lines: it has no more lines
-- than that either, each of them lies in the text, and its written number is parts of its first line.
pub record BlockLies (texts : List (List ℕ)) (first : ℕ) (block : BlockOf) : Type 0 where
  pub low : length texts ≤ line_count_limit
  pub few : length block.lines ≤ line_count_limit
  pub place : first + block.first < length texts
  pub number : Parts (line_at texts first block.first) 0 block.number
  pub lines : All (LineLies texts first) block.lines
