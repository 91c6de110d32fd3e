-- Blocks and elements of a text that stand elsewhere in another text (docs/RULES.md, "Windows").
use Rattle.std.specs.Prelude.{◌≡◌, ◌⊎◌, ℕ, ◌+◌, ◌-◌, ◌<◌, ◌≤◌, Bool, false, not, ◌&&◌, List, [], ◌∷◌, map, fold, Option}
use Rattle.spec_text.specs.Lines.{LineState}
use Rattle.spec_script.specs.LongestRuns.{Group}
use Rattle.spec_script.specs.BlockValues.{BlockOf}
use Rattle.spec_script.specs.Stanzas.{PlacedBlock}
use Rattle.spec_script.specs.Elements.{placed_at, is_speech_kind}
use Rattle.spec_pages.specs.Rows.{ElementOf, line_state}
use Rattle.spec_edit.specs.Settling.{settles_kind}
use Rattle.spec_sheets.specs.Speakers.{Spoken, speaker_after}
use Rattle.spec_sheets.proofs.ElementPlaces.{LinesRise}

-- A place that is less and more by so much.
abbrev pub moved_place : ℕ → ℕ → ℕ → ℕ
moved_place less more place = place - less + more

abbrev pub moved_block : ℕ → ℕ → PlacedBlock → PlacedBlock
moved_block less more placed = placed_at (moved_place less more placed.first) placed.block

abbrev pub moved_spoken : ℕ → ℕ → Spoken → Spoken
moved_spoken less more it = record { placed = moved_block less more it.placed; continued = it.continued }

abbrev pub moved_group : ℕ → ℕ → Group Spoken → Group Spoken
moved_group less more group = record { first = moved_spoken less more group.first; more = map (moved_spoken less more) group.more }

abbrev pub moved_laid : ℕ → ℕ → ElementOf → ElementOf
moved_laid less more element = record { first = moved_place less more element.first; rows = element.rows }

-- The lines of a block stand in the other text, moved.
pub record BlockStays (less more : ℕ) (lines later : List LineState) (placed : PlacedBlock) : Type 0 where
  pub rise : LinesRise placed
  pub some : placed.block.first < placed.block.last + 1
  pub low : less ≤ placed.first
  pub line : (n : ℕ) → placed.block.first ≤ n → n < placed.block.last + 1 → line_state later (moved_place less more (placed.first + n)) ≡ line_state lines (placed.first + n)

-- Who spoke last behind blocks.
abbrev pub speaker_behind : List (List ℕ) → Option (List ℕ) → List PlacedBlock → Option (List ℕ)
speaker_behind texts last blocks = fold (speaker_after texts) last blocks

-- No block is joined with one before these.
abbrev pub BeginsApart : List PlacedBlock → Type 0
BeginsApart [] = Unit {0}
BeginsApart (placed ∷ blocks) = placed.block.caret ≡ false

-- A block with which one behind it may be joined.
abbrev pub is_left : BlockOf → Bool
is_left block = is_speech_kind block.kind && not block.caret

-- No block is joined with one behind these, of which there are some.
abbrev pub EndsApart : List PlacedBlock → Type 0
EndsApart [] = ⊥
EndsApart (placed ∷ []) = is_left placed.block ≡ false
EndsApart (placed ∷ next ∷ blocks) = EndsApart (next ∷ blocks)

-- No block of these is joined with one of those behind them.
abbrev pub AreApart : List PlacedBlock → List PlacedBlock → Type 0
AreApart blocks behind = (blocks ≡ []) ⊎ (EndsApart blocks ⊎ BeginsApart behind)

-- Behind such a block it doesn't matter who spoke before it.
abbrev pub settles : PlacedBlock → Bool
settles placed = settles_kind placed.block.kind
