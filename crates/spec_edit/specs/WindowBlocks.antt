-- Blocks and elements that an edit touches (docs/RULES.md, "Windows").
use Rattle.std.specs.Prelude.{ℕ, ◌+◌, Bool, true, false, ◌&&◌, ◌||◌, if◌then◌else◌, List, [], ◌∷◌, ◌++◌, map, Option, Some, None, take, drop}
use Rattle.spec_script.specs.Stanzas.{PlacedBlock, blocks_from, stanzas_from}
use Rattle.spec_script.specs.Elements.{placed_at, is_dual}
use Rattle.spec_edit.specs.Windows.{stanzas_between}

-- The block, so many lines further on.
abbrev pub pushed : ℕ → PlacedBlock → PlacedBlock
pushed lines placed = placed_at (lines + placed.first) placed.block

-- The blocks of the text before an edit and of the new text, by its window: those before it, those in the old and in the
-- new window, and those behind it by places from its end.
pub record WindowBlocks : Type 0 where
  pub front : List PlacedBlock
  pub gone : List PlacedBlock
  pub come : List PlacedBlock
  pub rest : List PlacedBlock
  pub old_end : ℕ
  pub new_end : ℕ

-- The blocks of the text before the edit.
abbrev pub old_blocks : WindowBlocks → List PlacedBlock
old_blocks w = w.front ++ (w.gone ++ map (pushed w.old_end) w.rest)

-- The blocks of the new text.
abbrev pub new_blocks : WindowBlocks → List PlacedBlock
new_blocks w = w.front ++ (w.come ++ map (pushed w.new_end) w.rest)

-- The blocks that the window from a to b makes of two texts, where b was the place `was`.
abbrev pub window_blocks : List (List ℕ) → List (List ℕ) → ℕ → ℕ → ℕ → WindowBlocks
window_blocks before after a b was = record {
  front = blocks_from 0 (stanzas_between before 0 a);
  gone = blocks_from a (stanzas_between before a was);
  come = blocks_from a (stanzas_between after a b);
  rest = blocks_from 0 (stanzas_from after b);
  old_end = was;
  new_end = b;
}

-- The list has no block.
abbrev pub is_nil : List PlacedBlock → Bool
is_nil [] = true
is_nil _ = false

-- Two blocks that stand next to one another, where both are there, are dual dialogue.
abbrev pub joined_by : Option PlacedBlock → Option PlacedBlock → Bool
joined_by (Some left) (Some right) = is_dual left right
joined_by _ _ = false

-- The last block.
abbrev pub last_block : List PlacedBlock → Option PlacedBlock
last_block [] = None
last_block (block ∷ []) = Some block
last_block (block ∷ next ∷ blocks) = last_block (next ∷ blocks)

-- The first block.
abbrev pub first_block : List PlacedBlock → Option PlacedBlock
first_block [] = None
first_block (block ∷ blocks) = Some block

-- The last block of the first list and the first of the second are dual dialogue.
abbrev pub joins : List PlacedBlock → List PlacedBlock → Bool
joins left right = joined_by (last_block left) (first_block right)

-- The last block before the window is relaid: it is joined with the block behind it in one of the texts and not with the
-- same block in the other.
abbrev pub front_relaid : WindowBlocks → Bool
front_relaid w =
    if is_nil w.gone && is_nil w.come then false
    else joins w.front (w.gone ++ w.rest) || joins w.front (w.come ++ w.rest)

-- The first block behind the window is relaid.
abbrev pub rest_relaid : WindowBlocks → Bool
rest_relaid w =
    if is_nil w.gone && is_nil w.come then false
    else joins (w.front ++ w.gone) w.rest || joins (w.front ++ w.come) w.rest

-- A list without its last block, and that block.
abbrev pub but_last : List PlacedBlock → List PlacedBlock
but_last [] = []
but_last (block ∷ []) = []
but_last (block ∷ next ∷ blocks) = block ∷ but_last (next ∷ blocks)

abbrev pub only_last : List PlacedBlock → List PlacedBlock
only_last [] = []
only_last (block ∷ []) = block ∷ []
only_last (block ∷ next ∷ blocks) = only_last (next ∷ blocks)

-- The blocks before the window that are not relaid, and the one that is.
abbrev pub front_kept : WindowBlocks → List PlacedBlock
front_kept w = if front_relaid w then but_last w.front else w.front

abbrev pub front_half : WindowBlocks → List PlacedBlock
front_half w = if front_relaid w then only_last w.front else []

-- The blocks behind the window that are not relaid, and the one that is.
abbrev pub rest_kept : WindowBlocks → List PlacedBlock
rest_kept w = if rest_relaid w then drop 1 w.rest else w.rest

abbrev pub rest_half : WindowBlocks → List PlacedBlock
rest_half w = if rest_relaid w then take 1 w.rest else []

-- The relaid blocks of the text before the edit, and of the new text.
abbrev pub old_relaid : WindowBlocks → List PlacedBlock
old_relaid w = front_half w ++ (w.gone ++ map (pushed w.old_end) (rest_half w))

abbrev pub new_relaid : WindowBlocks → List PlacedBlock
new_relaid w = front_half w ++ (w.come ++ map (pushed w.new_end) (rest_half w))
