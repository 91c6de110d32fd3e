-- Blocks and their visible texts, as replies tell them (docs/RULES.md, "Replies").
use Rattle.std.specs.Prelude.{ℕ, List, map}
use Rattle.std.specs.List.{flat_map}
use Rattle.spec_script.specs.BlockValues.{LineOf}
use Rattle.spec_script.specs.Stanzas.{PlacedBlock}
use Rattle.spec_script.specs.Elements.{elements_in}
use Rattle.spec_sheets.specs.Speakers.{first_text, visible_text}
use Rattle.spec_machine.specs.Blocks.{element_replies}
use Rattle.spec_wire.specs.Replies.{BlockReplyOf}

-- The visible text of the first line of a block; empty where it has none.
abbrev pub placed_text : List (List ℕ) → PlacedBlock → List ℕ
placed_text texts placed = first_text texts placed.first placed.block.lines

-- The visible texts of lines of a block whose stanza begins at a place.
abbrev pub visible_texts : List (List ℕ) → ℕ → List LineOf → List (List ℕ)
visible_texts texts first own = map (visible_text texts first) own

-- Blocks in order.
abbrev pub replies_in : List (List ℕ) → List PlacedBlock → List BlockReplyOf
replies_in texts blocks = flat_map (element_replies texts) (elements_in blocks)
