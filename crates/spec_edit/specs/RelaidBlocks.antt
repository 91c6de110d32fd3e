-- Blocks of a text before and after an edit, of which those at both ends stay (docs/RULES.md, "Windows").
use Rattle.std.specs.Prelude.{◌≡◌, ◌⊎◌, ℕ, List, ◌++◌, map, All}
use Rattle.spec_text.specs.Lines.{LineState, line_texts}
use Rattle.spec_script.specs.Stanzas.{PlacedBlock, blocks_of}
use Rattle.spec_script.specs.Elements.{PlacesRise}
use Rattle.spec_edit.specs.Moved.{moved_block, AreApart, BlockStays, BeginsApart, EndsApart}

-- The blocks in front and those behind are the same in both texts but for their places; none of them is joined with a block that
-- goes or comes.
pub record AreRelaid (before lines : List LineState) (less more : ℕ) (front gone come rest : List PlacedBlock) : Type 0 where
  pub old : blocks_of (line_texts before) ≡ front ++ (gone ++ rest)
  pub new : blocks_of (line_texts lines) ≡ front ++ (come ++ map (moved_block less more) rest)
  pub front_apart : AreApart front (gone ++ rest) × AreApart front (come ++ map (moved_block less more) rest)
  pub rest_apart : (EndsApart gone × EndsApart come) ⊎ BeginsApart rest
  pub still : All (BlockStays 0 0 before lines) front
  pub moved : All (BlockStays less more before lines) rest
  pub front_rise : PlacesRise 0 front
  pub place : ℕ
  pub rest_rise : PlacesRise place rest
