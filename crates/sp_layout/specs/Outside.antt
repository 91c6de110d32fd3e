-- Rows outside a part of a layout that is laid out anew (docs/RULES.md, "Windows").
use Rattle.std.specs.Prelude.{◌≡◌, List, take, drop, All}
use Rattle.spec_text.specs.Lines.{LineState}
use Rattle.spec_pages.specs.Rows.{ElementOf, line_state}
use Rattle.spec_sheets.specs.Layout.{placed_in}
use Rattle.spec_edit.specs.RowLines.{RowAt}
use Rattle.sp_gap.specs.Moves.{shifted}
use Rattle.sp_layout.specs.declared.kept.PartPlaces.{PartPlaces}

-- The rows of elements outside a part stand on lines that the text before an edit has too, with their ids and marks: in front of the part
-- at the same places, and behind it at places that are less and more by so much.
pub record StaysOutside (before lines : List LineState) (elements : List ElementOf) (places : PartPlaces) : Type 0 where
  pub front : All (RowAt (λ place. line_state before place ≡ line_state lines place)) (placed_in (take places.from elements))
  pub behind : All (RowAt (λ place. line_state before (shifted places.less places.more place) ≡ line_state lines place)) (placed_in (drop places.to elements))
