-- Blocks and elements that an edit relays and touches (docs/RULES.md, "Windows").
use Rattle.std.specs.Prelude.{ℕ, Bool, true, false, ◌&&◌, ◌||◌, not, ◌==◌, nat_lt, nat_le, if◌then◌else◌, List, [], ◌∷◌, map, Option, Some, None}
use Rattle.std.specs.List.{list_any}
use Rattle.spec_text.specs.Ranges.{RangeOf, place_after}
use Rattle.spec_script.specs.LongestRuns.{Group, members}
use Rattle.spec_script.specs.Stanzas.{PlacedBlock}
use Rattle.spec_script.specs.Elements.{line_of_block, is_dual}
use Rattle.spec_sheets.specs.Speakers.{Spoken}

abbrev pub block_in : Spoken → PlacedBlock
block_in it = it.placed

-- The line of the partner in dual dialogue of the block that begins with a line, where the block before these is such a partner.
abbrev pub partner_from : Option ℕ → List PlacedBlock → ℕ → Option ℕ
partner_from before [] line = None
partner_from before (one ∷ []) line = if line_of_block one == line then before else None
partner_from before (one ∷ other ∷ blocks) line =
    if line_of_block one == line then (if is_dual one other then Some (line_of_block other) else before)
    else partner_from (if is_dual one other then Some (line_of_block one) else None) (other ∷ blocks) line

abbrev pub partner_of : List PlacedBlock → ℕ → Option ℕ
partner_of blocks line = partner_from None blocks line

-- The speech that begins with a line is continued.
abbrev pub is_continued : List Spoken → ℕ → Bool
is_continued spoken line = list_any (λ (it : Spoken). (line_of_block it.placed == line) && it.continued) spoken

abbrev pub differs : Bool → Bool → Bool
differs one other = if one then not other else other

-- An edit with the blocks of both texts, and the lines of its window: from one line on, to before a line of the old text and of
-- the new.
pub record EditBlocks : Type 0 where
  pub range : RangeOf
  pub old : List Spoken
  pub new : List Spoken
  pub from : ℕ
  pub old_to : ℕ
  pub new_to : ℕ

-- The block's stanza begins in a window.
abbrev pub in_window : ℕ → ℕ → PlacedBlock → Bool
in_window from to placed = nat_le from placed.first && nat_lt placed.first to

-- A speech's partner before an edit is its partner after it: it has none in both texts, or one block that stands outside the
-- window. Blocks are known by the lines that they begin with.
abbrev pub is_same_partner : EditBlocks → Option ℕ → Option ℕ → Bool
is_same_partner edit None None = true
is_same_partner edit (Some one) (Some other) = not (nat_le edit.from one && nat_lt one edit.old_to) && (place_after edit.range one == other)
is_same_partner edit _ _ = false

-- The block of the old text that begins with a line outside the window has another partner after the edit.
abbrev pub changes_partner : EditBlocks → ℕ → Bool
changes_partner edit line = not (is_same_partner edit (partner_of (map block_in edit.old) line) (partner_of (map block_in edit.new) (place_after edit.range line)))

-- It is continued before the edit or after it, and not both.
abbrev pub changes_speaker : EditBlocks → ℕ → Bool
changes_speaker edit line = differs (is_continued edit.old line) (is_continued edit.new (place_after edit.range line))

-- The place before an edit of a line of the new text that stands outside the window.
abbrev pub place_before : RangeOf → ℕ → ℕ
place_before range place = place_after (record { first = range.first; old = range.new; new = range.old }) place

-- A block of the old text is relaid, and one of the new text: it stands in the window, or its partner is another.
abbrev pub is_relaid_old : EditBlocks → PlacedBlock → Bool
is_relaid_old edit placed = in_window edit.from edit.old_to placed || changes_partner edit (line_of_block placed)

abbrev pub is_relaid_new : EditBlocks → PlacedBlock → Bool
is_relaid_new edit placed = in_window edit.from edit.new_to placed || changes_partner edit (place_before edit.range (line_of_block placed))

-- It is touched: it is relaid, or it is continued in one of the texts alone.
abbrev pub is_touched_old : EditBlocks → PlacedBlock → Bool
is_touched_old edit placed = is_relaid_old edit placed || changes_speaker edit (line_of_block placed)

abbrev pub is_touched_new : EditBlocks → PlacedBlock → Bool
is_touched_new edit placed = is_relaid_new edit placed || changes_speaker edit (place_before edit.range (line_of_block placed))

-- An element is touched where one of its blocks is.
abbrev pub touches_element : (PlacedBlock → Bool) → Group Spoken → Bool
touches_element touched element = list_any (λ (it : Spoken). touched it.placed) (members element)
