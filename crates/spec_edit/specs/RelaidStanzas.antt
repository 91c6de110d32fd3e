-- Stanzas of a text before and after an edit, of which those at both ends stay (docs/RULES.md, "Windows").
use Rattle.std.specs.Prelude.{◌≡◌, ◌⊎◌, ℕ, ◌+◌, ◌<◌, ◌≤◌, Bool, true, false, not, List, [], ◌∷◌, ◌++◌}
use Rattle.spec_text.specs.Lines.{LineState, line_texts}
use Rattle.spec_script.specs.BlockValues.{BlockOf, StanzaOf}
use Rattle.spec_script.specs.Stanzas.{stanzas_of}
use Rattle.spec_pages.specs.Rows.{line_state}
use Rattle.spec_edit.specs.Windows.{stanza_lines_in}
use Rattle.spec_edit.specs.Moved.{is_left, moved_place}

-- The first of these blocks has no caret, so it is joined with none before it.
abbrev pub first_apart : List BlockOf → Bool
first_apart [] = false
first_apart (block ∷ blocks) = not block.caret

-- The first of these stanzas begins with such a block.
abbrev pub OpensApart : List StanzaOf → Type 0
OpensApart [] = ⊥
OpensApart (stanza ∷ stanzas) = first_apart stanza.blocks ≡ true

-- The last of these blocks is joined with none behind it.
abbrev pub last_apart : List BlockOf → Bool
last_apart [] = false
last_apart (block ∷ []) = not (is_left block)
last_apart (block ∷ next ∷ blocks) = last_apart (next ∷ blocks)

-- The last of these stanzas ends with such a block.
abbrev pub ClosesApart : List StanzaOf → Type 0
ClosesApart [] = ⊥
ClosesApart (stanza ∷ []) = last_apart stanza.blocks ≡ true
ClosesApart (stanza ∷ next ∷ stanzas) = ClosesApart (next ∷ stanzas)

-- The stanzas of a text before an edit and after it. In front are those that stay. Then come those before the window that are laid
-- out anew with it, those that go and those that come, those behind the window that are laid out anew, and the rest. The window
-- begins at one line, and ends before another in each text; the lines outside it are the same, and those behind it are moved.
pub record StanzasRelaid (before lines : List LineState) (front ahead gone come behind rest : List StanzaOf) (start was end : ℕ) : Type 0 where
  pub old : stanzas_of (line_texts before) ≡ front ++ ((ahead ++ (gone ++ behind)) ++ rest)
  pub new : stanzas_of (line_texts lines) ≡ front ++ ((ahead ++ (come ++ behind)) ++ rest)
  pub start_is : start ≡ stanza_lines_in front + stanza_lines_in ahead
  pub was_is : was ≡ start + stanza_lines_in gone
  pub end_is : end ≡ start + stanza_lines_in come
  pub front_apart : (front ≡ []) ⊎ (ClosesApart front ⊎ (OpensApart (ahead ++ gone) × OpensApart (ahead ++ come)))
  pub rest_apart : (rest ≡ []) ⊎ (ClosesApart behind ⊎ OpensApart rest)
  pub still : (place : ℕ) → place < start → line_state lines place ≡ line_state before place
  pub moved : (place : ℕ) → was ≤ place → line_state lines (moved_place was end place) ≡ line_state before place
