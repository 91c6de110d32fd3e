-- A text laid out, element by element (docs/RULES.md, "Elements" and "Pages").
use Rattle.std.specs.Prelude.{◌≡◌, ℕ, ◌+◌, ◌<◌, ◌≤◌, All, Bool, if◌then◌else◌, List, [], ◌∷◌, ◌++◌, length, map, take, drop, AllPairs}
use Rattle.spec_text.specs.Limits.{size_limit}
use Rattle.spec_text.specs.Lines.{LineState, line_texts}
use Rattle.spec_script.specs.LongestRuns.{Group}
use Rattle.spec_script.specs.Stanzas.{PlacedBlock}
use Rattle.spec_pages.specs.Rows.{ElementOf}
use Rattle.spec_sheets.specs.Cells.{RowShows}
use Rattle.spec_sheets.specs.Speakers.{Spoken, spoken_elements, text_elements}
use Rattle.spec_sheets.specs.Layout.{kind_of, is_page_break, is_title_element, in_body, AreJoined, laid_out, layout_in, layout_of, placed_in}
use Rattle.sp_layout.specs.Bodies.{KeyedElements, body_of, with_element, row_count}
use Rattle.sp_layout.specs.Speaking.{SpeakersOf}

-- Its title page, its body, and which elements of the body are page breaks.
pub record LayoutOf : Type 0 where
  pub titles : KeyedElements
  pub body : KeyedElements
  pub breaks : List ℕ

-- How many elements of the body stand before what is behind an element.
abbrev pub places_behind : ℕ → Group Spoken → ℕ
places_behind count element = if in_body element then count + 1 else count

-- Which elements of the body are page breaks, where so many elements of the body stand before these elements.
abbrev pub break_places : ℕ → List (Group Spoken) → List ℕ
break_places count [] = []
break_places count (element ∷ elements) =
    if is_page_break (kind_of element) then count ∷ break_places (places_behind count element) elements
    else break_places (places_behind count element) elements

-- The rows before which elements at these places of a body stand.
abbrev pub rows_before : List ElementOf → List ℕ → List ℕ
rows_before elements places = map (λ place. row_count (take place elements)) places

-- Elements of these lines laid out, with the keys of their rows.
abbrev pub keyed : List LineState → List (Group Spoken) → LayoutOf
keyed lines elements = record {
  titles = body_of lines (layout_in lines elements).titles;
  body = body_of lines (layout_in lines elements).body;
  breaks = break_places 0 elements;
}

-- The layout of blocks behind a speaker.
abbrev pub layout_behind : List LineState → SpeakersOf → List PlacedBlock → LayoutOf
layout_behind lines speakers blocks = keyed lines (spoken_elements speakers.on lines speakers.last blocks)

-- A block by itself, and two speeches beside each other.
abbrev pub spoken_block : PlacedBlock → Bool → Group Spoken
spoken_block placed continued = record { first = record { placed = placed; continued = continued }; more = [] }

abbrev pub spoken_beside : PlacedBlock → Bool → PlacedBlock → Bool → Group Spoken
spoken_beside left continued right second_continued =
    record { first = record { placed = left; continued = continued }; more = record { placed = right; continued = second_continued } ∷ [] }

-- One more element.
abbrev pub with_laid : List LineState → LayoutOf → Group Spoken → LayoutOf
with_laid lines layout element =
    if is_title_element element then record layout { titles = with_element lines layout.titles (laid_out lines element) }
    else record layout {
      body = with_element lines layout.body (laid_out lines element);
      breaks = if is_page_break (kind_of element) then layout.breaks ++ length layout.body.elements ∷ [] else layout.breaks;
    }

-- The element that begins with the block at a place is laid out, and the next begins at another.
pub record AddsElement (lines : List LineState) (blocks : List PlacedBlock) (place : ℕ) (old : LayoutOf) (speakers : SpeakersOf) (new : LayoutOf) (behind : SpeakersOf) (next : ℕ) : Type 0 where
  pub element : Group Spoken
  pub split : spoken_elements speakers.on lines speakers.last (drop place blocks) ≡ element ∷ spoken_elements behind.on lines behind.last (drop next blocks)
  pub adds : new ≡ with_laid lines old element
  pub past : place < next
  pub within : next ≤ length blocks

-- The layout of a text, with what holds of it: its rows show parts of the text's lines and are not too many, page breaks are elements
-- of the body, one behind the other, and stand before the rows that end pages, and each row of the body goes on with a speech where
-- the row before it says so.
pub record IsLayoutOf (lines : List LineState) (speakers : Bool) (layout : LayoutOf) : Type 0 where
  pub is : layout ≡ keyed lines (text_elements speakers lines)
  pub titles : All (RowShows (line_texts lines)) (placed_in layout.titles.elements)
  pub body : All (RowShows (line_texts lines)) (placed_in layout.body.elements)
  pub few : row_count layout.titles.elements + row_count layout.body.elements ≤ size_limit
  pub breaks : All (λ place. place < length layout.body.elements) layout.breaks
  pub rise : AllPairs (λ one other. one < other) layout.breaks
  pub stops : rows_before layout.body.elements layout.breaks ≡ (layout_of speakers lines).breaks
  pub joined : AreJoined (placed_in layout.body.elements)
