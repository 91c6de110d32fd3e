-- A layout of the text before an edit, told by what the edit displaced of its stanzas (docs/RULES.md, "Windows").
use Rattle.std.specs.Prelude.{◌≡◌, ℕ, ◌+◌, ◌-◌, ◌≤◌, Bool, ◌||◌, List, ◌++◌, length, sum_by, take, drop, slice_range, Option, Some, None}
use Rattle.std.specs.List.{list_any}
use Rattle.spec_text.specs.Lines.{LineState, TextState, IsText, line_texts}
use Rattle.spec_script.specs.BlockValues.{StanzaOf}
use Rattle.spec_script.specs.Stanzas.{PlacedBlock, blocks_from, stanzas_of}
use Rattle.spec_sheets.specs.Speakers.{spoken_elements, text_elements}
use Rattle.spec_edit.specs.Settling.{stanza_settles}
use Rattle.spec_edit.specs.Windows.{stanza_lines_in}
use Rattle.spec_edit.specs.Moved.{speaker_behind}
use Rattle.sp_layout.specs.LaidOut.{LayoutOf, keyed}
use Rattle.sp_layout.specs.Speaking.{SpeakersOf, speakers_after}
use Rattle.sp_reread.specs.Cache.{GivesBack, SwappedState}
use Rattle.sp_layout.specs.declared.edges.PartEdge.{PartEdge}
use Rattle.sp_layout.specs.declared.kept.PartPlaces.{PartPlaces}
use Rattle.sp_layout.specs.Kept.{KeptOf, places_back}
use Rattle.sp_layout.specs.Changes.{ChangeOf}
use Rattle.sp_layout.specs.Outside.{StaysOutside}
use Rattle.sp_layout.specs.Edges.{IsNearestBegin, IsNearestEnd, IsPartBegin, IsPartEnd, edge_places}
use Rattle.sp_layout.specs.Speeches.{IsSaidAnew, LastOf, SaidOf}

-- The line with which the window of an edit begins, and the line behind it in the text after the edit and in that before it.
abbrev pub window_start : List StanzaOf → SwappedState → ℕ
window_start stanzas swapped = stanza_lines_in (take swapped.at stanzas)

abbrev pub window_end : List StanzaOf → SwappedState → ℕ
window_end stanzas swapped = stanza_lines_in (take (swapped.at + swapped.stands) stanzas)

abbrev pub window_was : List StanzaOf → SwappedState → ℕ
window_was stanzas swapped = window_start stanzas swapped + stanza_lines_in swapped.stanzas

-- The layout is that of this text before an edit. What the edit displaced leads back to the stanzas of that text, and outside the window
-- both texts have the same lines, with their ids and marks.
pub record WasLaidOf (before : TextState) (lines : List LineState) (stanzas : List StanzaOf) (swapped : SwappedState) (speakers : Bool) (layout : LayoutOf) : Type 0 where
  pub keeps : IsText before
  pub was : layout ≡ keyed before.lines (text_elements speakers before.lines)
  pub back : GivesBack swapped stanzas (stanzas_of (line_texts before.lines))
  pub front : take (window_start stanzas swapped) before.lines ≡ take (window_start stanzas swapped) lines
  pub rest : drop (window_was stanzas swapped) before.lines ≡ drop (window_end stanzas swapped) lines

-- The layout is that of a text before an edit, which had these lines.
pub record WasLaid (olds lines : List LineState) (stanzas : List StanzaOf) (swapped : SwappedState) (speakers : Bool) (layout : LayoutOf) : Type 0 where
  pub before : TextState
  pub is : before.lines ≡ olds
  pub of : WasLaidOf before lines stanzas swapped speakers layout

-- An edit made a text of these lines one of others: what it displaced leads back to the stanzas of the former, and in front of the
-- window both have the same lines.
pub record IsEdited (olds lines : List LineState) (stanzas : List StanzaOf) (swapped : SwappedState) : Type 0 where
  pub before : TextState
  pub is : before.lines ≡ olds
  pub keeps : IsText before
  pub back : GivesBack swapped stanzas (stanzas_of (line_texts olds))
  pub front : take (window_start stanzas swapped) olds ≡ take (window_start stanzas swapped) lines

-- Who spoke last behind the window of an edit, in the text before it.
abbrev pub old_speakers : List (List ℕ) → List StanzaOf → SwappedState → Bool → SpeakersOf
old_speakers olds stanzas swapped on = speakers_after olds on (blocks_from 0 (take swapped.at stanzas ++ swapped.stanzas))

-- Who spoke last before a stanza behind the window, in both texts: behind the window the lines of both are the same.
abbrev pub last_behind : List LineState → List LineState → List StanzaOf → SwappedState → Bool → ℕ → LastOf
last_behind olds lines stanzas swapped on from =
    let end = swapped.at + swapped.stands in
    let between = blocks_from (window_end stanzas swapped) (slice_range stanzas end from) in
    let was = old_speakers (line_texts olds) stanzas swapped on in
    let now = speakers_after (line_texts lines) on (blocks_from 0 (take end stanzas)) in
    record {
      before = record { on = on; last = speaker_behind (line_texts lines) was.last between };
      after = record { on = on; last = speaker_behind (line_texts lines) now.last between };
    }

-- Who spoke last before a stanza.
abbrev pub speakers_to : List LineState → List StanzaOf → Bool → ℕ → SpeakersOf
speakers_to lines stanzas on to = speakers_after (line_texts lines) on (blocks_from 0 (take to stanzas))

-- They are these, or none are told, since it is the same one.
abbrev pub AreLast : LastOf → Option LastOf → Type 0
AreLast last None = last.before ≡ last.after
AreLast last (Some told) = told ≡ last

abbrev pub AreLastBehind : List LineState → List LineState → List StanzaOf → SwappedState → Bool → ℕ → Option LastOf → Type 0
AreLastBehind olds lines stanzas swapped on from told = AreLast (last_behind olds lines stanzas swapped on from) told

-- The first speech from a stanza behind the window on has other rows than before, or it goes on as before.
abbrev pub IsSaidBehind : List LineState → List LineState → List StanzaOf → SwappedState → Bool → ℕ → Option SaidOf → Type 0
IsSaidBehind olds lines stanzas swapped on from said = IsSaidAnew lines stanzas from (last_behind olds lines stanzas swapped on from) said

-- A stanza of the window, or one that stood there before the edit, has a heading or a speech.
abbrev pub windows_settle : List StanzaOf → SwappedState → Bool
windows_settle stanzas swapped = list_any stanza_settles swapped.stanzas || list_any stanza_settles (slice_range stanzas swapped.at (swapped.at + swapped.stands))

-- Blocks are the same elements behind these speakers as behind others. Only for a speech it matters who spoke last.
pub record AreAlike (lines : List LineState) (blocks : List PlacedBlock) (speakers others : SpeakersOf) : Type 0 where
  pub on : speakers.on ≡ others.on
  pub same : spoken_elements others.on lines speakers.last blocks ≡ spoken_elements others.on lines others.last blocks

-- They are so behind those who spoke last before a stanza.
abbrev pub AreAlikeAt : List LineState → List StanzaOf → Bool → ℕ → List PlacedBlock → SpeakersOf → Type 0
AreAlikeAt lines stanzas on to blocks speakers = AreAlike lines blocks speakers (speakers_to lines stanzas on to)

-- Rows of a body outside the part that an edit changed stand on lines that the text before it has too.
abbrev pub LeavesOutside : List LineState → List LineState → KeptOf → ChangeOf → Type 0
LeavesOutside before lines kept change = StaysOutside before lines kept.body.elements change.part.places

-- The part that an edit lays out anew begins with the window or at the last edge in front of it, and ends at the first edge behind
-- the window. Where it was put in, it stands at these places.
pub record IsEditPart (stanzas : List StanzaOf) (swapped : SwappedState) (layout : LayoutOf) (places : PartPlaces) : Type 0 where
  pub start : PartEdge
  pub stop : PartEdge
  pub come : LayoutOf
  pub begins : IsPartBegin stanzas swapped layout start
  pub ends : IsPartEnd stanzas (swapped.at + swapped.stands) (window_was stanzas swapped) (window_end stanzas swapped) layout stop
  pub first : IsNearestBegin stanzas swapped start.stanza
  pub last : IsNearestEnd stanzas (swapped.at + swapped.stands) stop.stanza
  pub at : places ≡ places_back (edge_places start stop (window_was stanzas swapped) (window_end stanzas swapped)) come

-- How many blocks stanzas have, how many elements stand at the places of a part, and how many are kept.
abbrev pub blocks_in : List StanzaOf → ℕ
blocks_in stanzas = sum_by (λ (stanza : StanzaOf). length stanza.blocks) stanzas

abbrev pub elements_at : PartPlaces → ℕ
elements_at places = (places.title_to - places.title_from) + (places.to - places.from)

abbrev pub elements_kept : KeptOf → ℕ
elements_kept kept = length kept.titles.elements + length kept.body.elements

-- A change keeps to the window of its edit. The elements that it laid out anew are at most two more than the window has blocks, since the
-- block before the window and the one behind it may be laid out again; the elements that it took out are at most two more than the
-- displaced stanzas had blocks.
pub record KeepsToWindow (stanzas : List StanzaOf) (swapped : SwappedState) (change : ChangeOf) : Type 0 where
  pub laid : elements_at change.part.places ≤ blocks_in (slice_range stanzas swapped.at (swapped.at + swapped.stands)) + 2
  pub kept : elements_kept change.part.kept ≤ blocks_in swapped.stanzas + 2
