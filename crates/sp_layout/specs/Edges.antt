-- Where a part of a layout that is laid out anew begins and ends (docs/RULES.md, "Windows").
use Rattle.std.specs.Prelude.{◌≡◌, ◌⊎◌, ℕ, ◌+◌, ◌<◌, ◌≤◌, true, false, Bool, ◌&&◌, List, [], ◌∷◌, ◌++◌, length, take, drop, slice_range, AllPairs}
use Rattle.spec_script.specs.BlockValues.{StanzaOf}
use Rattle.spec_edit.specs.Windows.{stanza_lines_in}
use Rattle.spec_edit.specs.Moved.{moved_place}
use Rattle.spec_edit.specs.RelaidStanzas.{ClosesApart, OpensApart, first_apart}
use Rattle.sp_layout.specs.Places.{ArePartedAt, CountsBefore, CountsBelow}
use Rattle.sp_layout.specs.LaidOut.{LayoutOf}
use Rattle.sp_reread.specs.Cache.{SwappedState}
use Rattle.sp_layout.specs.declared.edges.PartEdge.{PartEdge}
use Rattle.sp_layout.specs.declared.kept.PartPlaces.{PartPlaces}

-- A layout can be parted at a line.
pub record CanPart (layout : LayoutOf) (line : ℕ) : Type 0 where
  pub titles : ArePartedAt layout.titles.elements line
  pub body : ArePartedAt layout.body.elements line
  pub breaks : AllPairs (λ one other. one ≤ other) layout.breaks

-- A part begins or ends at a line: so many elements begin before it, and so many of those of the body are page breaks.
pub record IsEdge (layout : LayoutOf) (line : ℕ) (edge : PartEdge) : Type 0 where
  pub titles : CountsBefore layout.titles.elements line edge.titles
  pub body : CountsBefore layout.body.elements line edge.body
  pub breaks : CountsBelow layout.breaks edge.body edge.breaks

-- Before all, and behind all.
abbrev pub first_edge : PartEdge
first_edge = record { stanza = 0; titles = 0; body = 0; breaks = 0 }

abbrev pub last_edge : List StanzaOf → LayoutOf → PartEdge
last_edge stanzas layout =
    record { stanza = length stanzas; titles = length layout.titles.elements; body = length layout.body.elements; breaks = length layout.breaks }

-- It can be parted in front of one of these stanzas: before each that begins with a block without a caret, and behind each that ends
-- with a block that is joined with none behind it.
pub record CanBegin (stanzas : List StanzaOf) (at : ℕ) (layout : LayoutOf) : Type 0 where
  pub opens : (i : ℕ) → i < at → OpensApart (drop i stanzas) → CanPart layout (stanza_lines_in (take i stanzas))
  pub closes : (i : ℕ) → i ≤ at → ClosesApart (take i stanzas) → CanPart layout (stanza_lines_in (take i stanzas))

-- It can be parted where the window of an edit begins, if the text before the edit had such a block there.
abbrev pub CanBeginWindow : List StanzaOf → SwappedState → LayoutOf → Type 0
CanBeginWindow stanzas swapped layout = OpensApart swapped.stanzas → CanPart layout (stanza_lines_in (take swapped.at stanzas))

-- The same as in front of one of these stanzas from one of them on, where lines from the line `end` on stood from the line `was` on.
pub record CanEnd (stanzas : List StanzaOf) (to was end : ℕ) (layout : LayoutOf) : Type 0 where
  pub opens : (i : ℕ) → to ≤ i → i < length stanzas → OpensApart (drop i stanzas) → CanPart layout (moved_place end was (stanza_lines_in (take i stanzas)))
  pub closes : (i : ℕ) → to < i → i ≤ length stanzas → ClosesApart (slice_range stanzas to i) → CanPart layout (moved_place end was (stanza_lines_in (take i stanzas)))

-- The part begins in front of the window of an edit, which begins before the stanza `at`: before or behind such a stanza, or before
-- all.
pub record IsPartStart (stanzas : List StanzaOf) (at : ℕ) (layout : LayoutOf) (edge : PartEdge) : Type 0 where
  pub within : edge.stanza ≤ at
  pub is : (edge ≡ first_edge)
      ⊎ ((ClosesApart (take edge.stanza stanzas) ⊎ OpensApart (slice_range stanzas edge.stanza at)) × IsEdge layout (stanza_lines_in (take edge.stanza stanzas)) edge)

-- The first of these stanzas begins with a block without a caret.
abbrev pub opens_first : List StanzaOf → Bool
opens_first [] = false
opens_first (stanza ∷ stanzas) = first_apart stanza.blocks

-- The part begins with the window of an edit, where that begins with such a block in both texts, or else in front of it.
pub record IsPartBegin (stanzas : List StanzaOf) (swapped : SwappedState) (layout : LayoutOf) (edge : PartEdge) : Type 0 where
  pub within : edge.stanza ≤ swapped.at
  pub is : (edge ≡ first_edge)
      ⊎ ((ClosesApart (take edge.stanza stanzas)
      ⊎ (OpensApart (slice_range stanzas edge.stanza swapped.at ++ swapped.stanzas)
      × OpensApart (slice_range stanzas edge.stanza swapped.at ++ slice_range stanzas swapped.at (swapped.at + swapped.stands))))
      × IsEdge layout (stanza_lines_in (take edge.stanza stanzas)) edge)

-- Both windows begin with such a block.
abbrev pub windows_open : List StanzaOf → SwappedState → Bool
windows_open stanzas swapped = opens_first (slice_range stanzas swapped.at (swapped.at + swapped.stands)) && opens_first swapped.stanzas

-- It ends behind the window, which ends before the stanza `to`: before or behind such a stanza, or behind all.
pub record IsPartEnd (stanzas : List StanzaOf) (to was end : ℕ) (layout : LayoutOf) (edge : PartEdge) : Type 0 where
  pub low : to ≤ edge.stanza
  pub within : edge.stanza ≤ length stanzas
  pub is : (edge ≡ last_edge stanzas layout)
      ⊎ ((ClosesApart (slice_range stanzas to edge.stanza) ⊎ OpensApart (drop edge.stanza stanzas)) × IsEdge layout (moved_place end was (stanza_lines_in (take edge.stanza stanzas))) edge)

-- The places of the part between two edges.
abbrev pub edge_places : PartEdge → PartEdge → ℕ → ℕ → PartPlaces
edge_places start stop was end = record {
  title_from = start.titles;
  title_to = stop.titles;
  from = start.body;
  to = stop.body;
  break_from = start.breaks;
  break_to = stop.breaks;
  less = was;
  more = end;
}

-- Behind the first edge, up to the window, no stanza begins with a block without a caret or stands behind one that ends with a block
-- that is joined with none behind it.
pub record IsNearestStart (stanzas : List StanzaOf) (at place : ℕ) : Type 0 where
  pub opens : (i : ℕ) → place < i → i < at → OpensApart (drop i stanzas) → ⊥
  pub closes : (i : ℕ) → place < i → i ≤ at → ClosesApart (take i stanzas) → ⊥

-- The same, and it is the window's where both windows begin with a block without a caret.
pub record IsNearestBegin (stanzas : List StanzaOf) (swapped : SwappedState) (place : ℕ) : Type 0 where
  pub is : IsNearestStart stanzas swapped.at place
  pub window : windows_open stanzas swapped ≡ true → place ≡ swapped.at

-- The same from the window on before the last edge.
pub record IsNearestEnd (stanzas : List StanzaOf) (to place : ℕ) : Type 0 where
  pub opens : (i : ℕ) → to ≤ i → i < place → OpensApart (drop i stanzas) → ⊥
  pub closes : (i : ℕ) → to < i → i < place → ClosesApart (slice_range stanzas to i) → ⊥
