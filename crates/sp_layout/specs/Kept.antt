-- A text laid out that is kept, and parts of it that are exchanged (docs/RULES.md, "Windows").
use Rattle.std.specs.Prelude.{◌≡◌, ℕ, ◌+◌, ◌-◌, ◌≤◌, List, length}
use Rattle.sp_layout.specs.Bodies.{BodyOf, keyed_elements}
use Rattle.sp_layout.specs.Exchanges.{with_run}
use Rattle.sp_layout.specs.LaidOut.{LayoutOf}
use Rattle.sp_layout.specs.declared.kept.PartPlaces.{PartPlaces}
use Rattle.sp_layout.specs.Runs.{CanExchange, CanExchangeBreaks, HasRoom, with_breaks}

-- Title page, body and page breaks, and for how many there is room without taking memory.
pub record KeptOf : Type 0 where
  pub titles : BodyOf
  pub body : BodyOf
  pub breaks : List ℕ
  pub break_room : ℕ

-- The layout.
abbrev pub laid_of : KeptOf → LayoutOf
laid_of kept = record { titles = keyed_elements kept.titles; body = keyed_elements kept.body; breaks = kept.breaks }

-- A part of a layout, to be put in the place of what stands there.
pub record PartOf : Type 0 where
  pub places : PartPlaces
  pub kept : KeptOf

-- The layout with a part in the place of what stood there.
abbrev pub with_part : LayoutOf → PartPlaces → LayoutOf → LayoutOf
with_part layout at part = record {
  titles = with_run layout.titles at.title_from at.title_to part.titles at.less at.more;
  body = with_run layout.body at.from at.to part.body at.less at.more;
  breaks = with_breaks layout.breaks at.break_from at.break_to part.breaks at.from at.to (at.from + length part.body.elements);
}

-- The layout that is kept with a part put in its place.
abbrev pub with_kept : KeptOf → PartOf → LayoutOf
with_kept kept part = with_part (laid_of kept) part.places (laid_of part.kept)

-- The part is the same but for room.
abbrev pub IsSamePart : PartOf → PartOf → Type 0
IsSamePart one other = (one.places ≡ other.places) × (laid_of one.kept ≡ laid_of other.kept)

-- Where the part stands that came, and where lines stood behind what it took the place of.
abbrev pub places_back : PartPlaces → LayoutOf → PartPlaces
places_back at part = record {
  title_from = at.title_from;
  title_to = at.title_from + length part.titles.elements;
  from = at.from;
  to = at.from + length part.body.elements;
  break_from = at.break_from;
  break_to = at.break_from + length part.breaks;
  less = at.more;
  more = at.less;
}

-- It can be put there.
pub record CanSwap (layout : LayoutOf) (at : PartPlaces) (part : LayoutOf) : Type 0 where
  pub titles : CanExchange layout.titles at.title_from at.title_to at.less at.more
  pub body : CanExchange layout.body at.from at.to at.less at.more
  pub breaks : CanExchangeBreaks layout.breaks at.break_from at.break_to part.breaks at.from at.to (at.from + length part.body.elements)

-- There is room for it, and for what stands there.
pub record HasPartRoom (kept : KeptOf) (at : PartPlaces) (part : KeptOf) : Type 0 where
  pub titles : HasRoom kept.titles at.title_from at.title_to part.titles
  pub body : HasRoom kept.body at.from at.to part.body
  pub breaks : length kept.breaks + length part.breaks ≤ kept.break_room
  pub breaks_back : at.break_to - at.break_from ≤ part.break_room

-- No room became less.
pub record KeepsRoom (old new : KeptOf) : Type 0 where
  pub titles : (old.titles.room ≤ new.titles.room) × (old.titles.row_room ≤ new.titles.row_room)
  pub body : (old.body.room ≤ new.body.room) × (old.body.row_room ≤ new.body.row_room)
  pub breaks : old.break_room ≤ new.break_room
