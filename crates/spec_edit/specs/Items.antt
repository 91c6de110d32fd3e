-- What stands in a text, in order: its page breaks and its rows, each at a spot (docs/RULES.md, "Pages").
use Rattle.std.specs.Prelude.{ℕ, ◌+◌, Bool, not, List, [], ◌∷◌, length, map, filter}
use Rattle.spec_pages.specs.declared.Shape.{Shape}
use Rattle.spec_labels.specs.Spots.{Spot, is_ahead, Bounds, is_within}
use Rattle.spec_sheets.specs.Shown.{Shown, shape_of}

-- What stands at a spot: a page break, or a row.
pub data Sight : Type 0 where
  page_break : Sight
  row : Shown → Sight

pub record Item : Type 0 where
  pub spot : Spot
  pub sight : Sight

abbrev pub sight_of : Item → Sight
sight_of item = item.sight

abbrev pub all_sights : List Item → List Sight
all_sights items = map sight_of items

-- The item stands in a segment.
abbrev pub is_inside : Bounds → Item → Bool
is_inside bounds item = is_within bounds item.spot

-- What stands in a segment of a text.
abbrev pub sights_in : Bounds → List Item → List Sight
sights_in bounds items = map sight_of (filter (is_inside bounds) items)

-- The rows among what stands there, and their shapes.
abbrev pub rows_among : List Sight → List Shown
rows_among [] = []
rows_among (page_break ∷ sights) = rows_among sights
rows_among (row it ∷ sights) = it ∷ rows_among sights

abbrev pub shapes_among : List Sight → List Shape
shapes_among sights = map shape_of (rows_among sights)

-- The rows before which a page break stands, where so many rows stand before these.
abbrev pub breaks_among : ℕ → List Sight → List ℕ
breaks_among count [] = []
breaks_among count (page_break ∷ sights) = count ∷ breaks_among count sights
breaks_among count (row it ∷ sights) = breaks_among (count + 1) sights

-- What stands before a spot, and what doesn't.
abbrev pub is_front : Spot → Item → Bool
is_front spot item = is_ahead item.spot spot

abbrev pub is_back : Spot → Item → Bool
is_back spot item = not (is_ahead item.spot spot)

abbrev pub front_of : Spot → List Item → List Sight
front_of spot items = map sight_of (filter (is_front spot) items)

abbrev pub back_of : Spot → List Item → List Sight
back_of spot items = map sight_of (filter (is_back spot) items)

-- The first row that isn't before a spot, or the number of rows.
abbrev pub start_of : List Item → Spot → ℕ
start_of items spot = length (shapes_among (front_of spot items))

abbrev pub starts_of_spots : List Item → List Spot → List ℕ
starts_of_spots items spots = map (start_of items) spots
