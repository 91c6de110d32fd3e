-- The markers of all layers, found from left to right.
use Rattle.std.specs.Prelude.{◌≡◌, ℕ, ◌+◌, ◌-◌, nat_lt, Bool, true, false, not, ◌&&◌, ◌||◌, ◌==◌, List, [], ◌∷◌, ◌++◌, filter, Option, Some, None, if◌then◌else◌}
use Rattle.std.specs.List.{range_with_len}
use Rattle.spec_script.specs.declared.Layer.{Layer}
use Rattle.spec_script.specs.declared.Layer.TheVariants.{Italic, Bold, BoldItalic, Underline}
use Rattle.spec_script.specs.Emphasis.{byte_at, is_mark, is_marker}
use Rattle.sp_emph.specs.declared.markers.Markers.{Markers}

-- The markers of a layer, by their places.
abbrev pub markers_in : Markers → Layer → List ℕ
markers_in markers Italic = markers.italic.items
markers_in markers Bold = markers.bold.items
markers_in markers BoldItalic = markers.bold_italic.items
markers_in markers Underline = markers.underline.items

-- These are the markers of each layer that begin below a place of the line.
pub record AreBelow (line : List ℕ) (place : ℕ) (markers : Markers) : Type 0 where
  pub each : (layer : Layer) → markers_in markers layer ≡ filter (is_marker layer line) (range_with_len 0 place)

abbrev pub is_same : Layer → Layer → Bool
is_same Italic Italic = true
is_same Bold Bold = true
is_same BoldItalic BoldItalic = true
is_same Underline Underline = true
is_same _ _ = false

-- The place, where it is one that counts.
abbrev pub place_if : Bool → ℕ → List ℕ
place_if counts place = if counts then place ∷ [] else []

-- One layer has a marker more.
pub record HasOneMore (layer : Layer) (place : ℕ) (old new : Markers) : Type 0 where
  pub each : (other : Layer) → markers_in new other ≡ markers_in old other ++ place_if (is_same other layer) place

-- A `*` or a `_` stands at the place.
abbrev pub has_mark : List ℕ → ℕ → Bool
has_mark line place = (byte_at line place == 42) || (byte_at line place == 95)

-- The place is the first of a longest run of the layer's marks.
abbrev pub begins_run : Layer → List ℕ → ℕ → Bool
begins_run layer line place = is_mark layer line place && not (nat_lt 0 place && is_mark layer line (place - 1))

-- It is this layer.
abbrev pub is_layer : Layer → Option Layer → Bool
is_layer layer None = false
is_layer layer (Some other) = is_same layer other

-- The layer of a longest run of `*`, by its length.
abbrev pub star_layer : List ℕ → ℕ → Option Layer
star_layer line place =
    if not (is_mark Italic line (place + 1)) then Some Italic
    else (if not (is_mark Italic line (place + 2)) then Some Bold
    else (if not (is_mark Italic line (place + 3)) then Some BoldItalic else None))

-- The layer that has a marker at the place.
abbrev pub layer_at : List ℕ → ℕ → Option Layer
layer_at line place =
    if begins_run Italic line place then star_layer line place
    else (if begins_run Underline line place && not (is_mark Underline line (place + 1)) then Some Underline else None)
