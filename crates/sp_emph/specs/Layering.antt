-- What is seen of a line's bytes, layer by layer.
use Rattle.std.specs.Prelude.{◌≡◌, ℕ, ◌+◌, ◌<◌, ◌≤◌, bit_or, Bool, ◌&&◌, nat_le, nat_lt, List, All, AllPairs, length, slice_index_or, Option, Some, None, option_map, if◌then◌else◌}
use Rattle.spec_script.specs.declared.Layer.{Layer}
use Rattle.spec_script.specs.declared.Layer.TheVariants.{Italic, Bold, BoldItalic, Underline}
use Rattle.spec_script.specs.declared.Pair.{Pair}
use Rattle.spec_script.specs.Emphasis.{size_of, style_of, is_escape, pairs_of, is_inside, is_spent}

-- The pairs' markers end within so many bytes, and the first ones stand in order.
pub record AreWithin (layer : Layer) (pairs : List Pair) (len : ℕ) : Type 0 where
  pub first : All (λ (pair : Pair). pair.first + size_of layer ≤ len) pairs
  pub second : All (λ (pair : Pair). pair.second + size_of layer ≤ len) pairs
  pub order : AllPairs (λ (one other : Pair). one.first ≤ other.first) pairs

-- Each look becomes what the change makes of it at its place.
pub record Changes (change : ℕ → Option ℕ → Option ℕ) (old new : List (Option ℕ)) : Type 0 where
  pub len : length new ≡ length old
  pub looks : (place : ℕ) → place < length old → slice_index_or new place None ≡ change place (slice_index_or old place None)

-- The place lies between two others.
abbrev pub is_between : ℕ → ℕ → ℕ → Bool
is_between from to place = nat_le from place && nat_lt place to

-- A look with the layer's style too.
abbrev pub styled : Layer → Option ℕ → Option ℕ
styled layer look = option_map (λ style. bit_or style (style_of layer)) look

-- Between two places, looks have the layer's style too.
abbrev pub styled_between : Layer → ℕ → ℕ → ℕ → Option ℕ → Option ℕ
styled_between layer from to place look = if is_between from to place then styled layer look else look

-- Between two places, nothing is seen.
abbrev pub hidden_between : ℕ → ℕ → ℕ → Option ℕ → Option ℕ
hidden_between from to place look = if is_between from to place then None else look

-- Inside the layer's pairs, looks have its style too.
abbrev pub styled_inside : Layer → List Pair → ℕ → Option ℕ → Option ℕ
styled_inside layer pairs place look = if is_inside layer pairs place then styled layer look else look

-- On the markers of the layer's pairs, nothing is seen.
abbrev pub hidden_spent : Layer → List Pair → ℕ → Option ℕ → Option ℕ
hidden_spent layer pairs place look = if is_spent layer pairs place then None else look

-- The layer's style inside its pairs, and nothing on their markers.
abbrev pub add_layer : Layer → List Pair → ℕ → Option ℕ → Option ℕ
add_layer layer pairs place look = hidden_spent layer pairs place (styled_inside layer pairs place look)

-- What is seen of a byte without any layer: nothing, where it is a `\` that is removed.
abbrev pub plain_look : List ℕ → ℕ → Option ℕ
plain_look line place = if is_escape line place then None else Some 0

-- All layers.
abbrev pub add_layers : List ℕ → ℕ → Option ℕ → Option ℕ
add_layers line place look =
    add_layer Underline (pairs_of Underline line) place
    (add_layer BoldItalic (pairs_of BoldItalic line) place
    (add_layer Bold (pairs_of Bold line) place (add_layer Italic (pairs_of Italic line) place look)))
