-- One test of a place finds the marker of any layer there.
use Rattle.std.proofs.Common.{◌≡◌, ◌==◌, ℕ, zero, suc, ◌+◌, ◌-◌, Bool, true, false, not, ◌&&◌, cond, List, ◌∷◌, ◌++◌, filter, Option, Some, None, refl, sym, ap, subst, ◌∙◌, ◌<◌, ◌≤◌, arith}
use Rattle.std.specs.Prelude.{nat_lt}
use Rattle.std.specs.List.{range_with_len}
use Rattle.std.proofs.lemmas.Bool.{and_parts, eqb-true, or_parts}
use Rattle.std.proofs.lemmas.List.{append-nil}
use Rattle.spec_script.specs.declared.Layer.{Layer}
use Rattle.spec_script.specs.declared.Layer.TheVariants.{Italic, Bold, BoldItalic, Underline}
use Rattle.spec_script.specs.Emphasis.{byte_at, byte_before, is_mark, is_marker}
use Rattle.sp_emph.specs.declared.markers.Markers.{Markers}
use Rattle.sp_emph.specs.Markers.{AreBelow, HasOneMore, is_layer, is_same, place_if, begins_run, has_mark, layer_at, star_layer}

-- One place more, at the end.
filter-more : (p : ℕ → Bool) (a n end : ℕ) → a + n ≡ end → filter p (range_with_len a (n + 1)) ≡ filter p (range_with_len a n) ++ place_if (p end) end
filter-more p a zero end e = let same : a ≡ end = omega arith in ap (λ k. place_if (p k) k) same
filter-more p a (suc n) end e =
    let rest = filter p (range_with_len (a + 1) n) in
    let last = place_if (p end) end in
    let more : suc n + 1 ≡ suc (n + 1) = omega arith in
    ap (λ k. filter p (range_with_len a k)) more
    ∙ ap (λ (ks : List ℕ). cond (p a) (a ∷ ks) ks) (filter-more p (a + 1) n end (omega arith))
    ∙ elim (p a) as (λ b. cond b (a ∷ (rest ++ last)) (rest ++ last) ≡ cond b (a ∷ rest) rest ++ last) [ true ↦ refl | false ↦ refl ]

-- No byte is a mark of both kinds.
one_kind : (line : List ℕ) (place : ℕ) → is_mark Italic line place ≡ true → is_mark Underline line place ≡ false
one_kind line place star =
    let byte = eqb-true (byte_at line place) 42 (and_parts (byte_at line place == 42) (not (byte_before line place == 92)) star).0 in
    ap (λ b. (b == 95) && not (byte_before line place == 92)) byte

abbrev by_length : Bool → Bool → Bool → Option Layer
by_length one two three = cond (not one) (Some Italic) (cond (not two) (Some Bold) (cond (not three) (Some BoldItalic) None))

-- What the tests of a place tell.
abbrev told : (mark before one two three under : Bool) → Option Layer
told mark before one two three under = cond (mark && not before) (by_length one two three) (cond under (Some Underline) None)

is_italic : (mark before one two three under : Bool) → ((mark && true) && not one && not before) ≡ is_layer Italic (told mark before one two three under)
is_italic mark before one two three under = grind arith

is_bold : (mark before one two three under : Bool) → ((mark && (one && true)) && not two && not before) ≡ is_layer Bold (told mark before one two three under)
is_bold mark before one two three under = grind arith

is_both : (mark before one two three under : Bool) → ((mark && (one && (two && true))) && not three && not before) ≡ is_layer BoldItalic (told mark before one two three under)
is_both mark before one two three under = grind arith

is_underline : (mark before one two three other after behind : Bool) → (mark ≡ true → other ≡ false)
    → ((other && true) && not behind && not after) ≡ is_layer Underline (told mark before one two three ((other && not after) && not behind))
is_underline mark before one two three other after behind apart = grind arith

module _ (line : List ℕ) (place : ℕ) where
  abbrev star_at : ℕ → Bool
  star_at k = is_mark Italic line (place + k)

  abbrev star : Bool
  star = is_mark Italic line place

  abbrev before : Bool
  before = nat_lt 0 place && is_mark Italic line (place - 1)

  abbrev under : Bool
  under = begins_run Underline line place && not (is_mark Underline line (place + 1))

  -- A place has a marker of the layer that the tests tell, and of no other.
  pub marker-layer_at : (layer : Layer) → is_marker layer line place ≡ is_layer layer (layer_at line place)
  marker-layer_at Italic = is_italic star before (star_at 1) (star_at 2) (star_at 3) under
  marker-layer_at Bold = is_bold star before (star_at 1) (star_at 2) (star_at 3) under
  marker-layer_at BoldItalic =
      let next : place + 1 + 1 ≡ place + 2 = omega arith in
      ap (λ k. (star && (star_at 1 && (is_mark Italic line k && true))) && not (star_at 3) && not before) next
      ∙ is_both star before (star_at 1) (star_at 2) (star_at 3) under
  marker-layer_at Underline =
      is_underline star before (star_at 1) (star_at 2) (star_at 3) (is_mark Underline line place) (nat_lt 0 place && is_mark Underline line (place - 1))
      (is_mark Underline line (place + 1)) (one_kind line place)

  pub AreBelow-none : (markers : Markers) → layer_at line place ≡ None → AreBelow line place markers → AreBelow line (place + 1) markers
  AreBelow-none markers none below = record {
    each = λ layer.
        below.each layer
        ∙ sym (filter-more (is_marker layer line) 0 place place (omega arith)
        ∙ ap (λ b. filter (is_marker layer line) (range_with_len 0 place) ++ place_if b place) (marker-layer_at layer ∙ ap (is_layer layer) none)
        ∙ append-nil (filter (is_marker layer line) (range_with_len 0 place)));
  }

  pub AreBelow-more : (old new : Markers) (found : Layer) → layer_at line place ≡ Some found → HasOneMore found place old new → AreBelow line place old → AreBelow line (place + 1) new
  AreBelow-more old new found some more below = record {
    each = λ layer.
        more.each layer
        ∙ ap (λ (ms : List ℕ). ms ++ place_if (is_same layer found) place) (below.each layer)
        ∙ sym (filter-more (is_marker layer line) 0 place place (omega arith)
        ∙ ap (λ b. filter (is_marker layer line) (range_with_len 0 place) ++ place_if b place) (marker-layer_at layer ∙ ap (is_layer layer) some));
  }

-- Where no mark stands there is no marker.
layer_at-bare : (line : List ℕ) (place : ℕ) → has_mark line place ≡ false → layer_at line place ≡ None
layer_at-bare line place none =
    let (star, under) = or_parts (byte_at line place == 42) (byte_at line place == 95) none in
    let literal = not (byte_before line place == 92) in
    let rest : Option Layer = cond (begins_run Underline line place && not (is_mark Underline line (place + 1))) (Some Underline) None in
    ap (λ b. cond ((b && literal) && not (nat_lt 0 place && is_mark Italic line (place - 1))) (star_layer line place) rest) star
    ∙ ap (λ b. cond (((b && literal) && not (nat_lt 0 place && is_mark Underline line (place - 1))) && not (is_mark Underline line (place + 1))) (Some Underline) None) under

-- Places without marks are passed over.
pub AreBelow-bare : (line : List ℕ) (markers : Markers) (n from to : ℕ) → from + n ≡ to → ((k : ℕ) → from ≤ k → k < to → has_mark line k ≡ false) → AreBelow line from markers → AreBelow line to markers
AreBelow-bare line markers zero from to end none below =
    let same : from ≡ to = omega arith in
    subst (λ k. AreBelow line k markers) same below
AreBelow-bare line markers (suc n) from to end none below =
    AreBelow-bare line markers n (from + 1) to (omega arith) (λ k low high. none k (omega arith) high)
    (AreBelow-none line from markers (layer_at-bare line from (none from (omega arith) (omega arith))) below)
