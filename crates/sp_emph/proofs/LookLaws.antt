-- What is seen of a line, layer by layer, is what is seen of it.
use Rattle.std.proofs.Common.{◌≡◌, ℕ, zero, suc, ◌+◌, ◌<◌, ◌==◌, Bool, true, false, ◌||◌, cond, List, [], ◌∷◌, length, map, get_or, Option, Some, None, option_map, refl, sym, ap, ap₂, ◌∙◌, arith}
use Rattle.std.specs.Prelude.{bit_or, replicate}
use Rattle.std.specs.List.{list_any, range_with_len}
use Rattle.std.proofs.lemmas.Bool.{and_left, or_parts}
use Rattle.std.proofs.lemmas.List.FromFn.{fill_by_all, length-map-range_with_len, get_or-map-range_with_len}
use Rattle.spec_script.specs.declared.Layer.{Layer}
use Rattle.spec_script.specs.declared.Layer.TheVariants.{Italic, Bold, BoldItalic, Underline}
use Rattle.spec_script.specs.Emphasis.{byte_at, style_of, is_inside, is_spent, is_escape, is_removed, with_layer, style_at, pairs_of, looks_of}
use Rattle.sp_emph.specs.Layering.{Changes, plain_look, add_layer, add_layers}

-- A look that is gone stays gone, and any other is gone on a used marker and has the layer's style inside a pair.
one_layer : (gone spent inside : Bool) (style more : ℕ)
    → cond spent None (cond inside (option_map (λ s. bit_or s more) (cond gone None (Some style))) (cond gone None (Some style)))
    ≡ cond (gone || spent) None (Some (cond inside (bit_or style more) style))
one_layer true true inside style more = refl
one_layer true false true style more = refl
one_layer true false false style more = refl
one_layer false true inside style more = refl
one_layer false false true style more = refl
one_layer false false false style more = refl

module _ (line : List ℕ) where
  layer_more : (layer : Layer) (place : ℕ) (gone : Bool) (style : ℕ)
      → add_layer layer (pairs_of layer line) place (cond gone None (Some style))
      ≡ cond (gone || is_spent layer (pairs_of layer line) place) None (Some (with_layer layer line place style))
  layer_more layer place gone style =
      one_layer gone (is_spent layer (pairs_of layer line) place) (is_inside layer (pairs_of layer line) place) style (style_of layer)

  all_layers : (place : ℕ) → add_layers line place (plain_look line place) ≡ cond (is_removed line place) None (Some (style_at line place))
  all_layers place =
      let over = λ (layer : Layer) (look : Option ℕ). add_layer layer (pairs_of layer line) place look in
      ap (λ l. over Underline (over BoldItalic (over Bold l))) (layer_more Italic place (is_escape line place) 0)
      ∙ ap (λ l. over Underline (over BoldItalic l)) (layer_more Bold place _ _)
      ∙ ap (λ l. over Underline l) (layer_more BoldItalic place _ _)
      ∙ layer_more Underline place _ _

  pub looks-add_layers : (old new : List (Option ℕ)) → old ≡ map (plain_look line) (range_with_len 0 (length line)) → Changes (add_layers line) old new → new ≡ looks_of line
  looks-add_layers old new e changes =
      let len : length old ≡ length line = ap length e ∙ length-map-range_with_len (plain_look line) 0 (length line) in
      fill_by_all (λ place. cond (is_removed line place) None (Some (style_at line place))) new (length line) None (changes.len ∙ len)
      (λ place low.
      let inside : place < length old = omega arith in
      changes.looks place inside
      ∙ ap (add_layers line place)
      (ap (λ l. get_or l place None) e ∙ get_or-map-range_with_len (plain_look line) 0 (length line) place place None low (omega arith))
      ∙ all_layers place)

-- Without a `\` each byte is plain.
other_byte : (line : List ℕ) (place : ℕ) → list_any (λ b. b == 92) line ≡ false → (byte_at line place == 92) ≡ false
other_byte [] place none = refl
other_byte (b ∷ line) zero none = (or_parts _ _ none).0
other_byte (b ∷ line) (suc place) none = other_byte line place (or_parts _ _ none).1

plain_byte : (line : List ℕ) (place : ℕ) → list_any (λ b. b == 92) line ≡ false → Some 0 ≡ plain_look line place
plain_byte line place none =
    sym (ap (λ (gone : Bool). cond gone None (Some 0)) (and_left (byte_at line place == 92) ((byte_at line (place + 1) == 42) || (byte_at line (place + 1) == 95)) (other_byte line place none)))

pub plain_bytes : (line : List ℕ) (from count : ℕ) → list_any (λ b. b == 92) line ≡ false → replicate count (Some 0) ≡ map (plain_look line) (range_with_len from count)
plain_bytes line from zero none = refl
plain_bytes line from (suc count) none = ap₂ (λ (look : Option ℕ) looks. look ∷ looks) (plain_byte line from none) (plain_bytes line (from + 1) count none)
