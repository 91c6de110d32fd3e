-- The first place that a search finds is the position of the first byte that passes.
use Rattle.std.proofs.Common.{◌≡◌, ℕ, Bool, true, false, cond, List, length, position, nat_lt, Option, Some, None, refl, sym, ap, ◌∙◌, arith}
use Rattle.std.specs.List.{position_or_len}
use Rattle.std.proofs.lemmas.Bool.{lt-ltb, le-ltb}
use Rattle.std.proofs.lemmas.List.Sums.{position_or_len_is}
use Rattle.memchr.specs.Find.{IsFirstByte}

is-false : (b : Bool) → (b ≡ true → ⊥) → b ≡ false
is-false true h = absurd (h refl)
is-false false h = refl

pub first-position : (test : ℕ → Bool) (bytes : List ℕ) (place : Option ℕ) → IsFirstByte test bytes place → place ≡ position test bytes
first-position test bytes None h =
    let at = position_or_len_is test bytes (length bytes) 0 (omega arith)
    (λ k below. is-false _ (h k (omega arith) below)) (λ below. absurd (omega arith)) in
    sym (ap (λ b. cond b (Some (position_or_len test bytes)) None) (ap (λ n. nat_lt n (length bytes)) at ∙ le-ltb (length bytes) (length bytes) (omega arith)))
first-position test bytes (Some place) h =
    let inside = h.0.high in
    let at = position_or_len_is test bytes place 0 (omega arith)
    (λ k below. is-false _ (h.0.before k (omega arith) below)) (λ below. h.1) in
    sym (ap (λ b. cond b (Some (position_or_len test bytes)) None) (ap (λ n. nat_lt n (length bytes)) at ∙ lt-ltb place (length bytes) inside) ∙ ap (λ (n : ℕ). Some n) at)
