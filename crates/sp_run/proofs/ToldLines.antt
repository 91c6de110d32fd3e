-- A line that tells of a sample, piece by piece.
use Rattle.std.proofs.Common.{◌≡◌, ℕ, List, [], ◌++◌, ap, ◌∙◌, subst, append_assoc}
use Rattle.std.specs.Prelude.{codes, decimal}
use Rattle.spec_sample.specs.Sample.{told_line}

pieces : (d t a b c e f g h l s r : List ℕ) →
    ((((((([] ++ (a ++ d)) ++ (b ++ l)) ++ (c ++ s)) ++ (e ++ r)) ++ f) ++ t) ++ g) ≡ ((((((((((a ++ d) ++ b) ++ l) ++ c) ++ s) ++ e) ++ r) ++ f) ++ t) ++ g)
pieces d t a b c e f g h l s r = simp append_assoc

-- What a line is made of, piece by piece.
pub record IsMade (n l s r : ℕ) (digest line : List ℕ) : Type 0 where
  pub is : line ≡ told_line n l s r digest

pub made : (n l s r : ℕ) (digest start a b c d e f line : List ℕ) → start ≡ [] → a ≡ start ++ (codes "sample " ++ decimal n) → b ≡ a ++ (codes ": " ++ decimal l) → c ≡ b ++ (codes " lines, " ++ decimal s)
    → d ≡ c ++ (codes " sheets, round " ++ decimal r) → e ≡ d ++ codes ", sha256 " → f ≡ e ++ digest → line ≡ f ++ codes "\n" → IsMade n l s r digest line
made n l s r digest start a b c d e f line is_start is_a is_b is_c is_d is_e is_f is =
    let to_a = is_a ∙ ap (λ xs. xs ++ (codes "sample " ++ decimal n)) is_start in
    let to_b = is_b ∙ ap (λ xs. xs ++ (codes ": " ++ decimal l)) to_a in
    let to_c = is_c ∙ ap (λ xs. xs ++ (codes " lines, " ++ decimal s)) to_b in
    let to_d = is_d ∙ ap (λ xs. xs ++ (codes " sheets, round " ++ decimal r)) to_c in
    let to_e = is_e ∙ ap (λ xs. xs ++ codes ", sha256 ") to_d in
    let to_f = is_f ∙ ap (λ xs. xs ++ digest) to_e in
    record {
      is =
          is ∙ ap (λ xs. xs ++ codes "\n") to_f
          ∙ pieces (decimal n) digest (codes "sample ") (codes ": ") (codes " lines, ") (codes " sheets, round ") (codes ", sha256 ") (codes "\n") [] (decimal l) (decimal s) (decimal r);
    }

-- It tells of these numbers and this digest.
pub told : (n number l s r round : ℕ) (digest text line : List ℕ) → IsMade number l s round text line → number ≡ n → round ≡ r → text ≡ digest → line ≡ told_line n l s r digest
told n number l s r round digest text line it is_number is_round is_digest =
    let one = subst (λ x. IsMade x l s round text line) is_number it in
    let two = subst (λ x. IsMade n l s x text line) is_round one in
    (subst (λ x. IsMade n l s r x line) is_digest two).is
