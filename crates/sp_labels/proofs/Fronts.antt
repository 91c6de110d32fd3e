-- The step at the front of a text.
use Rattle.std.proofs.Common.{◌≡◌, ℕ, zero, suc, ◌-◌, ◌<◌, ◌≤◌, ◌≢◌, ◌⊎◌, ◌==◌, true, false, not, cond, List, [], ◌∷◌, ◌++◌, drop, get_or, inl, inr, ⊎_elim, refl, ap, sym, ◌∙◌, append_assoc, eq-eqb, eqb-true, ltb-true, ltb-false, arith}
use Rattle.std.specs.Prelude.{Some, None, decimal, nat_lt, slice_index, position}
use Rattle.std.specs.List.{position_or_len}
use Rattle.std.proofs.lemmas.Bool.{cases_Bool}
use Rattle.std.proofs.lemmas.List.Quantifiers.{position-Some}
use Rattle.std.proofs.lemmas.List.Sums.{prefix_len_passes}
use Rattle.spec_labels.specs.Labels.{step_letters, step_text}
use Rattle.spec_labels.specs.LabelReading.{step_limit}
use Rattle.spec_labels.proofs.LabelTexts.{step_letters-above, step_text-letter, step_text-far, numbers-first}
use Rattle.sp_labels.specs.Fronts.{NumberFront, StepFront}

-- A step is a dot, a letter, or a number in brackets.
record IsLetter (step : ℕ) : Type 0 where
  above : 0 < step
  few : step ≤ 24
  written : step_text step ≡ slice_index step_letters (step - 1) ∷ []

record IsFar (step : ℕ) : Type 0 where
  many : 24 < step
  written : step_text step ≡ 40 ∷ (decimal step ++ 41 ∷ [])

step-kind : (step : ℕ) → (step ≡ 0) ⊎ IsLetter step ⊎ IsFar step
step-kind zero = inl refl
step-kind (suc n) = ⊎_elim
    (λ far. let many : 24 < suc n = ltb-true 24 (suc n) far in inr (inr (record { many = many; written = step_text-far (suc n) many })))
    (λ near. let few : suc n ≤ 24 = ltb-false 24 (suc n) near in inr (inl (record { above = omega arith; few = few; written = step_text-letter (suc n) (omega arith) few })))
    (cases_Bool (nat_lt 24 (suc n)))

-- What a step behind an opening bracket is: a number past the letters, and a closing bracket behind it.
pub bracket-parts : (text rest : List ℕ) (step : ℕ) → StepFront (40 ∷ text) step rest → (24 < step) × NumberFront text step_limit step (41 ∷ rest)
bracket-parts text rest step front = by (step-kind step)
  where
    first : (one : ℕ) (tail : List ℕ) → step_text step ≡ one ∷ tail → (one ≡ 40) × (tail ++ rest ≡ text)
    first one tail is =
        let whole : one ∷ (tail ++ rest) ≡ 40 ∷ text = ap (λ (t : List ℕ). t ++ rest) (sym is) ∙ front.written in
        (ap (λ (t : List ℕ). get_or t 0 0) whole, ap (drop 1) whole)

    by : (step ≡ 0) ⊎ IsLetter step ⊎ IsFar step → (24 < step) × NumberFront text step_limit step (41 ∷ rest)
    by (inl is) = absurd (omega (arith, (first 46 [] (ap step_text is)).0))
    by (inr (inl letter)) =
        let is = (first (slice_index step_letters (step - 1)) [] letter.written).0 in
        absurd (omega (arith, is, (step_letters-above (step - 1) (omega (arith, letter.above, letter.few)))))
    by (inr (inr far)) =
        let (bracket, left) = first 40 (decimal step ++ 41 ∷ []) far.written in
        (far.many, record { low = front.low; written = sym (append_assoc (decimal step) (41 ∷ []) rest) ∙ left; ends = record { none = refl } })

-- The number is the only one.
pub only-bracket : {text after rest : List ℕ} {number step : ℕ} → NumberFront text step_limit number after → StepFront (40 ∷ text) step rest
    → (number ≡ step) × (24 < step) × (after ≡ 41 ∷ rest)
only-bracket {text} {after} {rest} {number} {step} front step_front =
    let (many, other) = bracket-parts text rest step step_front in
    let (same, left) = numbers-first number step after (41 ∷ rest) (omega (arith, front.low)) (omega (arith, other.low)) front.ends other.ends (front.written ∙ sym other.written) in
    (same, many, left)

-- The place of a letter among those of the steps.
pub letter-place : (letter place : ℕ) → Some place ≡ position (λ other. other == letter) step_letters → (place < 24) × (slice_index step_letters place ≡ letter)
letter-place letter place is =
    let found = position-Some (λ other. other == letter) step_letters place 0 (sym is) in
    (found.0, eqb-true (slice_index step_letters place) letter found.1)

pub letter-none : (letter : ℕ) → None ≡ position (λ other. other == letter) step_letters → (k : ℕ) → k < 24 → slice_index step_letters k ≢ letter
letter-none letter none k less same = ⊎_elim
    (λ found.
    let some : position (λ other. other == letter) step_letters ≡ Some place = ap (λ b. cond b (Some place) None) found in
    let no_more : None ≡ Some place = none ∙ some in cc)
    (λ past.
    let within : k < place = omega (arith, less, ltb-false place 24 past) in
    let other : not (slice_index step_letters k == letter) ≡ true = prefix_len_passes (λ other. not (other == letter)) step_letters k 0 within in
    let this : (slice_index step_letters k == letter) ≡ true = eq-eqb (slice_index step_letters k) letter same in
    let no_more : false ≡ true = sym (ap not this) ∙ other in cc)
    (cases_Bool (nat_lt place 24))
  where
    place : ℕ
    place = position_or_len (λ other. other == letter) step_letters
