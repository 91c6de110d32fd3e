-- A text is the written form of one label at most, and it is told which.
use Rattle.std.proofs.Common.{◌≡◌, ℕ, zero, suc, ◌+◌, ◌-◌, ◌^◌, ◌<◌, ◌≤◌, ◌≢◌, ◌&&◌, ◌==◌, Bool, true, false, cond, ne_eqb, List, [], ◌∷◌, ◌++◌, length, take, drop, get_or, ⊎_elim, refl, ap, ap₂, sym, ◌∙◌, subst, append_assoc, append-nil, length-append, eq-eqb, eqb-true, le-leb, leb-true, ltb-true, ltb-false, arith}
use Rattle.std.specs.Prelude.{All, decimal, nat_lt, nat_le, slice_index, flat_map, codes}
use Rattle.std.specs.Char.{is_ascii_digit, digit_value}
use Rattle.std.specs.List.{prefix_len, position_or_len}
use Rattle.std.specs.Str.Parse.{AllDigits, digits_value}
use Rattle.std.proofs.lemmas.Bool.{cases_Bool, and_parts}
use Rattle.std.proofs.lemmas.Fmt.{decimal_is_IsNumeral}
use Rattle.std.proofs.lemmas.List.{take_at, drop_at}
use Rattle.std.proofs.lemmas.List.Elements.{All-head, All-tail, All-weaker}
use Rattle.std.proofs.lemmas.Str.Parse.{digit_from_value}
use Rattle.spec_labels.specs.Labels.{LabelOf, step_letters, step_text, label_text}
use Rattle.spec_labels.specs.LabelReading.{step_limit, Spells, BeginsNoDigit, front_number, behind_number, front_step, behind_step, steps_of, label_in}
use Rattle.spec_labels.proofs.LabelOrder.{same-label}

-- A digit by its value is a digit by its range.
is_digit : (byte : ℕ) → digit_value byte < 10 → is_ascii_digit byte ≡ true
is_digit byte small = let (low, high) = digit_from_value byte small in ap₂ (λ a b. a && b) (le-leb 48 byte low) (le-leb byte 57 high)

-- The digits at the front of a text.
pub prefix_len-digits : (ds rest : List ℕ) → AllDigits 10 ds → BeginsNoDigit rest → prefix_len is_ascii_digit (ds ++ rest) ≡ length ds
prefix_len-digits [] [] digits none = refl
prefix_len-digits [] (byte ∷ rest) digits none = ap (λ b. cond b (1 + prefix_len is_ascii_digit rest) 0) none.none
prefix_len-digits (d ∷ ds) rest digits none =
    ap (λ b. cond b (1 + prefix_len is_ascii_digit (ds ++ rest)) 0) (is_digit d digits.0)
    ∙ ap (λ n. 1 + n) (prefix_len-digits ds rest digits.1 none) ∙ omega arith

-- A number in decimal, and what stands behind it.
pub front_number-decimal : (n : ℕ) (rest : List ℕ) → n < 2 ^ 64 → BeginsNoDigit rest → front_number (decimal n ++ rest) ≡ n
front_number-decimal n rest small none =
    let numeral = decimal_is_IsNumeral n small in
    let count = prefix_len-digits (decimal n) rest numeral.0.1 none in
    ap (λ k. digits_value 10 (take k (decimal n ++ rest))) count
    ∙ ap (digits_value 10) (take_at (decimal n) rest (length (decimal n)) refl) ∙ numeral.1

pub behind_number-decimal : (n : ℕ) (rest : List ℕ) → n < 2 ^ 64 → BeginsNoDigit rest → behind_number (decimal n ++ rest) ≡ rest
behind_number-decimal n rest small none =
    let numeral = decimal_is_IsNumeral n small in
    let count = prefix_len-digits (decimal n) rest numeral.0.1 none in
    ap (λ k. drop k (decimal n ++ rest)) count ∙ drop_at (decimal n) rest (length (decimal n)) refl

-- A test of each number below a bound, by computing it.
unfoldable pub all_below : (ℕ → Bool) → ℕ → Bool
all_below p zero = true
all_below p (suc n) = p n && all_below p n

pub all_below-at : (p : ℕ → Bool) (n i : ℕ) → all_below p n ≡ true → i < n → p i ≡ true
unfolding all_below
all_below-at p zero i all less = absurd (omega (arith, less))
all_below-at p (suc n) i all less =
    let (here, below) = and_parts (p n) (all_below p n) all in
    ⊎_elim
    (λ yes. subst (λ k. p k ≡ true) (sym (eqb-true i n yes)) here)
    (λ other. all_below-at p n i below (let apart : i ≢ n = λ e. (let same = eq-eqb i n e in let no : true ≡ false = sym same ∙ other in cc) in omega (arith, less, apart)))
    (cases_Bool (i == n))

-- A letter of a step is between A and Z, and its place tells the step.
is_step_letter : ℕ → Bool
is_step_letter i =
    let letter = slice_index step_letters i in
    nat_le 65 letter && nat_le letter 90 && position_or_len (λ (other : ℕ). other == letter) step_letters == i

step_letters-all : all_below is_step_letter 24 ≡ true
unfolding all_below is_step_letter
step_letters-all = refl

record IsStepLetter (i letter : ℕ) : Type 0 where
  low : 65 ≤ letter
  high : letter ≤ 90
  place : position_or_len (λ (other : ℕ). other == letter) step_letters ≡ i

step_letter : (i : ℕ) → i < 24 → IsStepLetter i (slice_index step_letters i)
unfolding is_step_letter
step_letter i less =
    let letter = slice_index step_letters i in
    let (range, place) = and_parts _ _ (all_below-at is_step_letter 24 i step_letters-all less) in
    let (low, high) = and_parts _ _ range in
    record { low = leb-true 65 letter low; high = leb-true letter 90 high; place = eqb-true (position_or_len (λ (other : ℕ). other == letter) step_letters) i place }

pub step_letters-above : (i : ℕ) → i < 24 → 65 ≤ slice_index step_letters i
step_letters-above i less = (step_letter i less).low

pub step_letters-below : (i : ℕ) → i < 24 → slice_index step_letters i ≤ 90
step_letters-below i less = (step_letter i less).high

-- The three kinds of steps.
pub step_text-letter : (step : ℕ) → 0 < step → step ≤ 24 → step_text step ≡ slice_index step_letters (step - 1) ∷ []
step_text-letter step some few =
    let letter = slice_index step_letters (step - 1) in
    let far = codes "(" ++ decimal step ++ codes ")" in
    ap (λ b. cond b (codes ".") (cond (nat_le step 24) (letter ∷ []) far)) (ne_eqb step 0 (λ e. omega (arith, e, some)))
    ∙ ap (λ b. cond b (letter ∷ []) far) (le-leb step 24 few)

pub step_text-far : (step : ℕ) → 24 < step → step_text step ≡ 40 ∷ (decimal step ++ 41 ∷ [])
step_text-far step far =
    let letter = slice_index step_letters (step - 1) in
    let text = codes "(" ++ decimal step ++ codes ")" in
    ap (λ b. cond b (codes ".") (cond (nat_le step 24) (letter ∷ []) text)) (ne_eqb step 0 (λ e. omega (arith, e, far)))
    ∙ ap (λ b. cond b (letter ∷ []) text) (not_le step far)
  where
    not_le : (step : ℕ) → 24 < step → nat_le step 24 ≡ false
    not_le step far = ⊎_elim (λ yes. absurd (omega (arith, leb-true step 24 yes, far))) (λ no_more. no_more) (cases_Bool (nat_le step 24))

-- Where the written form of a step stands at the front of a text, the front tells the step and what stands behind it.
pub record StandsFirst (step : ℕ) (rest : List ℕ) : Type 0 where
  pub byte : ℕ
  pub text : List ℕ
  pub is : step_text step ++ rest ≡ byte ∷ text
  pub tells : front_step byte text ≡ step
  pub leaves : behind_step byte text ≡ rest
  pub no_digit : is_ascii_digit byte ≡ false

pub stands_first : (step : ℕ) (rest : List ℕ) → step < 2 ^ 64 → StandsFirst step rest
stands_first zero rest small = record { byte = 46; text = rest; is = refl; tells = refl; leaves = refl; no_digit = refl }
stands_first (suc n) rest small = ⊎_elim far near (cases_Bool (nat_lt 24 (suc n)))
  where
    letter : ℕ
    letter = slice_index step_letters (suc n - 1)

    near : nat_lt 24 (suc n) ≡ false → StandsFirst (suc n) rest
    near few =
        let low : suc n ≤ 24 = ltb-false 24 (suc n) few in
        let known = step_letter (suc n - 1) (omega (arith, low)) in
        let no_dot = ne_eqb letter 46 (λ e. omega (arith, e, known.low)) in
        let no_bracket = ne_eqb letter 40 (λ e. omega (arith, e, known.low)) in
        let place = position_or_len (λ (other : ℕ). other == letter) step_letters in
        record {
          byte = letter;
          text = rest;
          is = ap (λ (t : List ℕ). t ++ rest) (step_text-letter (suc n) (omega arith) low);
          tells = ap (λ b. cond b 0 (cond (letter == 40) (front_number rest) (place + 1))) no_dot
              ∙ ap (λ b. cond b (front_number rest) (place + 1)) no_bracket ∙ (let is = known.place in omega (arith, is));
          leaves = ap (λ b. cond b (drop 1 (behind_number rest)) rest) no_bracket;
          no_digit = ap₂ (λ a b. a && b) (le-leb 48 letter (omega (arith, known.low))) (above letter known.low);
        }
      where
        above : (byte : ℕ) → 65 ≤ byte → nat_le byte 57 ≡ false
        above byte low = ⊎_elim (λ yes. absurd (omega (arith, leb-true byte 57 yes, low))) (λ no_more. no_more) (cases_Bool (nat_le byte 57))

    far : nat_lt 24 (suc n) ≡ true → StandsFirst (suc n) rest
    far many =
        let text : List ℕ = decimal (suc n) ++ 41 ∷ rest in
        let closed : BeginsNoDigit (41 ∷ rest) = record { none = refl } in
        record {
          byte = 40;
          text = text;
          is = ap (λ (t : List ℕ). t ++ rest) (step_text-far (suc n) (ltb-true 24 (suc n) many)) ∙ ap (λ (t : List ℕ). 40 ∷ t) (append_assoc (decimal (suc n)) (41 ∷ []) rest);
          tells = front_number-decimal (suc n) (41 ∷ rest) small closed;
          leaves = ap (drop 1) (behind_number-decimal (suc n) (41 ∷ rest) small closed);
          no_digit = refl;
        }

-- Behind a number in decimal stand steps, which begin with no digit.
pub steps-BeginsNoDigit : (path : List ℕ) → All (λ step. step < 2 ^ 64) path → BeginsNoDigit (flat_map step_text path)
steps-BeginsNoDigit [] small = record { none = refl }
steps-BeginsNoDigit (step ∷ path) small =
    let first = stands_first step (flat_map step_text path) (All-head (λ s. s < 2 ^ 64) step path small) in
    let P : List ℕ → Type 0 = λ text. is_ascii_digit (get_or text 0 0) ≡ false in
    record { none = subst P (sym first.is) first.no_digit }

-- A step has at least one byte.
pub step_text-some : (step : ℕ) → step < 2 ^ 64 → 0 < length (step_text step)
step_text-some step small =
    let first = stands_first step [] small in
    let long = ap length (sym (append-nil (step_text step)) ∙ first.is) in
    omega (arith, long)

length-steps : (path : List ℕ) → All (λ step. step < 2 ^ 64) path → length path ≤ length (flat_map step_text path)
length-steps [] small = omega arith
length-steps (step ∷ path) small =
    omega (arith, length-append (step_text step) (flat_map step_text path), step_text-some step (All-head (λ s. s < 2 ^ 64) step path small), length-steps path (All-tail (λ s. s < 2 ^ 64) step path small))

-- The steps of a path, written one after another, are told.
pub steps_of-text : (most : ℕ) (path : List ℕ) → All (λ step. step < 2 ^ 64) path → length path ≤ most → steps_of most (flat_map step_text path) ≡ path
steps_of-text zero [] small low = refl
steps_of-text (suc most) [] small low = refl
steps_of-text zero (step ∷ path) small low = absurd (omega (arith, low))
steps_of-text (suc most) (step ∷ path) small low =
    let first = stands_first step (flat_map step_text path) (All-head (λ s. s < 2 ^ 64) step path small) in
    ap (steps_of (suc most)) first.is
    ∙ ap₂ (λ (s : ℕ) (p : List ℕ). s ∷ p) first.tells
    (ap (steps_of most) first.leaves ∙ steps_of-text most path (All-tail (λ s. s < 2 ^ 64) step path small) (omega (arith, low)))

-- The label that was written is told.
pub label_in-text : (it : LabelOf) → it.number < 2 ^ 64 → All (λ step. step < 2 ^ 64) it.path → label_in (label_text it) ≡ it
label_in-text it low small =
    let steps = flat_map step_text it.path in
    let none = steps-BeginsNoDigit it.path small in
    same-label (label_in (label_text it)) it
    (front_number-decimal it.number steps low none)
    (ap (steps_of (length (label_text it))) (behind_number-decimal it.number steps low none)
    ∙ steps_of-text (length (label_text it)) it.path small (omega (arith, length-append (decimal it.number) steps, length-steps it.path small)))

-- Two labels are never written alike.
pub label_text-injective : (one other : LabelOf) → one.number < 2 ^ 64 → All (λ step. step < 2 ^ 64) one.path
    → other.number < 2 ^ 64 → All (λ step. step < 2 ^ 64) other.path → label_text one ≡ label_text other → one ≡ other
label_text-injective one other low small low' small' same = sym (label_in-text one low small) ∙ ap label_in same ∙ label_in-text other low' small'

-- What stands first in a text of steps, and what behind it.
pub steps-first : (step other : ℕ) (rest tail : List ℕ) → step < 2 ^ 64 → other < 2 ^ 64 → step_text step ++ rest ≡ step_text other ++ tail → (step ≡ other) × (rest ≡ tail)
steps-first step other rest tail small small' same =
    let one = stands_first step rest small in
    let two = stands_first other tail small' in
    let heads : one.byte ∷ one.text ≡ two.byte ∷ two.text = sym one.is ∙ same ∙ two.is in
    let byte : one.byte ≡ two.byte = ap (λ (t : List ℕ). get_or t 0 0) heads in
    let text : one.text ≡ two.text = ap (drop 1) heads in
    (sym one.tells ∙ ap₂ front_step byte text ∙ two.tells, sym one.leaves ∙ ap₂ behind_step byte text ∙ two.leaves)

-- The same of a number.
pub numbers-first : (n m : ℕ) (rest tail : List ℕ) → n < 2 ^ 64 → m < 2 ^ 64 → BeginsNoDigit rest → BeginsNoDigit tail → decimal n ++ rest ≡ decimal m ++ tail → (n ≡ m) × (rest ≡ tail)
numbers-first n m rest tail small small' none none' same = (
  sym (front_number-decimal n rest small none) ∙ ap front_number same ∙ front_number-decimal m tail small' none',
  sym (behind_number-decimal n rest small none) ∙ ap behind_number same ∙ behind_number-decimal m tail small' none',
)

-- A text spells one label at most.
pub small_steps : (path : List ℕ) → All (λ step. step ≤ step_limit) path → All (λ step. step < 2 ^ 64) path
small_steps path low = All-weaker (λ step. step ≤ step_limit) (λ step. step < 2 ^ 64) (λ step h. omega (arith, h)) path low

pub Spells-unique : {text : List ℕ} {one other : LabelOf} → Spells text one → Spells text other → one ≡ other
Spells-unique {text} {one} {other} first second =
    label_text-injective one other (omega (arith, first.low)) (small_steps one.path first.steps)
    (omega (arith, second.low)) (small_steps other.path second.steps) (first.written ∙ sym second.written)
