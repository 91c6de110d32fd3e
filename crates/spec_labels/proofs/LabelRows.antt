-- Telling labels (docs/RULES.md, "Labels").
use Rattle.std.proofs.Common.{◌≡◌, ℕ, List, [], ◌∷◌, Some, None, refl}
use Rattle.std.specs.Prelude.{codes, map, replicate}
use Rattle.std.specs.Fmt.{digits}
use Rattle.spec_labels.specs.Labels.{LabelOf, plain_label, label_text, Below, between}
use Rattle.spec_labels.specs.LabelReading.{label_read}

-- The label of a number and steps.
abbrev label : ℕ → List ℕ → LabelOf
label number path = record { number = number; path = path }

-- Between 12 and 13 come 12A, 12J as the ninth, and 12(25) as the twenty-fifth.
pub first_between : label_text (between (plain_label 12) (Some (plain_label 13)) 1) ≡ codes "12A"
unfolding digits
first_between = refl

pub ninth_between : label_text (between (plain_label 12) (Some (plain_label 13)) 9) ≡ codes "12J"
unfolding digits
ninth_between = refl

pub last_letter_between : label_text (between (plain_label 12) (Some (plain_label 13)) 24) ≡ codes "12Z"
unfolding digits
last_letter_between = refl

pub in_brackets_between : label_text (between (plain_label 12) (Some (plain_label 13)) 25) ≡ codes "12(25)"
unfolding digits
in_brackets_between = refl

-- Before a label that has steps behind the lower one stands one zero step more.
pub before_extension : label_text (between (plain_label 12) (Some (label 12 (1 ∷ []))) 1) ≡ codes "12.A"
unfolding digits
before_extension = refl

pub before_zero_step : label_text (between (plain_label 12) (Some (label 12 (0 ∷ 1 ∷ []))) 1) ≡ codes "12..A"
unfolding digits
before_zero_step = refl

pub before_two_steps : label_text (between (plain_label 12) (Some (label 12 (1 ∷ 2 ∷ []))) 1) ≡ codes "12.A"
unfolding digits
before_two_steps = refl

pub behind_steps : label_text (between (label 12 (1 ∷ [])) (Some (label 12 (2 ∷ []))) 1) ≡ codes "12AA"
unfolding digits
behind_steps = refl

-- Behind the last label the number rises.
pub behind_all : label_text (between (plain_label 12) None 1) ≡ codes "13"
unfolding digits
behind_all = refl

pub behind_all_steps : label_text (between (label 12 (1 ∷ [])) None 3) ≡ codes "15"
unfolding digits
behind_all_steps = refl

-- 12 is before 12..A, that before 12.A, then come 12A, 12AA, 12B and 13.
pub before_two_zeros : Below (plain_label 12) (label 12 (0 ∷ 0 ∷ 1 ∷ []))
before_two_zeros = record { less = refl }

pub two_zeros_before_one : Below (label 12 (0 ∷ 0 ∷ 1 ∷ [])) (label 12 (0 ∷ 1 ∷ []))
two_zeros_before_one = record { less = refl }

pub zero_before_letter : Below (label 12 (0 ∷ 1 ∷ [])) (label 12 (1 ∷ []))
zero_before_letter = record { less = refl }

pub prefix_before_longer : Below (label 12 (1 ∷ [])) (label 12 (1 ∷ 1 ∷ []))
prefix_before_longer = record { less = refl }

pub longer_before_next_letter : Below (label 12 (1 ∷ 1 ∷ [])) (label 12 (2 ∷ []))
longer_before_next_letter = record { less = refl }

pub letter_before_number : Below (label 12 (2 ∷ [])) (plain_label 13)
letter_before_number = record { less = refl }

-- What a text spells: 12A, a step in brackets, the greatest number.
pub reads_letter : label_read (codes "12A") ≡ Some (label 12 (1 ∷ []))
unfolding digits
reads_letter = refl

pub reads_brackets : label_read (codes "1(25)A") ≡ Some (label 1 (25 ∷ 1 ∷ []))
unfolding digits
reads_brackets = refl

pub reads_zero_steps : label_read (codes "0..Z") ≡ Some (label 0 (0 ∷ 0 ∷ 24 ∷ []))
unfolding digits
reads_zero_steps = refl

pub reads_greatest_number : label_read (codes "4000000000") ≡ Some (plain_label 4000000000)
unfolding digits
reads_greatest_number = refl

pub reads_greatest_step : label_read (codes "1(16777216)") ≡ Some (label 1 (16777216 ∷ []))
unfolding digits
reads_greatest_step = refl

-- What is no label: a zero step at the end, other letters and signs, a leading zero, a letter's step in brackets, numbers past their limits.
pub reads_none :
    map label_read (codes "12." ∷ codes "12I" ∷ codes "12O" ∷ codes "12a" ∷ codes "012" ∷ codes "1-A" ∷ codes "" ∷ codes "A" ∷ codes "A(25)" ∷ codes "(24)"
    ∷ codes "1(24)" ∷ codes "1(025)" ∷ codes "1(25" ∷ codes "1(25)." ∷ codes " 1" ∷ codes "4000000001" ∷ codes "1(16777217)" ∷ [])
    ≡ replicate 17 None
unfolding digits
reads_none = refl
