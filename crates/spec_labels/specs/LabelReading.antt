-- Which label a text spells (docs/RULES.md, "Labels").
use Rattle.std.specs.Prelude.{◌≡◌, ℕ, zero, suc, ◌+◌, ◌≤◌, nat_lt, nat_le, Bool, false, ◌&&◌, ◌==◌, if◌then◌else◌, List, [], ◌∷◌, length, drop, take_while, slice_index, All, Option, Some, None, unwrap_or, bytes_eq}
use Rattle.std.specs.Char.{is_ascii_digit}
use Rattle.std.specs.List.{list_all, position_or_len, prefix_len}
use Rattle.std.specs.Str.Parse.{digits_value}
use Rattle.spec_labels.specs.Labels.{LabelOf, IsLabel, last_step, step_letters, label_text}

-- The greatest number, and the greatest step, of a label that is read.
abbrev pub number_limit : ℕ
number_limit = 4000000000

abbrev pub step_limit : ℕ
step_limit = 16777216

-- The text is the written form of this label, which keeps the limits of labels that are read.
pub record Spells (text : List ℕ) (it : LabelOf) : Type 0 where
  pub is_label : IsLabel it
  pub low : it.number ≤ number_limit
  pub steps : All (λ step. step ≤ step_limit) it.path
  pub written : label_text it ≡ text

-- What reading a text as a label answers: the label that it spells, or none where it spells none.
abbrev pub IsReading : List ℕ → Option LabelOf → Type 0
IsReading text (Some it) = Spells text it
IsReading text None = (it : LabelOf) → Spells text it → ⊥

-- The text begins with no digit, as what stands behind a number does.
pub record BeginsNoDigit (text : List ℕ) : Type 0 where
  pub none : is_ascii_digit (slice_index text 0) ≡ false

-- The number at the front of a text, by its digits, and what stands behind them.
abbrev pub front_number : List ℕ → ℕ
front_number text = digits_value 10 (take_while is_ascii_digit text)

abbrev pub behind_number : List ℕ → List ℕ
behind_number text = drop (prefix_len is_ascii_digit text) text

-- The step at the front of a text that is not empty, where it is one: a dot, a number in brackets, or else a letter.
abbrev pub front_step : ℕ → List ℕ → ℕ
front_step byte text = if byte == 46 then 0 else (if byte == 40 then front_number text else position_or_len (λ letter. letter == byte) step_letters + 1)

abbrev pub behind_step : ℕ → List ℕ → List ℕ
behind_step byte text = if byte == 40 then drop 1 (behind_number text) else text

-- The steps of a text, at most so many.
abbrev pub steps_of : ℕ → List ℕ → List ℕ
steps_of zero text = []
steps_of (suc most) [] = []
steps_of (suc most) (byte ∷ text) = front_step byte text ∷ steps_of most (behind_step byte text)

-- The label that a text would spell.
abbrev pub label_in : List ℕ → LabelOf
label_in text = record { number = front_number text; path = steps_of (length text) (behind_number text) }

-- The text is the written form of this label, which keeps the limits.
abbrev pub is_spelled : List ℕ → LabelOf → Bool
is_spelled text it =
    nat_lt 0 (unwrap_or (last_step it.path) 1) && nat_le it.number number_limit && list_all (λ step. nat_le step step_limit) it.path && bytes_eq (label_text it) text

-- The label that a text spells, if it does.
abbrev pub label_read : List ℕ → Option LabelOf
label_read text = if is_spelled text (label_in text) then Some (label_in text) else None
