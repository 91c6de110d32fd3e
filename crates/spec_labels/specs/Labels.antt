-- Labels: how they are written, their order, and the labels between two others (docs/RULES.md, "Labels").
use Rattle.std.specs.Prelude.{◌≡◌, ℕ, ◌+◌, ◌-◌, ◌<◌, nat_le, nat_eq, Bool, ◌==◌, ◌&&◌, if◌then◌else◌, List, [], ◌∷◌, ◌++◌, length, drop, replicate, slice_get, slice_index, flat_map, AllPairs, IfSome, Option, Some, None, decimal, codes}
use Rattle.std.specs.List.{prefix_len, starts_with}
use Rattle.std.specs.Cmp.Lexicographic.{slice_cmp}
use Rattle.std.specs.Ordering.{nat_cmp, ordering_then, is_lt}
use Rattle.std.specs.declared.cmp.Ordering.{Ordering}
use Rattle.std.specs.declared.cmp.Ordering.TheVariants.{Less}

-- A number, and a path of steps behind it.
pub record LabelOf : Type 0 where
  pub number : ℕ
  pub path : List ℕ

-- The label of this number without steps.
abbrev pub plain_label : ℕ → LabelOf
plain_label number = record { number = number; path = [] }

-- The last step of a path, where it has one.
abbrev pub last_step : List ℕ → Option ℕ
last_step path = slice_get path (length path - 1)

-- The path is empty or ends in a step above 0.
pub record IsLabel (it : LabelOf) : Type 0 where
  pub ends : IfSome (last_step it.path) (λ step. 0 < step)

-- A to Z without I and O, the letters of the steps 1 to 24.
abbrev pub step_letters : List ℕ
step_letters = codes "ABCDEFGHJKLMNPQRSTUVWXYZ"

-- A step, written: 0 as a dot, 1 to 24 as a letter, every greater one in brackets.
abbrev pub step_text : ℕ → List ℕ
step_text step =
    if step == 0 then codes "."
    else (if nat_le step 24 then slice_index step_letters (step - 1) ∷ [] else codes "(" ++ decimal step ++ codes ")")

-- A label, written: its number in decimal, then each step.
abbrev pub label_text : LabelOf → List ℕ
label_text it = decimal it.number ++ flat_map step_text it.path

-- The order of labels: by number, then by path, step by step, a prefix first.
abbrev pub label_cmp : LabelOf → LabelOf → Ordering
label_cmp one other = ordering_then (nat_cmp one.number other.number) (slice_cmp nat_cmp one.path other.path)

-- One label comes before another.
pub record Below (one other : LabelOf) : Type 0 where
  pub less : label_cmp one other ≡ Less

-- Labels rise strictly: each is below every later one.
abbrev pub Rising : List LabelOf → Type 0
Rising labels = AllPairs Below labels

-- An item goes into a list by its label.
abbrev pub placed_by : {X : Type 0} → (X → LabelOf) → List X → X → List X
placed_by label [] new = new ∷ []
placed_by label (it ∷ items) new = if is_lt (label_cmp (label it) (label new)) then it ∷ placed_by label items new else new ∷ it ∷ items

-- The second label is the first one, or it with further steps.
abbrev pub is_extended_by : LabelOf → LabelOf → Bool
is_extended_by one other = (one.number == other.number) && starts_with nat_eq other.path one.path

-- How many zero steps stand before the first step above 0.
abbrev pub leading_zeros : List ℕ → ℕ
leading_zeros path = prefix_len (λ step. step == 0) path

-- The zero steps of a label between these two: none, or one more than the second has behind the first.
abbrev pub zeros_between : LabelOf → LabelOf → List ℕ
zeros_between low high = if is_extended_by low high then replicate (leading_zeros (drop (length low.path) high.path) + 1) 0 else []

-- The m-th label behind one and before the next, where there is a next one.
abbrev pub between : LabelOf → Option LabelOf → ℕ → LabelOf
between low None m = plain_label (low.number + m)
between low (Some high) m = record { number = low.number; path = low.path ++ zeros_between low high ++ m ∷ [] }
