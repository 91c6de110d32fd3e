-- Numbers and lists as JSON values: what is written of them, and what is read.
use Rattle.std.specs.Prelude.{ℕ, List, [], ◌∷◌, map, Option, Some, option_map, option_and_then}
use Rattle.serde_json.specs.Data.{Data, number, unsigned, array, Items, no_items, item}
use Rattle.serde_json.specs.Find.{as_number, as_u64, as_array}
use Rattle.serde_json.specs.View.{items_of}

-- ---- written

abbrev pub number_data : ℕ → Data
number_data n = number (unsigned n)

abbrev pub list_data : {X : Type 0} → (X → Data) → List X → Data
list_data one xs = array (items_of (map one xs))

-- ---- read, where the value is of the kind

-- A whole number from 0 to 2^64 - 1, written without sign, fraction or exponent.
abbrev pub number_in : Data → Option ℕ
number_in d = option_and_then as_u64 (as_number d)

-- Each item of a list, where each is of the kind.
abbrev pub all_in : {X : Type 0} → (Data → Option X) → Items → Option (List X)
all_in one no_items = Some []
all_in one (item d ds) = option_and_then (λ x. option_map (λ xs. x ∷ xs) (all_in one ds)) (one d)

abbrev pub list_in : {X : Type 0} → (Data → Option X) → Data → Option (List X)
list_in one d = option_and_then (all_in one) (as_array d)
