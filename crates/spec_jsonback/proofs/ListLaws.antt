-- Lists are written where their elements are, are no deeper, have no fraction where these have none, and are read back.
use Rattle.std.proofs.Common.{◌≡◌, ℕ, ◌≤◌, false, List, [], ◌∷◌, map, Option, refl, arith}
use Rattle.std.specs.Prelude.{Some, All}
use Rattle.std.proofs.lemmas.Bool.{or_from}
use Rattle.std.proofs.lemmas.List.Elements.{All-head, All-tail}
use Rattle.serde_json.specs.Data.{Data, depth, items_depth}
use Rattle.serde_json.specs.View.{items_of}
use Rattle.serde_json.specs.Written.{has_float, items_have_float}
use Rattle.spec_jsonback.specs.Lists.{number_data, all_in}
use Rattle.spec_jsonback.specs.Writable.{Writable, WritableItems}

pub WritableItems-list : {X : Type 0} (one : X → Data) (P : X → Type 0) (xs : List X) → ((x : X) → P x → Writable (one x)) → All P xs → WritableItems (items_of (map one xs))
WritableItems-list one P [] each all = tt
WritableItems-list one P (x ∷ xs) each all = (each x (All-head P x xs all), WritableItems-list one P xs each (All-tail P x xs all))

pub items_depth-list : {X : Type 0} (one : X → Data) (n : ℕ) (xs : List X) → ((x : X) → depth (one x) ≤ n) → items_depth (items_of (map one xs)) ≤ n
items_depth-list one n [] each = omega arith
items_depth-list one n (x ∷ xs) each = omega (arith, each x, items_depth-list one n xs each)

pub depth-number : (n : ℕ) → depth (number_data n) ≤ 0
depth-number n = omega arith

pub items_have_float-list : {X : Type 0} (one : X → Data) → ((x : X) → has_float (one x) ≡ false) → (xs : List X) → items_have_float (items_of (map one xs)) ≡ false
items_have_float-list one each [] = refl
items_have_float-list one each (x ∷ xs) = or_from _ _ (each x) (items_have_float-list one each xs)

-- Each item is read back where each element is.
pub list_in-data : {X : Type 0} (one : Data → Option X) (told : X → Data) (P : X → Type 0) (xs : List X) → ((x : X) → P x → one (told x) ≡ Some x) → All P xs
    → all_in one (items_of (map told xs)) ≡ Some xs
list_in-data one told P [] back all = refl
list_in-data one told P (x ∷ xs) back all = rw (back x (All-head P x xs all), list_in-data one told P xs back (All-tail P x xs all))
