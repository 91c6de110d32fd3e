-- What keys stand for, and entries that are added by them.
use Rattle.std.specs.Prelude.{◌≡◌, ℕ, Bool, List, map, Option, option_map}
use Rattle.std.specs.Borrow.{Bor}
use Rattle.std.specs.List.{position_or_len}
use Rattle.indexmap.specs.IndexSet.{insert_key}
use Rattle.spec_labels.specs.Labels.{LabelOf}
use Rattle.spec_cast.specs.Groups.{add_at}
use Rattle.sp_cast.specs.declared.keys.LabelKey.{LabelKey}

abbrev pub label_of : LabelKey → LabelOf
label_of key = record { number = key.number; path = key.path.now }

abbrev pub scene_of_key : Option LabelKey → Option LabelOf
scene_of_key key = option_map label_of key

abbrev pub lent_text : Bor (List ℕ) → List ℕ
lent_text text = text.now

-- An entry's value is put to those of the keys, and the entry to the group in its place.
pub record IsAdded {X K J : Type 0} (of : K → J) (same : J → J → Bool) (value : X → J) (keys more : List K) (groups next : List (List X)) (item : X) : Type 0 where
  pub values : map of more ≡ insert_key same (map of keys) (value item)
  pub groups_are : next ≡ add_at groups (position_or_len (same (value item)) (map of keys)) item
