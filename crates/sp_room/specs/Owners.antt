-- The seats that made the entries of a desk, and the ranges that they keep.
use Rattle.std.specs.Prelude.{◌≡◌, ℕ, List, [], ◌∷◌, ◌++◌, map}
use Rattle.spec_text.specs.Ranges.{RangeOf}
use Rattle.spec_machine.specs.Machine.{Memory}
use Rattle.spec_room.specs.Rooms.{ranges_of}

-- The seat that made an edit, and the edit's range.
pub record OwnerOf : Type 0 where
  pub seat : List ℕ
  pub range : RangeOf

abbrev pub seats_of : List OwnerOf → List (List ℕ)
seats_of owners = map (λ (owner : OwnerOf). owner.seat) owners

abbrev pub owned_ranges : List OwnerOf → List RangeOf
owned_ranges owners = map (λ (owner : OwnerOf). owner.range) owners

-- The owners stand beside the entries, with the same ranges.
pub record Own (desk : Memory) (did undid : List OwnerOf) : Type 0 where
  pub done : owned_ranges did ≡ ranges_of desk.done
  pub undone : owned_ranges undid ≡ ranges_of desk.undone

-- The owner stands last.
pub record IsLast (owners : List OwnerOf) (owner : OwnerOf) : Type 0 where
  pub before : List OwnerOf
  pub split : owners ≡ before ++ owner ∷ []

-- The last owner of one list goes behind the other list.
pub record MovesLast (from to from' to' : List OwnerOf) : Type 0 where
  pub owner : OwnerOf
  pub taken : from ≡ from' ++ owner ∷ []
  pub put : to' ≡ to ++ owner ∷ []
