-- Where the records of lines stand.
use Rattle.std.specs.Prelude.{ℕ, ◌≡◌, ◌<◌, List, length, map, slice_index, All, Contains}
use Rattle.std.specs.List.Sorted.{IsNonDecreasingBy}
use Rattle.spec_labels.specs.Scenes.{SceneRecordOf}
use Rattle.sp_scenes.specs.declared.places.LinePlace.{LinePlace}

-- The lines of records, in their order.
abbrev pub record_lines : List SceneRecordOf → List ℕ
record_lines records = map (λ (it : SceneRecordOf). it.line) records

-- The entry of the record at a place.
abbrev pub entry_at : List SceneRecordOf → ℕ → LinePlace
entry_at records place = record { line = slice_index (record_lines records) place; place = place }

-- The entry tells where its line's record stands.
pub record Stands (records : List SceneRecordOf) (entry : LinePlace) : Type 0 where
  pub inside : entry.place < length records
  pub is : slice_index (record_lines records) entry.place ≡ entry.line

-- The entries are sorted by line, each tells where its line's record stands, and each record has its entry.
pub record ArePlaces (records : List SceneRecordOf) (places : List LinePlace) : Type 0 where
  pub sorted : IsNonDecreasingBy (λ (entry : LinePlace). entry.line) places
  pub stand : All (Stands records) places
  pub known : (place : ℕ) → place < length records → Contains places (entry_at records place)
