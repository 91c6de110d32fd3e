-- Runs of records without rows, by the first rows of records; and the facts of the pages of one record.
use Rattle.std.specs.Prelude.{ℕ, ◌+◌, ◌<◌, Bool, nat_le, nat_lt, if◌then◌else◌, List, [], ◌∷◌, slice_index_or, Option, Some, None}
use Rattle.spec_pages.specs.declared.Shape.{Shape}
use Rattle.spec_labels.specs.PageRecords.{SheetOf}
use Rattle.spec_packet.specs.SheetFacts.{PlacesOf, SheetFactsOf}
use Rattle.sp_packet.specs.Cues.{places_by}

-- How many of the first records have no rows, in a text of so many rows.
abbrev pub empty_run : ℕ → List ℕ → ℕ
empty_run rows [] = 0
empty_run rows (start ∷ starts) = if nat_le (slice_index_or starts 0 rows) start then 1 + empty_run rows starts else 0

abbrev pub starts_before : ℕ → SheetOf → Bool
starts_before row sheet = nat_lt sheet.start row

-- The facts of a page of the record at a place, which has so many.
abbrev pub facts_by : List ℕ → List Shape → ℕ → ℕ → SheetOf → SheetFactsOf
facts_by starts shapes place pages sheet = record { records = record { first = place; last = place }; pages = pages; cue = places_by starts shapes sheet.start }

-- Places of so many records.
abbrev pub LiesBelow : ℕ → Option PlacesOf → Type 0
LiesBelow count None = Unit {0}
LiesBelow count (Some places) = places.last < count

pub record LieWithin (count : ℕ) (facts : SheetFactsOf) : Type 0 where
  pub records_are : facts.records.last < count
  pub cue_is : LiesBelow count facts.cue
