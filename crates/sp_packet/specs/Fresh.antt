-- Fresh records, counted, and the sheets that are handed out by these counts.
use Rattle.std.specs.Prelude.{ℕ, ◌+◌, ◌-◌, Bool, false, ◌||◌, ◌==◌, nat_lt, if◌then◌else◌, List, [], ◌∷◌, slice_index_or, Option, Some, None}
use Rattle.spec_labels.specs.PageRecords.{PageRecordOf}
use Rattle.spec_packet.specs.SheetFacts.{PlacesOf, SheetFactsOf}

-- A record is fresh where it last changed in this round.
abbrev pub is_of_round : ℕ → PageRecordOf → Bool
is_of_round round it = it.changed == round

-- How many of the first records are fresh, for each number of them from 0 on; and how many of all.
pub record FreshCounts : Type 0 where
  pub counts : List ℕ
  pub total : ℕ

abbrev pub one_more : ℕ → Bool → ℕ
one_more count fresh = if fresh then count + 1 else count

-- The counts behind so many fresh records.
abbrev pub counts_behind : ℕ → List Bool → List ℕ
counts_behind count [] = []
counts_behind count (fresh ∷ later) = one_more count fresh ∷ counts_behind (one_more count fresh) later

abbrev pub count_of : ℕ → List Bool → ℕ
count_of count [] = count
count_of count (fresh ∷ later) = count_of (one_more count fresh) later

abbrev pub counts_of : List Bool → FreshCounts
counts_of fresh = record { counts = 0 ∷ counts_behind 0 fresh; total = count_of 0 fresh }

-- How many of the records before a place are fresh, and whether one from a place on to before another is.
abbrev pub count_before : FreshCounts → ℕ → ℕ
count_before it place = slice_index_or it.counts place it.total

abbrev pub has_fresh : FreshCounts → ℕ → ℕ → Bool
has_fresh it from to = nat_lt (count_before it from) (count_before it to)

abbrev pub has_fresh_cue : FreshCounts → Option PlacesOf → Bool
has_fresh_cue it None = false
has_fresh_cue it (Some places) = has_fresh it places.first (places.last + 1)

-- The sheet of these facts is handed out.
abbrev pub is_handed_by : FreshCounts → SheetFactsOf → Bool
is_handed_by it facts =
    has_fresh it facts.records.first (facts.records.last + 1)
    || (if facts.pages == 0 then has_fresh it (facts.records.first - 1) facts.records.first || has_fresh it (facts.records.last + 1) (facts.records.last + 2)
    else nat_lt 1 facts.pages || has_fresh_cue it facts.cue)
