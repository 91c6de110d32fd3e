-- What a packet asks of a sheet, by the places of records (docs/RULES.md, "Packets").
use Rattle.std.specs.Prelude.{ℕ, ◌+◌, ◌-◌, Bool, false, not, ◌||◌, ◌==◌, nat_lt, nat_le, if◌then◌else◌, List, [], ◌∷◌, ◌++◌, length, map, slice_range, Option, Some, None}
use Rattle.std.specs.List.{list_any, prefix_len}
use Rattle.spec_labels.specs.PageRecords.{SegmentOf, is_empty, SheetOf, segment_pages, page_sheets, runs_of}
use Rattle.spec_packet.specs.Packets.{LaidOf, speech_start, cue_end, goes_on_at}

-- Records from one place to another.
pub record PlacesOf : Type 0 where
  pub first : ℕ
  pub last : ℕ

-- The places of a sheet's first and last record; the number of pages of its segment, none where it is omitted; and where its
-- first row goes on with a speech, the places of the records that its cue comes from.
pub record SheetFactsOf : Type 0 where
  pub records : PlacesOf
  pub pages : ℕ
  pub cue : Option PlacesOf

-- One of the records is fresh.
abbrev pub itself : Bool → Bool
itself b = b

abbrev pub some_fresh : List Bool → PlacesOf → Bool
some_fresh fresh it = list_any itself (slice_range fresh it.first (it.last + 1))

abbrev pub cue_fresh : List Bool → Option PlacesOf → Bool
cue_fresh fresh None = false
cue_fresh fresh (Some it) = some_fresh fresh it

-- The record directly before a place is fresh, and the one directly behind it.
abbrev pub fresh_before : List Bool → ℕ → Bool
fresh_before fresh place = list_any itself (slice_range fresh (place - 1) place)

abbrev pub fresh_behind : List Bool → ℕ → Bool
fresh_behind fresh place = list_any itself (slice_range fresh (place + 1) (place + 2))

-- The packet has a sheet with labels of which these are the facts.
abbrev pub is_chosen : List Bool → SheetFactsOf → Bool
is_chosen fresh facts =
    some_fresh fresh facts.records
    || (if facts.pages == 0 then fresh_before fresh facts.records.first || fresh_behind fresh facts.records.last
    else nat_lt 1 facts.pages || cue_fresh fresh facts.cue)

-- The records of a cue: from that of the speech's first row up to the page's own, and up to that of the row behind the cue.
abbrev pub ends_behind : ℕ → SegmentOf → Bool
ends_behind row segment = nat_lt row segment.end

abbrev pub starts_by : ℕ → SegmentOf → Bool
starts_by row segment = nat_le segment.start row

abbrev pub places_between : ℕ → ℕ → List SegmentOf → PlacesOf
places_between first last segments = record {
  first = prefix_len (λ (it : SegmentOf). not (ends_behind first it)) segments;
  last = prefix_len (starts_by last) segments - 1;
}

abbrev pub cue_places : LaidOf → ℕ → Option PlacesOf
cue_places laid p = if goes_on_at laid.rows p then Some (places_between (speech_start laid.rows p) (cue_end laid.rows p) laid.segments) else None

-- The facts of the sheets of a run whose first record has this place.
abbrev pub page_facts : LaidOf → ℕ → SegmentOf → SheetOf → SheetFactsOf
page_facts laid place segment sheet = record { records = record { first = place; last = place }; pages = length (segment_pages segment laid.pages); cue = cue_places laid sheet.start }

abbrev pub run_facts : LaidOf → ℕ → List SegmentOf → List SheetFactsOf
run_facts laid place [] = []
run_facts laid place (segment ∷ others) =
    if is_empty segment then record { records = record { first = place; last = place + length others }; pages = 0; cue = None } ∷ []
    else map (page_facts laid place segment) (page_sheets segment 0 (segment_pages segment laid.pages))

abbrev pub runs_facts : LaidOf → ℕ → List (List SegmentOf) → List SheetFactsOf
runs_facts laid place [] = []
runs_facts laid place (run ∷ runs) = run_facts laid place run ++ runs_facts laid (place + length run) runs

-- The facts of the sheets with labels, in order.
abbrev pub laid_facts : LaidOf → List SheetFactsOf
laid_facts laid = runs_facts laid 0 (runs_of laid.segments)
