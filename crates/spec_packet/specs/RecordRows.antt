-- A text as the rows of its page records, at the opening and now (docs/RULES.md, "Packets").
use Rattle.std.specs.Prelude.{◌≡◌, ℕ, ◌+◌, false, ◌==◌, List, [], ◌∷◌, ◌++◌, length, slice_get, Option, option_map}
use Rattle.std.specs.List.{flat_map}
use Rattle.spec_labels.specs.Labels.{LabelOf}
use Rattle.spec_labels.specs.PageRecords.{PageRecordOf, SegmentOf}
use Rattle.spec_state.specs.SameRows.{BareRow}

-- A page record with the rows of its segment.
pub record RecordRows : Type 0 where
  pub owner : PageRecordOf
  pub rows : List BareRow

abbrev pub rows_of : RecordRows → List BareRow
rows_of it = it.rows

-- The rows of all records.
abbrev pub all_rows : List RecordRows → List BareRow
all_rows records = flat_map rows_of records

abbrev pub next_label : List RecordRows → Option LabelOf
next_label records = option_map (λ (it : RecordRows). it.owner.label) (slice_get records 0)

-- A record's segment behind these rows.
abbrev pub segment_behind : List BareRow → RecordRows → List RecordRows → SegmentOf
segment_behind before it later = record { owner = it.owner; next = next_label later; start = length before; end = length before + length it.rows }

-- The segments of records, where these rows stand before them.
abbrev pub segments_from : List BareRow → List RecordRows → List SegmentOf
segments_from before [] = []
segments_from before (it ∷ later) = segment_behind before it later ∷ segments_from (before ++ it.rows) later

-- A record at the opening and now.
pub record RowsBoth : Type 0 where
  pub was : RecordRows
  pub now : RecordRows

abbrev pub were_of : RowsBoth → RecordRows
were_of both = both.was

abbrev pub are_of : RowsBoth → RecordRows
are_of both = both.now

-- A record keeps its label, and one that isn't fresh has the rows and the round that it had.
pub record StaysStale (round : ℕ) (both : RowsBoth) : Type 0 where
  pub label : both.was.owner.label ≡ both.now.owner.label
  pub changed : (both.now.owner.changed == round) ≡ false → both.was.owner.changed ≡ both.now.owner.changed
  pub rows : (both.now.owner.changed == round) ≡ false → both.was.rows ≡ both.now.rows
