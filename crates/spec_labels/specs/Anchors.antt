-- The anchors of page records, as spots (docs/RULES.md, "Page records").
use Rattle.std.specs.Prelude.{◌≡◌, ◌≢◌, ◌⊎◌, ◌<◌, true, List, [], ◌∷◌, length, map, All, AllPairs}
use Rattle.spec_text.specs.Lines.{LineState}
use Rattle.spec_labels.specs.declared.RowKey.{RowKey}
use Rattle.spec_labels.specs.PageRecords.{PageRecordOf, line_at, end_line, is_before}
use Rattle.spec_labels.specs.Spots.{Spot, AtMost}

-- Where a record is anchored. The end has the place behind the last line, since no line has its id.
abbrev pub spot_of : List LineState → PageRecordOf → Spot
spot_of lines it = record { place = line_at lines it.line; row = it.row }

-- Behind all rows.
abbrev pub end_spot : List LineState → Spot
end_spot lines = record { place = length lines; row = 0 }

-- The anchors of records; the first begins with the text, whatever its anchor is.
abbrev pub spots_of : List LineState → List PageRecordOf → List Spot
spots_of lines [] = []
spots_of lines (it ∷ records) = record { place = 0; row = 0 } ∷ map (spot_of lines) records

-- A record is anchored at a line of the text, or at the end and its row 0.
abbrev pub IsAnchored : List LineState → PageRecordOf → Type 0
IsAnchored lines it = ((it.line ≡ end_line) × (it.row ≡ 0)) ⊎ (line_at lines it.line < length lines)

-- The anchor of one record isn't behind that of another.
abbrev pub NotBehind : List LineState → PageRecordOf → PageRecordOf → Type 0
NotBehind lines one other = AtMost (spot_of lines one) (spot_of lines other)

-- Records whose anchors are in the text or the end, and never go back.
pub record Anchored (lines : List LineState) (records : List PageRecordOf) : Type 0 where
  pub each : All (IsAnchored lines) records
  pub order : AllPairs AtMost (map (spot_of lines) records)
  pub within : All (λ spot. AtMost spot (end_spot lines)) (map (spot_of lines) records)

-- Keys of rows rise, and none is of the end.
pub record AreKeys (lines : List LineState) (keys : List RowKey) : Type 0 where
  pub rise : AllPairs (λ (one other : RowKey). is_before lines one other ≡ true) keys
  pub inside : All (λ (key : RowKey). key.line ≢ end_line) keys

-- The line of each key is in the text.
pub record ArePresent (lines : List LineState) (keys : List RowKey) : Type 0 where
  pub all : All (λ (key : RowKey). line_at lines key.line < length lines) keys
