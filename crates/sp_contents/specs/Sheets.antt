-- Sheets one behind the other.
use Rattle.std.specs.Prelude.{◌≡◌, ℕ, ◌<◌, ◌≤◌, nat_le, if◌then◌else◌, List, length, All, AllPairs, slice_get, Option, Some, None}
use Rattle.spec_labels.specs.PageRecords.{SheetOf}

-- No sheet ends before it begins, and none begins before an earlier one ends.
pub record AreInTurn (sheets : List SheetOf) : Type 0 where
  pub order : All (λ (sheet : SheetOf). sheet.start ≤ sheet.end) sheets
  pub turn : AllPairs (λ (one other : SheetOf). one.end ≤ other.start) sheets

-- So many sheets end at a row or before it.
pub record EndBefore (sheets : List SheetOf) (row count : ℕ) : Type 0 where
  pub within : count ≤ length sheets
  pub before : (i : ℕ) (it : SheetOf) → slice_get sheets i ≡ Some it → i < count → it.end ≤ row
  pub behind : (i : ℕ) (it : SheetOf) → slice_get sheets i ≡ Some it → count ≤ i → row < it.end

-- The sheet, where it doesn't begin behind a row.
abbrev pub if_begun : ℕ → Option SheetOf → Option SheetOf
if_begun row None = None
if_begun row (Some sheet) = if nat_le sheet.start row then Some sheet else None
