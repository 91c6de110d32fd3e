-- The collation of bytes (docs/RULES.md, "Collation").
use Rattle.std.specs.Prelude.{ℕ, List}
use Rattle.spec_packet.specs.SheetLists.{list_bytes}
use Rattle.spec_packet.specs.SheetReadings.{SheetsReading, sheets, broken, sheets_in}
use Rattle.spec_packet.specs.Collations.{collation}

-- What becomes of two files: the bytes of their collation; or the number of the file that is no list of sheets, and that of the
-- first sheet that breaks it.
pub data Collating : Type 0 where
  collated_bytes : List ℕ → Collating
  bad_sheets : ℕ → ℕ → Collating

abbrev pub collating_lists : SheetsReading → SheetsReading → Collating
collating_lists (broken place) new = bad_sheets 0 place
collating_lists (sheets old) (broken place) = bad_sheets 1 place
collating_lists (sheets old) (sheets new) = collated_bytes (list_bytes (collation old new))

abbrev pub collating : List ℕ → List ℕ → Collating
collating old new = collating_lists (sheets_in old) (sheets_in new)
