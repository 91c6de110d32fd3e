-- The sheets of locked pages, and those that stay but for their rounds.
use Rattle.std.specs.Prelude.{◌≡◌, ℕ, ◌<◌, List, length, map}
use Rattle.spec_labels.specs.PageRecords.{PageRecordOf, SheetOf, ArePageRecords, ArePages, AreStarts, Covers, sheets_of_records}
use Rattle.spec_state.specs.StateLabels.{page_label_of}

-- What the sheets of page records ask for.
pub record LockedSheets (rows : ℕ) (records : List PageRecordOf) (starts pages : List ℕ) : Type 0 where
  pub some : 0 < length records
  pub are : ArePageRecords records
  pub begin : AreStarts rows records starts
  pub pages_are : ArePages rows starts pages

-- They are the sheets of page records with the labels of these, with these first rows, on these pages.
pub record AreSheetsBefore (records : List PageRecordOf) (firsts pages : List ℕ) (sheets : List SheetOf) : Type 0 where
  pub rows : ℕ
  pub olds : List PageRecordOf
  pub labels : map page_label_of olds ≡ map page_label_of records
  pub are : sheets ≡ sheets_of_records rows olds firsts pages
  pub cover : Covers 0 sheets rows
