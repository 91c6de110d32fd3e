-- The sheets of pages that aren't locked, by the marks of rows alone.
use Rattle.std.specs.Prelude.{◌≡◌, ℕ, ◌+◌, ◌<◌, ◌≤◌, max, false, List, [], ◌∷◌, length, take, drop, map, fold, All, slice_range, slice_index_or}
use Rattle.spec_labels.specs.Labels.{plain_label}
use Rattle.spec_labels.specs.PageRecords.{SheetOf}
use Rattle.spec_sheets.specs.Shown.{Shown}
use Rattle.sp_gap.specs.Moves.{shifted, CanShift}
use Rattle.sp_sheets.specs.declared.numbered.Stale.{Stale}

abbrev pub mark_of : Shown → ℕ
mark_of it = it.mark

abbrev pub numbered_sheet : ℕ → ℕ → ℕ → ℕ → SheetOf
numbered_sheet number start end round = record { first = plain_label number; last = plain_label number; start = start; end = end; round = round; omitted = false }

abbrev pub marked_sheet : List ℕ → ℕ → ℕ → ℕ → SheetOf
marked_sheet marks number start end = numbered_sheet number start end (fold max 0 (slice_range marks start end))

abbrev pub marked_sheets : List ℕ → ℕ → List ℕ → List SheetOf
marked_sheets marks number [] = []
marked_sheets marks number (page ∷ later) = marked_sheet marks number page (slice_index_or later 0 (length marks)) ∷ marked_sheets marks (number + 1) later

-- The sheets of pages of so many rows, where no row is marked.
abbrev pub unmarked_sheets : ℕ → ℕ → List ℕ → List SheetOf
unmarked_sheets rows number [] = []
unmarked_sheets rows number (page ∷ later) = numbered_sheet number page (slice_index_or later 0 rows) 0 ∷ unmarked_sheets rows (number + 1) later

-- They are the sheets of these pages, of so many rows, where no row is marked.
pub record AreUnmarked (sheets : List SheetOf) (pages : List ℕ) : Type 0 where
  pub rows : ℕ
  pub are : sheets ≡ unmarked_sheets rows 1 pages

-- A sheet whose rows are less and more by so much.
abbrev pub moved_sheet : ℕ → ℕ → SheetOf → SheetOf
moved_sheet less more it = record { first = it.first; last = it.last; start = shifted less more it.start; end = shifted less more it.end; round = it.round; omitted = it.omitted }

-- A sheet whose rows can be moved so.
pub record CanMoveSheet (less more : ℕ) (it : SheetOf) : Type 0 where
  pub start : CanShift less more it.start
  pub end : CanShift less more it.end

-- A sheet whose rows can be less by so much.
pub record CanLessen (less : ℕ) (it : SheetOf) : Type 0 where
  pub start : less ≤ it.start
  pub end : less ≤ it.end

-- These sheets, moved, are the others.
pub record AreMoved (less more : ℕ) (sheets others : List SheetOf) : Type 0 where
  pub can : All (CanLessen less) sheets
  pub same : map (moved_sheet less more) sheets ≡ others

-- These sheets are the others before one place, and from another on too once they are moved, where that is the place of a sheet.
pub record AreMovedOutside (sheets others : List SheetOf) (stale : Stale) : Type 0 where
  pub order : stale.from ≤ stale.to
  pub within : stale.from ≤ length sheets
  pub before : take stale.from sheets ≡ take stale.from others
  pub behind : stale.to < length sheets → AreMoved stale.less stale.more (drop stale.to sheets) (drop stale.to others)
