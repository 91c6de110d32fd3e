-- The stops of pages (docs/RULES.md, "Pages").
use Rattle.std.specs.Prelude.{ℕ, List, ◌++◌}
use Rattle.spec_pages.specs.Rows.{ElementOf}
use Rattle.sp_layout.specs.LaidOut.{rows_before}

-- The rows before which page breaks stand, elements of a body at these places, and the first rows of page records.
abbrev pub stops_at : List ElementOf → List ℕ → List ℕ → List ℕ
stops_at elements breaks starts = rows_before elements breaks ++ starts
