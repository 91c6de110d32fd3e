-- Which page records can be carried over a change of lines (docs/RULES.md, "Page records").
use Rattle.std.specs.Prelude.{IsTrue, ◌==◌, ◌||◌, List}
use Rattle.std.specs.List.{list_any}
use Rattle.spec_text.specs.Lines.{LineState}
use Rattle.spec_labels.specs.PageRecords.{PageRecordOf, end_line, is_present}

-- A record's line is in the text, is the end, or is displaced.
abbrev pub CanCarry : List LineState → List LineState → PageRecordOf → Type 0
CanCarry lines displaced it = IsTrue ((it.line == end_line) || is_present lines it.line || list_any (λ (line : LineState). line.id == it.line) displaced)
