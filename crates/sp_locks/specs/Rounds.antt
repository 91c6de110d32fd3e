-- Sheets apart from their rounds (docs/RULES.md, "Page records").
use Rattle.std.specs.Prelude.{◌≡◌, ℕ, List, map}
use Rattle.spec_labels.specs.PageRecords.{SheetOf}

-- A sheet in this round.
abbrev pub in_round : ℕ → SheetOf → SheetOf
in_round round sheet = record { first = sheet.first; last = sheet.last; start = sheet.start; end = sheet.end; round = round; omitted = sheet.omitted }

-- The sheets are the others but for their rounds.
pub record AreButForRounds (sheets others : List SheetOf) : Type 0 where
  pub same : map (in_round 0) sheets ≡ map (in_round 0) others
