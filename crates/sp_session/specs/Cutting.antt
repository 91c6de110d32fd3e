-- What asking for the next command line does (docs/RULES.md, "Sessions").
use Rattle.std.specs.Prelude.{◌≡◌, ℕ, ◌+◌, ◌<◌, ◌≤◌, List, [], ◌∷◌, ◌++◌, length, Ok, Err}
use Rattle.std.specs.declared.result.Result.{Result}
use Rattle.std.specs.Io.KnownBytes.{Consumes, IsAtEnd}
use Rattle.sp_kit.specs.Causes.{Rose}
use Rattle.sp_kit.specs.Outside.{SourceState}
use Rattle.spec_session.specs.CommandLines.{command_limit, command_count_limit, piece_limit, HasNoFeed, IsShort}
use Rattle.sp_session.specs.declared.lines.NextLine.{NextLine}
use Rattle.sp_session.specs.declared.lines.NextLine.TheVariants as nexts
use Rattle.sp_session.specs.declared.lines.LineStop.{LineStop}
use Rattle.sp_session.specs.declared.lines.LineStop.TheVariants as stops
use Rattle.sp_session.specs.CutState.{CutState, HasBudget, Pends}

-- The line is one that a session may have, and is counted.
pub record IsLine (before after : CutState) : Type 0 where
  pub plain : HasNoFeed after.line
  pub short : IsShort after.line
  pub count : after.count ≡ before.count + 1
  pub within : after.count ≤ command_count_limit

-- A line with its line feed, and what follows it: less than one call may give, where that was so before.
pub record IsWhole (before after : CutState) (bytes : List ℕ) : Type 0 where
  pub line : IsLine before after
  pub split : before.pending ++ bytes ≡ after.line ++ 10 ∷ after.pending
  pub few : length before.pending < piece_limit → length after.pending < piece_limit

-- What followed the last line feed, at the end of the source.
pub record IsLast (new : SourceState) (before after : CutState) (bytes : List ℕ) : Type 0 where
  pub line : IsLine before after
  pub some : 0 < length after.line
  pub split : before.pending ++ bytes ≡ after.line
  pub none : after.pending ≡ []
  pub at_end : IsAtEnd new.unread

-- The source is at its end, and nothing is left.
pub record IsEnd (new : SourceState) (before after : CutState) (bytes : List ℕ) : Type 0 where
  pub split : before.pending ++ bytes ≡ []
  pub none : after.pending ≡ []
  pub count : after.count ≡ before.count
  pub at_end : IsAtEnd new.unread

-- The source failed; what is pending may still become a line.
pub record IsReadFault (old new : SourceState) (before after : CutState) (bytes : List ℕ) : Type 0 where
  pub pends : Pends before after bytes
  pub plain : HasNoFeed after.pending
  pub short : IsShort after.pending
  pub room : 0 < length after.pending → after.count < command_count_limit
  pub rose : Rose old.faults new.faults

-- The line with this number, which is the next, is one byte too long so far.
pub record IsLong (before after : CutState) (bytes : List ℕ) (number : ℕ) : Type 0 where
  pub pends : Pends before after bytes
  pub number_is : number ≡ after.count
  pub plain : HasNoFeed after.pending
  pub long : length after.pending ≡ command_limit + 1

-- All lines that a session may have were handed out, and a byte came behind them.
pub record IsMore (before after : CutState) (bytes : List ℕ) : Type 0 where
  pub pends : Pends before after bytes
  pub full : after.count ≡ command_count_limit
  pub one : length after.pending ≡ 1

-- What is left at the end of the source is handed out, where it has a byte.
abbrev pub CutsLast : CutState → CutState → NextLine → Type 0
CutsLast before after nexts.Whole = ⊥
CutsLast before after nexts.Last =
    (after.line ≡ before.pending) × (0 < length after.line) × (after.pending ≡ []) × (after.count ≡ before.count + 1)
CutsLast before after nexts.End = (before.pending ≡ []) × (after.pending ≡ []) × (after.count ≡ before.count)

-- What comes of asking for the next line, where these bytes were read.
abbrev pub Comes : SourceState → SourceState → CutState → CutState → List ℕ → Result NextLine LineStop → Type 0
Comes old new before after bytes (Ok nexts.Whole) = IsWhole before after bytes × (new.faults ≡ old.faults)
Comes old new before after bytes (Ok nexts.Last) = IsLast new before after bytes × (new.faults ≡ old.faults)
Comes old new before after bytes (Ok nexts.End) = IsEnd new before after bytes × (new.faults ≡ old.faults)
Comes old new before after bytes (Err stops.Read) = IsReadFault old new before after bytes
Comes old new before after bytes (Err (stops.Long number)) = IsLong before after bytes number × (new.faults ≡ old.faults)
Comes old new before after bytes (Err stops.TooMany) = IsMore before after bytes × (new.faults ≡ old.faults)

-- Asking for the next line reads these bytes, at most one past a limit, and comes to this.
pub record AsksNext (old new : SourceState) (before after : CutState) (result : Result NextLine LineStop) : Type 0 where
  pub read : List ℕ
  pub gave : Consumes old.unread new.unread read
  pub comes : Comes old new before after read result
  pub budget : HasBudget after
