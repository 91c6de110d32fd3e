-- What one read leaves of the bytes that are being cut.
use Rattle.std.specs.Prelude.{◌≡◌, ℕ, ◌<◌, ◌≤◌, Bool, true, false, List, [], ◌++◌, length, Ok, Err}
use Rattle.std.specs.declared.result.Result.{Result}
use Rattle.std.specs.Io.KnownBytes.{Consumes, Keeps, IsAtEnd}
use Rattle.sp_kit.specs.Causes.{Rose}
use Rattle.sp_kit.specs.Outside.{SourceState}
use Rattle.spec_session.specs.CommandLines.{piece_limit}
use Rattle.sp_session.specs.CutState.{CutState, Pends}

-- These bytes came, none only at the end, and no fault was counted.
pub record Gave (old new : SourceState) (bytes : List ℕ) (more : Bool) : Type 0 where
  pub gave : Consumes old.unread new.unread bytes
  pub kept : new.faults ≡ old.faults
  pub at_end : more ≡ false → (bytes ≡ []) × IsAtEnd new.unread
  pub going : more ≡ true → 0 < length bytes

-- The source failed, and gave nothing.
pub record GaveNothing (old new : SourceState) : Type 0 where
  pub unread : Keeps old.unread new.unread
  pub rose : Rose old.faults new.faults

-- At most so many bytes came, and stand behind those from before.
pub record Grows (most : ℕ) (before after bytes : List ℕ) : Type 0 where
  pub low : length bytes ≤ most
  pub more : after ≡ before ++ bytes

abbrev pub ReadsBehind : {E : Type 0} → SourceState → SourceState → ℕ → List ℕ → List ℕ → Result Bool E → Type 0
ReadsBehind old new most before after (Ok more) = (bytes : List ℕ) × Gave old new bytes more × Grows most before after bytes
ReadsBehind old new most before after (Err failed) = GaveNothing old new × (after ≡ before)

abbrev pub ReadsOnce : {E : Type 0} → SourceState → SourceState → CutState → CutState → Result Bool E → Type 0
ReadsOnce old new before after (Ok more) = (bytes : List ℕ) × Gave old new bytes more × Pends before after bytes × (length bytes ≤ piece_limit)
ReadsOnce old new before after (Err failed) = GaveNothing old new × Pends before after []
