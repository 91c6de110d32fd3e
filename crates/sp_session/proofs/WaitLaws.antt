-- Waiting for a line to be whole: what was read so far, and what comes of it.
use Rattle.std.proofs.Common.{◌≡◌, ◌≢◌, ℕ, ◌+◌, ◌-◌, ◌<◌, ◌≤◌, Bool, inl, inr, List, [], ◌∷◌, ◌++◌, length, drop, refl, sym, ap, ◌∙◌, arith, append_assoc, append-nil, length-append, Ok, Err}
use Rattle.std.specs.Prelude.{slice_index_or}
use Rattle.std.specs.Io.KnownBytes.{Consumes}
use Rattle.std.proofs.KnownBytes.{Consumes-nil, Consumes-trans}
use Rattle.std.proofs.lemmas.Bool.{cases_lt}
use Rattle.std.proofs.lemmas.List.{length-take}
use Rattle.std.proofs.lemmas.List.Elements.{All-head, All-tail}
use Rattle.sp_kit.specs.Outside.{SourceState}
use Rattle.spec_session.specs.CommandLines.{command_count_limit, piece_limit, HasNoFeed, without_last}
use Rattle.spec_session.proofs.EndLaws.{some-lines}
use Rattle.sp_session.specs.declared.lines.NextLine.TheVariants as nexts
use Rattle.sp_session.specs.declared.lines.LineStop.TheVariants as stops
use Rattle.sp_session.specs.CutState.{CutState, HandsOut, HasBudget, Pends}
use Rattle.sp_session.specs.Reading.{Gave}
use Rattle.sp_session.specs.Cutting.{AsksNext}

-- No line is whole yet.
pub record Waited (old new : SourceState) (before after : CutState) : Type 0 where
  pub read : List ℕ
  pub gave : Consumes old.unread new.unread read
  pub kept : new.faults ≡ old.faults
  pub pends : Pends before after read
  pub plain : HasNoFeed after.pending
  pub room : 0 < length after.pending → after.count < command_count_limit
  pub budget : HasBudget after

pub waits : (source : SourceState) (state : CutState) → HasNoFeed state.pending → (0 < length state.pending → state.count < command_count_limit) → HasBudget state
    → Waited source source state state
waits source state plain room budget = record {
  read = [];
  gave = Consumes-nil source.unread;
  kept = refl;
  pends = record { pending = sym (append-nil state.pending); count = refl };
  plain = plain;
  room = room;
  budget = budget;
}

-- What follows the first line feed of what was read came with it.
pub line-behind : (front bytes line rest : List ℕ) → HasNoFeed front → front ++ bytes ≡ line ++ 10 ∷ rest → length rest < length bytes
line-behind [] bytes line rest plain is = let a = ap length is in let b = length-append line (10 ∷ rest) in omega (arith, a, b)
line-behind (byte ∷ front) bytes [] rest plain is = absurd (All-head (λ b. b ≢ 10) byte front plain (ap (λ l. slice_index_or l 0 0) is))
line-behind (byte ∷ front) bytes (other ∷ line) rest plain is = line-behind front bytes line rest (All-tail (λ b. b ≢ 10) byte front plain) (ap (λ l. drop 1 l) is)

-- A line came.
pub goes-whole : (old mid new : SourceState) (before between got after : CutState) (bytes : List ℕ) (more : Bool) → Waited old mid before between → Gave mid new bytes more → Pends between got bytes
    → length bytes ≤ piece_limit → HasBudget got → HandsOut got after → HasBudget after → AsksNext old new before after (Ok nexts.Whole)
goes-whole old mid new before between got after bytes more waited gave pends low held hands budget =
    let size = ap length hands.split in
    let parts = length-append after.line (10 ∷ after.pending) in
    let behind = line-behind between.pending bytes after.line after.pending waited.plain (sym pends.pending ∙ hands.split) in
    record {
      read = waited.read ++ bytes;
      gave = Consumes-trans old.unread mid.unread new.unread waited.read bytes waited.gave gave.gave;
      comes = (
        record {
          line = record {
            plain = hands.plain;
            short = let a = held.short in omega (arith, a, size, parts);
            count = hands.count ∙ ap (λ n. n + 1) (pends.count ∙ waited.pends.count);
            within = let b = budget.few in omega (arith, b);
          };
          split = sym (append_assoc before.pending waited.read bytes) ∙ ap (λ l. l ++ bytes) (sym waited.pends.pending) ∙ sym pends.pending ∙ hands.split;
          few = λ was. omega (arith, behind, low);
        },
        gave.kept ∙ waited.kept,
      );
      budget = budget;
    }

-- Behind the last line that a session may have no more than one byte was read.
pub one-more : (state : CutState) → HasBudget state → state.count ≡ command_count_limit → 0 < length state.pending → length state.pending ≡ 1
one-more state budget full some =
    let front = without_last state.pending in
    let size = length-take (length state.pending - 1) state.pending in
    elim (cases_lt 0 (length front)) [
      | inl more ↦ let lines = some-lines front more in absurd (omega (arith, lines, budget.few, full))
      | inr none ↦ omega (arith, size, none, some)
    ]

-- A byte came behind the last line.
pub goes-over : (old mid new : SourceState) (before between after : CutState) (bytes : List ℕ) (more : Bool) → Waited old mid before between → Gave mid new bytes more → Pends between after bytes
    → HasBudget after → after.count ≡ command_count_limit → 0 < length after.pending → AsksNext old new before after (Err stops.TooMany)
goes-over old mid new before between after bytes more waited gave pends budget full some = record {
  read = waited.read ++ bytes;
  gave = Consumes-trans old.unread mid.unread new.unread waited.read bytes waited.gave gave.gave;
  comes = (
    record {
      pends = record {
        pending = pends.pending ∙ ap (λ l. l ++ bytes) waited.pends.pending ∙ append_assoc before.pending waited.read bytes;
        count = pends.count ∙ waited.pends.count;
      };
      full = full;
      one = one-more after budget full some;
    },
    gave.kept ∙ waited.kept,
  );
  budget = budget;
}

-- A byte was there already.
pub is-over : (source : SourceState) (state : CutState) → HasBudget state → state.count ≡ command_count_limit → 0 < length state.pending
    → AsksNext source source state state (Err stops.TooMany)
is-over source state budget full some = record {
  read = [];
  gave = Consumes-nil source.unread;
  comes = (record { pends = record { pending = sym (append-nil state.pending); count = refl }; full = full; one = one-more state budget full some }, refl);
  budget = budget;
}
