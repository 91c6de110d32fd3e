-- The lines that a session was handed, and what it read for them.
use Rattle.std.proofs.Common.{◌≡◌, ℕ, ◌+◌, ◌<◌, ◌≤◌, inl, inr, List, [], ◌∷◌, ◌++◌, length, take, refl, sym, ap, ◌∙◌, subst, arith, append_assoc, append-nil, length-append}
use Rattle.std.specs.Prelude.{All}
use Rattle.std.specs.declared.option.Option.{Option}
use Rattle.std.specs.Io.KnownBytes.{Consumes, IsAtEnd}
use Rattle.std.proofs.KnownBytes.{Consumes-nil, Consumes-trans}
use Rattle.std.proofs.lemmas.List.{take_at, take-take, take-append-le, length_push, nil_from_length}
use Rattle.std.proofs.lemmas.Grind.{flat_map-append}
use Rattle.std.proofs.lemmas.Bool.{cases_lt}
use Rattle.std.proofs.lemmas.List.Elements.{All-nil, All-push}
use Rattle.sp_kit.specs.Outside.{SourceState}
use Rattle.spec_session.specs.CommandLines.{command_limit, command_count_limit, piece_limit, HasNoFeed, whole_lines, open_line, last_line, command_lines, ended, ended_lines, IsShort, KeepsLimits, without_last, KeepsBudget}
use Rattle.spec_session.specs.Sessions.{AreFirst}
use Rattle.spec_session.proofs.CutLaws.{split-lines, whole_lines-behind, command_lines-behind, command_lines-plain}
use Rattle.spec_session.proofs.LimitLaws.{lines-bounded, lines-limits, budget-behind}
use Rattle.sp_session.specs.CutState.{CutState, HasBudget}
use Rattle.sp_session.specs.Cutting.{IsWhole, IsLast, IsEnd}

-- These lines were handed out, each ended by a line feed, and what else was read is pending.
pub record Handed (old new : SourceState) (lines : List (List ℕ)) (state : CutState) : Type 0 where
  pub read : List ℕ
  pub gave : Consumes old.unread new.unread read
  pub kept : new.faults ≡ old.faults
  pub split : read ≡ ended_lines lines ++ state.pending
  pub few : length state.pending < piece_limit
  pub plain : All HasNoFeed lines
  pub short : All IsShort lines
  pub count : state.count ≡ length lines
  pub budget : HasBudget state

pub none-handed : (source : SourceState) (state : CutState) → state.pending ≡ [] → state.count ≡ 0 → Handed source source [] state
none-handed source state none zero = record {
  read = [];
  gave = Consumes-nil source.unread;
  kept = refl;
  split = sym none;
  few = let a = ap length none in omega (arith, a);
  plain = All-nil HasNoFeed;
  short = All-nil IsShort;
  count = zero;
  budget = record {
    short = let a = ap length none in omega (arith, a);
    few = subst (λ l. state.count + length (command_lines (without_last l)) ≤ command_count_limit) (sym none) (omega (arith, zero));
  };
}

pub handed-budget : (old new : SourceState) (lines : List (List ℕ)) (state : CutState) (it : Handed old new lines state) → KeepsBudget it.read
handed-budget old new lines state it =
    subst KeepsBudget (sym it.split)
    (budget-behind lines state.pending it.plain it.short (let a = it.count in let b = it.budget.few in omega (arith, a, b)) it.budget.short)

whole-taken : (lines more : List (List ℕ)) (read : List ℕ) → whole_lines read ≡ lines ++ more → lines ≡ take (length lines) (whole_lines read)
whole-taken lines more read is = sym (ap (take (length lines)) is ∙ take_at lines more (length lines) refl)

handed-whole : (old new : SourceState) (lines : List (List ℕ)) (state : CutState) (it : Handed old new lines state) → whole_lines it.read ≡ lines ++ whole_lines state.pending
handed-whole old new lines state it = ap whole_lines it.split ∙ whole_lines-behind lines state.pending it.plain

-- They are the first lines of the input.
pub handed-first : (old new : SourceState) (lines : List (List ℕ)) (state : CutState) (it : Handed old new lines state) → AreFirst lines it.read new.unread
handed-first old new lines state it = inl (whole-taken lines (whole_lines state.pending) it.read (handed-whole old new lines state it))

lines-push : (lines : List (List ℕ)) (line : List ℕ) → ended_lines (lines ++ line ∷ []) ≡ ended_lines lines ++ ended line
lines-push lines line = flat_map-append ended lines (line ∷ []) ∙ ap (λ l. ended_lines lines ++ l) (append-nil (ended line))

-- One line more was handed out.
pub handed-more : (old mid new : SourceState) (lines : List (List ℕ)) (before after : CutState) (bytes : List ℕ) → Handed old mid lines before
    → Consumes mid.unread new.unread bytes → new.faults ≡ mid.faults → IsWhole before after bytes → HasBudget after → Handed old new (lines ++ after.line ∷ []) after
handed-more old mid new lines before after bytes it gave kept whole budget = record {
  read = it.read ++ bytes;
  gave = Consumes-trans old.unread mid.unread new.unread it.read bytes it.gave gave;
  kept = kept ∙ it.kept;
  split = ap (λ l. l ++ bytes) it.split ∙ append_assoc (ended_lines lines) before.pending bytes ∙ ap (λ l. ended_lines lines ++ l) (whole.split ∙ sym (append_assoc after.line (10 ∷ []) after.pending))
      ∙ sym (append_assoc (ended_lines lines) (ended after.line) after.pending) ∙ ap (λ l. l ++ after.pending) (sym (lines-push lines after.line));
  few = whole.few it.few;
  plain = All-push HasNoFeed lines after.line it.plain whole.line.plain;
  short = All-push IsShort lines after.line it.short whole.line.short;
  count = whole.line.count ∙ ap (λ n. n + 1) it.count ∙ sym (length_push lines after.line);
  budget = budget;
}

-- What stops a session: no line came of what was read.
pub more-read : (old mid new : SourceState) (lines : List (List ℕ)) (before : CutState) (bytes : List ℕ) (it : Handed old mid lines before)
    → Consumes mid.unread new.unread bytes → Consumes old.unread new.unread (it.read ++ bytes)
more-read old mid new lines before bytes it gave = Consumes-trans old.unread mid.unread new.unread it.read bytes it.gave gave

-- What was read for all lines, and for what is pending behind them.
pub all-read : (old mid : SourceState) (lines : List (List ℕ)) (before : CutState) (bytes rest : List ℕ) (it : Handed old mid lines before) → before.pending ++ bytes ≡ rest
    → it.read ++ bytes ≡ ended_lines lines ++ rest
all-read old mid lines before bytes rest it is = ap (λ l. l ++ bytes) it.split ∙ append_assoc (ended_lines lines) before.pending bytes ∙ ap (λ l. ended_lines lines ++ l) is

-- Lines that were handed out and a rest without a line feed, within the limits.
pub record Rests (lines : List (List ℕ)) (read rest : List ℕ) : Type 0 where
  pub split : read ≡ ended_lines lines ++ rest
  pub plain : All HasNoFeed lines
  pub short : All IsShort lines
  pub rest_plain : HasNoFeed rest
  pub rest_short : IsShort rest
  pub few : length lines + length (command_lines rest) ≤ command_count_limit

pub rests-lines : (lines : List (List ℕ)) (read rest : List ℕ) → Rests lines read rest → whole_lines read ≡ lines
rests-lines lines read rest it = (split-lines read lines rest (record { whole = it.split; lines_plain = it.plain; rest_plain = it.rest_plain })).0

pub rests-limits : (lines : List (List ℕ)) (read rest : List ℕ) → Rests lines read rest → KeepsLimits read
rests-limits lines read rest it =
    subst KeepsLimits (sym it.split) (lines-limits lines rest it.plain it.short it.few (lines-bounded rest command_limit it.rest_short))

length-last : (rest : List ℕ) → length (last_line rest) ≤ 1
length-last [] = omega arith
length-last (byte ∷ rest) = omega arith

no-rest : (rest : List ℕ) → length rest ≡ 0 → length (last_line rest) ≡ 0
no-rest rest none = ap (λ l. length (last_line l)) (nil_from_length rest none)

-- There is room for a line that was begun.
pub rest-few : (count : ℕ) (rest : List ℕ) → HasNoFeed rest → count ≤ command_count_limit → (0 < length rest → count < command_count_limit)
    → count + length (command_lines rest) ≤ command_count_limit
rest-few count rest plain within room =
    let own = ap length (command_lines-plain rest plain) in
    let one = length-last rest in
    elim (cases_lt 0 (length rest)) [
      | inl some ↦ let low = room some in omega (arith, own, one, low)
      | inr none ↦ let zero = no-rest rest (omega (arith, none)) in omega (arith, own, zero, within)
    ]

pub handed-within : (old new : SourceState) (lines : List (List ℕ)) (state : CutState) → Handed old new lines state → length lines ≤ command_count_limit
handed-within old new lines state it = let a = it.count in let b = it.budget.few in omega (arith, a, b)

-- ---- the last line

-- All lines of an input that is read to its end.
pub record ReadAll (old new : SourceState) (lines : List (List ℕ)) : Type 0 where
  pub read : List ℕ
  pub gave : Consumes old.unread new.unread read
  pub kept : new.faults ≡ old.faults
  pub at_end : IsAtEnd new.unread
  pub limits : KeepsLimits read
  pub lines_are : lines ≡ command_lines read

pub all-handed : (old mid new : SourceState) (lines : List (List ℕ)) (before after : CutState) (bytes : List ℕ) → Handed old mid lines before
    → Consumes mid.unread new.unread bytes → new.faults ≡ mid.faults → IsEnd new before after bytes → ReadAll old new lines
all-handed old mid new lines before after bytes it gave kept end =
    let split : it.read ++ bytes ≡ ended_lines lines ++ [] = all-read old mid lines before bytes [] it end.split in
    let own : command_lines (it.read ++ bytes) ≡ lines = ap command_lines split ∙ command_lines-behind lines [] it.plain ∙ append-nil lines in
    record {
      read = it.read ++ bytes;
      gave = more-read old mid new lines before bytes it gave;
      kept = kept ∙ it.kept;
      at_end = end.at_end;
      limits = record { few = let a = ap length own in let b = handed-within old mid lines before it in omega (arith, a, b); short = subst (All IsShort) (sym own) it.short };
      lines_are = sym own;
    }

some-last : (bytes : List ℕ) → 0 < length bytes → last_line bytes ≡ bytes ∷ []
some-last [] some = absurd (omega (arith, some))
some-last (byte ∷ bytes) some = refl

pub last-handed : (old mid new : SourceState) (lines : List (List ℕ)) (before after : CutState) (bytes : List ℕ) → Handed old mid lines before
    → Consumes mid.unread new.unread bytes → new.faults ≡ mid.faults → IsLast new before after bytes → ReadAll old new (lines ++ after.line ∷ [])
last-handed old mid new lines before after bytes it gave kept last =
    let split : it.read ++ bytes ≡ ended_lines lines ++ after.line = all-read old mid lines before bytes after.line it last.split in
    let own : command_lines (it.read ++ bytes) ≡ lines ++ after.line ∷ [] =
    ap command_lines split ∙ command_lines-behind lines after.line it.plain
    ∙ ap (λ l. lines ++ l) (command_lines-plain after.line last.line.plain ∙ some-last after.line last.some) in
    record {
      read = it.read ++ bytes;
      gave = more-read old mid new lines before bytes it gave;
      kept = kept ∙ it.kept;
      at_end = last.at_end;
      limits = record {
        few = let a = ap length own in let b = length_push lines after.line in let d = last.line.count in let e = it.count in let f = last.line.within in omega (arith, a, b, d, e, f);
        short = subst (All IsShort) (sym own) (All-push IsShort lines after.line it.short last.line.short);
      };
      lines_are = sym own;
    }

-- ---- the first lines

-- Lines before the last of some first ones are first ones.
whole-front : (lines : List (List ℕ)) (line : List ℕ) (read : List ℕ) → lines ++ line ∷ [] ≡ take (length (lines ++ line ∷ [])) (whole_lines read)
    → lines ≡ take (length lines) (whole_lines read)
whole-front lines line read is =
    let size = length_push lines line in
    sym (take_at lines (line ∷ []) (length lines) refl) ∙ ap (take (length lines)) is ∙ take-take (length lines) (length (lines ++ line ∷ [])) (whole_lines read) (omega (arith, size))

all-front : (lines : List (List ℕ)) (line : List ℕ) (read : List ℕ) → lines ++ line ∷ [] ≡ command_lines read → lines ≡ take (length lines) (whole_lines read)
all-front lines line read is =
    let size = ap length is in
    let push = length_push lines line in
    let parts = length-append (whole_lines read) (last_line (open_line read)) in
    let one = length-last (open_line read) in
    sym (take_at lines (line ∷ []) (length lines) refl) ∙ ap (take (length lines)) is
    ∙ take-append-le (length lines) (whole_lines read) (last_line (open_line read)) (omega (arith, size, push, parts, one))

pub first-front : (lines : List (List ℕ)) (line : List ℕ) (read : List ℕ) (unread : Option (List ℕ)) → AreFirst (lines ++ line ∷ []) read unread → AreFirst lines read unread
first-front lines line read unread (inl first) = inl (whole-front lines line read first)
first-front lines line read unread (inr (all, at_end)) = inl (all-front lines line read all)
