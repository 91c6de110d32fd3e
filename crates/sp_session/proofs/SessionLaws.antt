-- A session so far, and how it ends.
use Rattle.std.proofs.Common.{◌≡◌, ℕ, inl, inr, List, [], ◌∷◌, ◌++◌, length, take, refl, sym, ap, ◌∙◌, subst, arith, Ok, Err}
use Rattle.std.specs.Io.KnownBytes.{Appends, Consumes}
use Rattle.std.proofs.KnownBytes.{Consumes-nil, Appends-nil, Appends-trans}
use Rattle.std.proofs.lemmas.List.{take_at}
use Rattle.std.proofs.lemmas.List.Elements.{All-nil}
use Rattle.sp_kit.specs.Causes.{Rose}
use Rattle.sp_kit.specs.Outside.{SourceState, SinkState}
use Rattle.spec_session.specs.declared.SessionEnd.{SessionEnd}
use Rattle.spec_session.specs.declared.SessionEnd.TheVariants as endings
use Rattle.spec_session.specs.CommandLines.{command_count_limit, command_lines, ended_lines, IsShort, KeepsBudget}
use Rattle.spec_session.specs.Runs.{Answered, Runs, output_of, left_by}
use Rattle.spec_session.specs.Sessions.{Streams, streams, Replied, AreFirst, ReadsNoFurther, SessionEnds}
use Rattle.spec_session.proofs.CutLaws.{split-lines, command_lines-behind}
use Rattle.spec_session.proofs.LimitLaws.{limits-budget, budget-behind}
use Rattle.spec_session.proofs.RunLaws.{runs-push, left_by-push, output_of-push}
use Rattle.sp_session.specs.declared.lines.LineStop.{LineStop}
use Rattle.sp_session.specs.declared.lines.LineStop.TheVariants as stops
use Rattle.sp_session.specs.CutState.{CutState, HasBudget, Pends}
use Rattle.sp_session.specs.Cutting.{IsReadFault, IsLong, IsMore, AsksNext}
use Rattle.sp_session.specs.Answering.{AnswersLine, end_of}
use Rattle.sp_session.proofs.HandedLaws.{Handed, handed-budget, handed-first, ReadAll, first-front, Rests, rests-lines, rests-limits, rest-few, more-read, all-read, handed-within}

-- ---- the replies so far

-- These lines were answered, and the replies written.
pub record Answering {R : Type 0} (answers : R → List ℕ → R → List ℕ → Type 0) (old new : SinkState) (before after : R) (lines : List (List ℕ)) : Type 0 where
  pub steps : List (Answered R)
  pub runs : Runs answers before lines steps
  pub replied : Replied old new before after steps

pub none-answered : {R : Type 0} (answers : R → List ℕ → R → List ℕ → Type 0) (sink : SinkState) (before : R) → Answering answers sink sink before before []
none-answered answers sink before = record { steps = []; runs = tt; replied = record { wrote = Appends-nil sink.taken; kept = refl; left = refl } }

-- A line more was answered; what the sink took of the reply is said apart.
pub record Answers {R : Type 0} (answers : R → List ℕ → R → List ℕ → Type 0) (before after : R) (lines : List (List ℕ)) (steps : List (Answered R)) (reply : List ℕ) : Type 0 where
  pub runs : Runs answers before lines (steps ++ record { after = after; reply = reply } ∷ [])
  pub left : after ≡ left_by before (steps ++ record { after = after; reply = reply } ∷ [])

one-answered : {R : Type 0} (answers : R → List ℕ → R → List ℕ → Type 0) (old mid : SinkState) (before between after : R) (lines : List (List ℕ)) (line reply : List ℕ)
    (it : Answering answers old mid before between lines) → answers between line after reply → Answers answers before after (lines ++ line ∷ []) it.steps reply
one-answered answers old mid before between after lines line reply it answered =
    let step : Answered _ = record { after = after; reply = reply } in
    record {
      runs = runs-push answers before lines it.steps line step it.runs (subst (λ r. answers r line after reply) it.replied.left answered);
      left = sym (left_by-push before it.steps step);
    }

pub answered : {R : Type 0} (answers : R → List ℕ → R → List ℕ → Type 0) (halts : R → List ℕ → R → Type 0) (old mid new : SinkState) (before between after : R) (lines : List (List ℕ)) (line : List ℕ)
    (done : Unit {0}) → Answering answers old mid before between lines → AnswersLine answers halts mid new between after line (Ok done)
    → Answering answers old new before after (lines ++ line ∷ [])
answered answers halts old mid new before between after lines line done it (reply, given, took) =
    let more = one-answered answers old mid before between after lines line reply it given in
    let step : Answered _ = record { after = after; reply = reply } in
    record {
      steps = it.steps ++ step ∷ [];
      runs = more.runs;
      replied = record {
        wrote = subst (Appends old.taken new.taken) (sym (output_of-push it.steps step))
            (Appends-trans old.taken mid.taken new.taken (output_of it.steps) reply it.replied.wrote took.wrote);
        kept = took.kept ∙ it.replied.kept;
        left = more.left;
      };
    }

-- ---- a line that comes

-- A line came behind others, and they are the first of the input.
pub record LineComes (old new : SourceState) (lines : List (List ℕ)) (line : List ℕ) : Type 0 where
  pub read : List ℕ
  pub gave : Consumes old.unread new.unread read
  pub kept : new.faults ≡ old.faults
  pub first : AreFirst (lines ++ line ∷ []) read new.unread
  pub no_further : ReadsNoFurther (lines ++ line ∷ []) read new.unread
  pub budget : KeepsBudget read

pub whole-comes : (old new : SourceState) (lines : List (List ℕ)) (line : List ℕ) (state : CutState) → Handed old new (lines ++ line ∷ []) state → LineComes old new lines line
whole-comes old new lines line state it = record {
  read = it.read;
  gave = it.gave;
  kept = it.kept;
  first = handed-first old new (lines ++ line ∷ []) state it;
  no_further = inl (state.pending, it.split, it.few);
  budget = handed-budget old new (lines ++ line ∷ []) state it;
}

pub last-comes : (old new : SourceState) (lines : List (List ℕ)) (line : List ℕ) → ReadAll old new (lines ++ line ∷ []) → LineComes old new lines line
last-comes old new lines line it =
    record {
      read = it.read;
      gave = it.gave;
      kept = it.kept;
      first = inr (it.lines_are, it.at_end);
      no_further = inr (it.lines_are, it.at_end);
      budget = limits-budget it.read it.limits;
    }

-- ---- ends

-- There was no memory for the session's own buffer.
pub ends-unbegun : {R : Type 0} (answers : R → List ℕ → R → List ℕ → Type 0) (halts : R → List ℕ → R → Type 0) (both : Streams) (before : R)
    → SessionEnds answers halts both both before before endings.NoMemory
ends-unbegun answers halts both before = record {
  course = record { read = []; lines = []; steps = [] };
  went = record { gave = Consumes-nil both.source.unread; budget = limits-budget [] (record { few = omega arith; short = All-nil IsShort }); runs = tt };
  ends = record { first = inl refl; wrote = Appends-nil both.sink.taken; ran_out = inl refl; kept = refl; sink_kept = refl };
}

-- A line came that was not answered, or whose reply was not written whole.
ends-line : {R : Type 0} (answers : R → List ℕ → R → List ℕ → Type 0) (halts : R → List ℕ → R → Type 0) (old new : SourceState) (begun mid after_sink : SinkState) (before between after : R)
    (lines : List (List ℕ)) (line : List ℕ) (end : SessionEnd) → LineComes old new lines line → Answering answers begun mid before between lines
    → AnswersLine answers halts mid after_sink between after line (Err end) → SessionEnds answers halts (streams old begun) (streams new after_sink) before after end
ends-line answers halts old new begun mid after_sink before between after lines line endings.NoMemory comes it (halted, same) = record {
  course = record { read = comes.read; lines = lines; steps = it.steps };
  went = record { gave = comes.gave; budget = comes.budget; runs = it.runs };
  ends = record {
    first = first-front lines line comes.read new.unread comes.first;
    wrote = subst (λ sink. Appends begun.taken sink.taken (output_of it.steps)) (sym same) it.replied.wrote;
    ran_out = inr (line, comes.first, subst (λ r. halts r line after) it.replied.left halted);
    kept = comes.kept;
    sink_kept = ap (λ sink. sink.faults) same ∙ it.replied.kept;
  };
}
ends-line answers halts old new begun mid after_sink before between after lines line endings.WriteFault comes it (reply, given, took) =
    let more = one-answered answers begun mid before between after lines line reply it given in
    record {
      course = record { read = comes.read; lines = lines ++ line ∷ []; steps = it.steps ++ record { after = after; reply = reply } ∷ [] };
      went = record { gave = comes.gave; budget = comes.budget; runs = more.runs };
      ends = record {
        first = comes.first;
        no_further = comes.no_further;
        done = it.steps;
        last = record { after = after; reply = reply };
        split = refl;
        count = took.count;
        short = took.short;
        wrote = Appends-trans begun.taken mid.taken after_sink.taken (output_of it.steps) (take took.count reply) it.replied.wrote took.wrote;
        left = refl;
        kept = comes.kept;
        rose = subst (λ n. Rose n after_sink.faults) it.replied.kept took.rose;
      };
    }
ends-line answers halts old new begun mid after_sink before between after lines line endings.Done comes it none = absurd none
ends-line answers halts old new begun mid after_sink before between after lines line endings.ReadFault comes it none = absurd none
ends-line answers halts old new begun mid after_sink before between after lines line (endings.CommandLong number) comes it none = absurd none
ends-line answers halts old new begun mid after_sink before between after lines line endings.InputFull comes it none = absurd none

-- The same of the line as it was lent.
pub ends-lent : {R : Type 0} (answers : R → List ℕ → R → List ℕ → Type 0) (halts : R → List ℕ → R → Type 0) (old new : SourceState) (begun mid after_sink : SinkState) (before between after : R)
    (lines : List (List ℕ)) (line lent : List ℕ) (end : SessionEnd) → lent ≡ line → LineComes old new lines line → Answering answers begun mid before between lines
    → AnswersLine answers halts mid after_sink between after lent (Err end) → SessionEnds answers halts (streams old begun) (streams new after_sink) before after end
ends-lent answers halts old new begun mid after_sink before between after lines line lent end same comes it reply =
    ends-line answers halts old new begun mid after_sink before between after lines line end comes it (subst (λ l. AnswersLine answers halts mid after_sink between after l (Err end)) same reply)

-- All lines were answered.
pub ends-done : {R : Type 0} (answers : R → List ℕ → R → List ℕ → Type 0) (halts : R → List ℕ → R → Type 0) (old new : SourceState) (begun sink : SinkState) (before after : R) (lines : List (List ℕ))
    → ReadAll old new lines → Answering answers begun sink before after lines → SessionEnds answers halts (streams old begun) (streams new sink) before after endings.Done
ends-done answers halts old new begun sink before after lines all it = record {
  course = record { read = all.read; lines = lines; steps = it.steps };
  went = record { gave = all.gave; budget = limits-budget all.read all.limits; runs = it.runs };
  ends = record { at_end = all.at_end; limits = all.limits; lines = all.lines_are; replied = it.replied; kept = all.kept };
}

-- What was read and not answered is pending.
stays-pending : (old mid : SourceState) (lines : List (List ℕ)) (before after : CutState) (bytes : List ℕ) (it : Handed old mid lines before) → Pends before after bytes
    → it.read ++ bytes ≡ ended_lines lines ++ after.pending
stays-pending old mid lines before after bytes it pends = all-read old mid lines before bytes after.pending it (sym pends.pending)

stays-budget : (old mid : SourceState) (lines : List (List ℕ)) (before after : CutState) (bytes : List ℕ) (it : Handed old mid lines before) → Pends before after bytes → HasBudget after
    → KeepsBudget (it.read ++ bytes)
stays-budget old mid lines before after bytes it pends budget =
    subst KeepsBudget (sym (stays-pending old mid lines before after bytes it pends))
    (budget-behind lines after.pending it.plain it.short (let a = it.count in let b = pends.count in let d = budget.few in omega (arith, a, b, d)) budget.short)

-- The source failed.
pub ends-read : {R : Type 0} (answers : R → List ℕ → R → List ℕ → Type 0) (halts : R → List ℕ → R → Type 0) (old mid new : SourceState) (begun sink : SinkState) (before after : R)
    (lines : List (List ℕ)) (state held : CutState) (bytes : List ℕ) → Handed old mid lines state → Consumes mid.unread new.unread bytes → HasBudget held → IsReadFault mid new state held bytes
    → Answering answers begun sink before after lines → SessionEnds answers halts (streams old begun) (streams new sink) before after endings.ReadFault
ends-read answers halts old mid new begun sink before after lines state held bytes it gave budget fault done =
    let count : held.count ≡ length lines = fault.pends.count ∙ it.count in
    let rests : Rests lines (it.read ++ bytes) held.pending = record {
      split = stays-pending old mid lines state held bytes it fault.pends;
      plain = it.plain;
      short = it.short;
      rest_plain = fault.plain;
      rest_short = fault.short;
      few = rest-few (length lines) held.pending fault.plain (handed-within old mid lines state it) (λ some. let low = fault.room some in omega (arith, low, count));
    } in
    let limits = rests-limits lines (it.read ++ bytes) held.pending rests in
    record {
      course = record { read = it.read ++ bytes; lines = lines; steps = done.steps };
      went = record { gave = more-read old mid new lines state bytes it gave; budget = limits-budget (it.read ++ bytes) limits; runs = done.runs };
      ends = record {
        limits = limits;
        lines = sym (rests-lines lines (it.read ++ bytes) held.pending rests);
        replied = done.replied;
        rose = subst (λ n. Rose n new.faults) it.kept fault.rose;
      };
    }

-- A line is too long.
pub ends-long : {R : Type 0} (answers : R → List ℕ → R → List ℕ → Type 0) (halts : R → List ℕ → R → Type 0) (old mid new : SourceState) (begun sink : SinkState) (before after : R)
    (lines : List (List ℕ)) (state held : CutState) (bytes : List ℕ) (number : ℕ) → Handed old mid lines state → Consumes mid.unread new.unread bytes → new.faults ≡ mid.faults → HasBudget held
    → IsLong state held bytes number → Answering answers begun sink before after lines → SessionEnds answers halts (streams old begun) (streams new sink) before after (endings.CommandLong number)
ends-long answers halts old mid new begun sink before after lines state held bytes number it gave kept budget long done =
    let cut = split-lines (it.read ++ bytes) lines held.pending
    (record { whole = stays-pending old mid lines state held bytes it long.pends; lines_plain = it.plain; rest_plain = long.plain }) in
    record {
      course = record { read = it.read ++ bytes; lines = lines; steps = done.steps };
      went = record { gave = more-read old mid new lines state bytes it gave; budget = stays-budget old mid lines state held bytes it long.pends budget; runs = done.runs };
      ends = record {
        lines = sym cut.0;
        number_is = long.number_is ∙ long.pends.count ∙ it.count;
        long = ap length cut.1 ∙ long.long;
        replied = done.replied;
        kept = kept ∙ it.kept;
      };
    }

-- One byte is a list of one.
pub record IsOne (bytes : List ℕ) : Type 0 where
  pub byte : ℕ
  pub is : bytes ≡ byte ∷ []

one-byte : (bytes : List ℕ) → length bytes ≡ 1 → IsOne bytes
one-byte [] one = absurd (omega (arith, one))
one-byte (byte ∷ []) one = record { byte = byte; is = refl }
one-byte (byte ∷ other ∷ bytes) one = absurd (omega (arith, one))

-- A byte came behind the last line that a session may have.
pub ends-full : {R : Type 0} (answers : R → List ℕ → R → List ℕ → Type 0) (halts : R → List ℕ → R → Type 0) (old mid new : SourceState) (begun sink : SinkState) (before after : R)
    (lines : List (List ℕ)) (state held : CutState) (bytes : List ℕ) → Handed old mid lines state → Consumes mid.unread new.unread bytes → new.faults ≡ mid.faults → HasBudget held
    → IsMore state held bytes → Answering answers begun sink before after lines → SessionEnds answers halts (streams old begun) (streams new sink) before after endings.InputFull
ends-full answers halts old mid new begun sink before after lines state held bytes it gave kept budget more done =
    let one = one-byte held.pending more.one in
    let split : it.read ++ bytes ≡ ended_lines lines ++ one.byte ∷ [] = stays-pending old mid lines state held bytes it more.pends ∙ ap (λ l. ended_lines lines ++ l) one.is in
    let full : length lines ≡ command_count_limit = sym it.count ∙ sym more.pends.count ∙ more.full in
    let own : command_lines (it.read ++ bytes) ≡ lines ++ command_lines (one.byte ∷ []) = ap command_lines split ∙ command_lines-behind lines (one.byte ∷ []) it.plain in
    record {
      course = record { read = it.read ++ bytes; lines = lines; steps = done.steps };
      went = record { gave = more-read old mid new lines state bytes it gave; budget = stays-budget old mid lines state held bytes it more.pends budget; runs = done.runs };
      ends = record {
        lines = sym (ap (take command_count_limit) own ∙ take_at lines (command_lines (one.byte ∷ [])) command_count_limit full);
        full = full;
        byte = one.byte;
        more = split;
        replied = done.replied;
        kept = kept ∙ it.kept;
      };
    }

-- There is no next line.
pub ends-stop : {R : Type 0} (answers : R → List ℕ → R → List ℕ → Type 0) (halts : R → List ℕ → R → Type 0) (old mid new : SourceState) (begun sink : SinkState) (before after : R)
    (lines : List (List ℕ)) (state held : CutState) (stop : LineStop) → Handed old mid lines state → AsksNext mid new state held (Err stop) → Answering answers begun sink before after lines
    → SessionEnds answers halts (streams old begun) (streams new sink) before after (end_of stop)
ends-stop answers halts old mid new begun sink before after lines state held stops.Read it asks done =
    ends-read answers halts old mid new begun sink before after lines state held asks.read it asks.gave asks.budget asks.comes done
ends-stop answers halts old mid new begun sink before after lines state held (stops.Long number) it asks done =
    ends-long answers halts old mid new begun sink before after lines state held asks.read number it asks.gave asks.comes.1 asks.budget asks.comes.0 done
ends-stop answers halts old mid new begun sink before after lines state held stops.TooMany it asks done =
    ends-full answers halts old mid new begun sink before after lines state held asks.read it asks.gave asks.comes.1 asks.budget asks.comes.0 done
