-- How a session ends (docs/RULES.md, "Sessions").
use Rattle.std.specs.Prelude.{◌≡◌, ℕ, ◌+◌, ◌-◌, ◌^◌, ◌<◌, ◌⊎◌, List, [], ◌∷◌, ◌++◌, length, take}
use Rattle.std.specs.declared.option.Option.{Option}
use Rattle.std.specs.Io.KnownBytes.{Appends, Consumes, IsAtEnd}
use Rattle.sp_kit.specs.Causes.{Rose}
use Rattle.sp_kit.specs.Outside.{SourceState, SinkState}
use Rattle.spec_session.specs.declared.SessionEnd.{SessionEnd}
use Rattle.spec_session.specs.declared.SessionEnd.TheVariants as endings
use Rattle.spec_session.specs.CommandLines.{command_limit, command_count_limit, piece_limit, whole_lines, open_line, command_lines, ended_lines, KeepsLimits, KeepsBudget, IsFirstLong, IsFull}
use Rattle.spec_session.specs.Runs.{Answered, Runs, output_of, left_by}

-- What a session reads from and writes to.
pub record Streams : Type 0 where
  pub source : SourceState
  pub sink : SinkState

abbrev pub streams : SourceState → SinkState → Streams
streams source sink = record { source = source; sink = sink }

-- What a session read, which lines it answered, and the step that answered each.
pub record Course (R : Type 0) : Type 0 where
  pub read : List ℕ
  pub lines : List (List ℕ)
  pub steps : List (Answered R)

-- However a session ends: the source gave these bytes, at most one past a limit, and the lines were answered in order.
pub record Went {R : Type 0} (answers : R → List ℕ → R → List ℕ → Type 0) (old new : SourceState) (before : R) (course : Course R) : Type 0 where
  pub gave : Consumes old.unread new.unread course.read
  pub budget : KeepsBudget course.read
  pub runs : Runs answers before course.lines course.steps

-- The replies were written whole, the sink counted no fault, and what answers is as the last line left it.
pub record Replied {R : Type 0} (old new : SinkState) (before after : R) (steps : List (Answered R)) : Type 0 where
  pub wrote : Appends old.taken new.taken (output_of steps)
  pub kept : new.faults ≡ old.faults
  pub left : after ≡ left_by before steps

-- These are the first lines of an input that begins with these bytes: lines that are whole in them, or all of them where
-- the source ended.
abbrev pub AreFirst : List (List ℕ) → List ℕ → Option (List ℕ) → Type 0
AreFirst lines read unread = (lines ≡ take (length lines) (whole_lines read)) ⊎ ((lines ≡ command_lines read) × IsAtEnd unread)

-- What was read is these lines, and behind them fewer bytes than one call asks for; or the source ended with them.
abbrev pub ReadsNoFurther : List (List ℕ) → List ℕ → Option (List ℕ) → Type 0
ReadsNoFurther lines read unread =
    ((behind : List ℕ) × (read ≡ ended_lines lines ++ behind) × (length behind < piece_limit)) ⊎ ((lines ≡ command_lines read) × IsAtEnd unread)

-- The source was read to its end, all its lines keep the limits, and the replies to them were written.
pub record ReadToEnd {R : Type 0} (old new : Streams) (before after : R) (course : Course R) : Type 0 where
  pub at_end : IsAtEnd new.source.unread
  pub limits : KeepsLimits course.read
  pub lines : course.lines ≡ command_lines course.read
  pub replied : Replied old.sink new.sink before after course.steps
  pub kept : new.source.faults ≡ old.source.faults

-- The source failed; the replies to all whole lines that were read were written.
pub record ReadFailed {R : Type 0} (old new : Streams) (before after : R) (course : Course R) : Type 0 where
  pub limits : KeepsLimits course.read
  pub lines : course.lines ≡ whole_lines course.read
  pub replied : Replied old.sink new.sink before after course.steps
  pub rose : Rose old.source.faults new.source.faults

-- The sink failed; it took the replies to all lines that were answered, of the last one a part, and not all of it. Behind these lines
-- fewer bytes were read than one call asks for.
pub record WriteFailed {R : Type 0} (old new : Streams) (after : R) (course : Course R) : Type 0 where
  pub first : AreFirst course.lines course.read new.source.unread
  pub no_further : ReadsNoFurther course.lines course.read new.source.unread
  pub done : List (Answered R)
  pub last : Answered R
  pub split : course.steps ≡ done ++ last ∷ []
  pub count : ℕ
  pub short : count < length last.reply
  pub wrote : Appends old.sink.taken new.sink.taken (output_of done ++ take count last.reply)
  pub left : after ≡ last.after
  pub kept : new.source.faults ≡ old.source.faults
  pub rose : Rose old.sink.faults new.sink.faults

-- There was no memory: for the session itself, which had answered these lines, or for the answer to a further one.
abbrev pub RanOut : {R : Type 0} → (R → List ℕ → R → Type 0) → Option (List ℕ) → R → R → Course R → Type 0
RanOut stops unread before after course =
    (after ≡ left_by before course.steps)
    ⊎ ((line : List ℕ) × AreFirst (course.lines ++ line ∷ []) course.read unread × stops (left_by before course.steps) line after)

-- There was no memory; the replies to the first lines were written, and no fault was counted.
pub record MemoryFailed {R : Type 0} (stops : R → List ℕ → R → Type 0) (old new : Streams) (before after : R) (course : Course R) : Type 0 where
  pub first : AreFirst course.lines course.read new.source.unread
  pub wrote : Appends old.sink.taken new.sink.taken (output_of course.steps)
  pub ran_out : RanOut stops new.source.unread before after course
  pub kept : new.source.faults ≡ old.source.faults
  pub sink_kept : new.sink.faults ≡ old.sink.faults

-- The line with this number is one byte too long so far; the replies to those before it were written.
pub record FoundLong {R : Type 0} (old new : Streams) (before after : R) (course : Course R) (number : ℕ) : Type 0 where
  pub lines : course.lines ≡ whole_lines course.read
  pub number_is : number ≡ length course.lines
  pub long : length (open_line course.read) ≡ command_limit + 1
  pub replied : Replied old.sink new.sink before after course.steps
  pub kept : new.source.faults ≡ old.source.faults

-- A byte came behind the last line that a session may have; the replies to all lines before it were written.
pub record FoundMore {R : Type 0} (old new : Streams) (before after : R) (course : Course R) : Type 0 where
  pub lines : course.lines ≡ take command_count_limit (command_lines course.read)
  pub full : length course.lines ≡ command_count_limit
  pub byte : ℕ
  pub more : course.read ≡ ended_lines course.lines ++ byte ∷ []
  pub replied : Replied old.sink new.sink before after course.steps
  pub kept : new.source.faults ≡ old.source.faults

-- How a session of this course ends.
abbrev pub EndsAs : {R : Type 0} → (R → List ℕ → R → Type 0) → Streams → Streams → R → R → Course R → SessionEnd → Type 0
EndsAs stops old new before after course endings.Done = ReadToEnd old new before after course
EndsAs stops old new before after course endings.ReadFault = ReadFailed old new before after course
EndsAs stops old new before after course endings.WriteFault = WriteFailed old new after course
EndsAs stops old new before after course endings.NoMemory = MemoryFailed stops old new before after course
EndsAs stops old new before after course (endings.CommandLong number) = FoundLong old new before after course number
EndsAs stops old new before after course endings.InputFull = FoundMore old new before after course

-- How a session ends: what it read, answered and wrote, and what is left of what answers.
pub record SessionEnds {R : Type 0} (answers : R → List ℕ → R → List ℕ → Type 0) (stops : R → List ℕ → R → Type 0) (old new : Streams) (before after : R) (end : SessionEnd) : Type 0 where
  pub course : Course R
  pub went : Went answers old.source new.source before course
  pub ends : EndsAs stops old new before after course end

-- What an end tells of the whole input.
abbrev pub Tells : List ℕ → SessionEnd → Type 0
Tells input endings.Done = KeepsLimits input
Tells input (endings.CommandLong number) = IsFirstLong input number
Tells input endings.InputFull = IsFull input
Tells input _ = Unit {0}

-- The end is the one that the whole input asks for, or there was no memory.
abbrev pub Settles : List ℕ → SessionEnd → Type 0
Settles input endings.Done = KeepsLimits input
Settles input endings.ReadFault = ⊥
Settles input endings.WriteFault = ⊥
Settles input endings.NoMemory = Unit {0}
Settles input (endings.CommandLong number) = IsFirstLong input number
Settles input endings.InputFull = IsFull input

-- The input was answered whole, or there was no memory.
abbrev pub AnswersAll : SessionEnd → Type 0
AnswersAll endings.Done = Unit {0}
AnswersAll endings.NoMemory = Unit {0}
AnswersAll _ = ⊥

-- No fault was counted, and each count could have risen.
pub record FailedNothing (old new : Streams) : Type 0 where
  pub source_kept : new.source.faults ≡ old.source.faults
  pub source_low : old.source.faults < 2 ^ 64 - 1
  pub sink_kept : new.sink.faults ≡ old.sink.faults
  pub sink_low : old.sink.faults < 2 ^ 64 - 1
