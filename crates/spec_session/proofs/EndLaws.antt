-- What the end of a session tells of its whole input and of its output, and how it is seen in another way.
use Rattle.std.proofs.Common.{◌≡◌, ℕ, ◌+◌, ◌-◌, ◌^◌, ◌<◌, ◌≤◌, ◌⊎◌, inl, inr, List, [], ◌∷◌, ◌++◌, length, take, drop, refl, sym, ap, ◌∙◌, subst, arith, append_assoc, append-nil, length-append, Some, None}
use Rattle.std.specs.Prelude.{All, slice_index_or}
use Rattle.std.specs.declared.option.Option.{Option}
use Rattle.std.specs.Io.KnownBytes.{Appends, Consumes, IsAtEnd}
use Rattle.std.proofs.lemmas.List.{take_all, take_at, length-take, get_or-take, take-append-le, take-append-drop, get_or_at}
use Rattle.std.proofs.Math.Seq.{take-append-add}
use Rattle.std.proofs.lemmas.List.Elements.{All-nil, All-cons, All-append, All-take}
use Rattle.std.proofs.lemmas.Bool.{cases_lt}
use Rattle.sp_kit.specs.Causes.{Rose}
use Rattle.sp_kit.specs.Outside.{AppendsPrefix}
use Rattle.sp_kit.proofs.Writing.{AppendsPrefix-all}
use Rattle.spec_session.specs.declared.SessionEnd.{SessionEnd}
use Rattle.spec_session.specs.declared.SessionEnd.TheVariants as endings
use Rattle.spec_session.specs.CommandLines.{command_limit, command_count_limit, HasNoFeed, whole_lines, open_line, last_line, command_lines, ended_lines, IsShort, KeepsLimits, without_last, KeepsBudget, IsFirstLong, IsFull}
use Rattle.spec_session.specs.Runs.{Answered, Runs, output_of, left_by}
use Rattle.spec_session.specs.Sessions.{Streams, AreFirst, SessionEnds, Tells, Settles, AnswersAll, FailedNothing}
use Rattle.spec_session.proofs.CutLaws.{lines-split, command_lines-behind}
use Rattle.spec_session.proofs.LimitLaws.{goes-on, all-first, last-behind}
use Rattle.spec_session.proofs.RunLaws.{runs-append, run-exists, output_of-push}

-- ---- limits exclude one another

pub limits-long : (bytes : List ℕ) (number : ℕ) → KeepsLimits bytes → IsFirstLong bytes number → ⊥
limits-long bytes number keeps long =
    let short : IsShort (slice_index_or (command_lines bytes) number []) = keeps.short number [] long.there in omega (arith, short, long.long)

pub limits-full : (bytes : List ℕ) → KeepsLimits bytes → IsFull bytes → ⊥
limits-full bytes keeps full = omega (arith, keeps.few, full.more)

-- A line among the first ones is short where these are.
short-at : (lines : List (List ℕ)) (count place : ℕ) → All IsShort (take count lines) → place < count → place < length lines → IsShort (slice_index_or lines place [])
short-at lines count place short low there =
    let size = length-take count lines in
    subst IsShort (get_or-take count lines place [] low) (short place [] (omega (arith, size, low, there)))

pub full-long : (bytes : List ℕ) (number : ℕ) → IsFull bytes → IsFirstLong bytes number → ⊥
full-long bytes number full long =
    let short = short-at (command_lines bytes) command_count_limit number full.short long.within long.there in omega (arith, short, long.long)

not-before : (bytes : List ℕ) (one other : ℕ) → IsFirstLong bytes one → IsFirstLong bytes other → one < other → ⊥
not-before bytes one other first second low =
    let short = short-at (command_lines bytes) other one second.short low first.there in omega (arith, short, first.long)

pub long-only : (bytes : List ℕ) (one other : ℕ) → IsFirstLong bytes one → IsFirstLong bytes other → one ≡ other
long-only bytes one other first second =
    elim (cases_lt one other) [
      | inl low ↦ absurd (not-before bytes one other first second low)
      | inr high ↦ elim (cases_lt other one) [
        | inl low ↦ absurd (not-before bytes other one second first low)
        | inr equal ↦ omega (arith, high, equal)
      ]
    ]

-- ---- what was read, and what may follow

-- What a source that tells its bytes had is what was read and what is left.
pub record HasMore (old new : Option (List ℕ)) (read input : List ℕ) : Type 0 where
  pub more : List ℕ
  pub left : new ≡ Some more
  pub whole : input ≡ read ++ more

pub has-more : (old new : Option (List ℕ)) (read input : List ℕ) → Consumes old new read → old ≡ Some input → HasMore old new read input
has-more None new read input gave is = cc
has-more (Some bytes) None read input gave is = absurd gave
has-more (Some bytes) (Some more) read input gave is = record { more = more; left = refl; whole = let e : input ≡ bytes = cc in e ∙ gave }

last-plain : (rest : List ℕ) → HasNoFeed rest → All HasNoFeed (last_line rest)
last-plain [] plain = All-nil HasNoFeed
last-plain (byte ∷ rest) plain = All-cons HasNoFeed (byte ∷ rest) [] plain (All-nil HasNoFeed)

-- No line has a line feed.
pub lines-plain : (bytes : List ℕ) → All HasNoFeed (command_lines bytes)
lines-plain bytes =
    let cut = lines-split bytes in All-append HasNoFeed (whole_lines bytes) (last_line (open_line bytes)) cut.lines_plain (last-plain (open_line bytes) cut.rest_plain)

-- Whole lines stay, whatever follows.
pub whole-first : (read more : List ℕ) → command_lines (read ++ more) ≡ whole_lines read ++ command_lines (open_line read ++ more)
whole-first read more =
    let cut = lines-split read in
    ap (λ bytes. command_lines (bytes ++ more)) cut.whole ∙ ap command_lines (append_assoc (ended_lines (whole_lines read)) (open_line read) more)
    ∙ command_lines-behind (whole_lines read) (open_line read ++ more) cut.lines_plain

-- The first lines are the first of the whole input.
pub first-lines : (lines : List (List ℕ)) (old new : Option (List ℕ)) (read input : List ℕ) → AreFirst lines read new → Consumes old new read → old ≡ Some input
    → lines ≡ take (length lines) (command_lines input)
first-lines lines old new read input (inl first) gave is =
    let it = has-more old new read input gave is in
    let inside : length lines ≤ length (whole_lines read) = let a = ap length first ∙ length-take (length lines) (whole_lines read) in omega (arith, a) in
    first ∙ sym (take-append-le (length lines) (whole_lines read) (command_lines (open_line read ++ it.more)) inside)
    ∙ ap (take (length lines)) (sym (whole-first read it.more) ∙ ap command_lines (sym it.whole))
first-lines lines old new read input (inr (all, at_end)) gave is =
    let it = has-more old new read input gave is in
    let none : it.more ≡ [] = subst IsAtEnd it.left at_end in
    let same : input ≡ read = it.whole ∙ ap (λ more. read ++ more) none ∙ append-nil read in
    sym (take_all (length lines) (command_lines input) (let a = ap length all in let b = ap (λ l. length (command_lines l)) same in omega (arith, a, b)) ∙ ap command_lines same ∙ sym all)

-- All whole lines are the first ones.
all-whole : (lines : List (List ℕ)) (read : List ℕ) (unread : Option (List ℕ)) → lines ≡ whole_lines read → AreFirst lines read unread
all-whole lines read unread are = inl (are ∙ sym (take_all (length lines) (whole_lines read) (let a = ap length are in omega (arith, a))))

-- The lines before the byte behind the last line are the first ones.
full-first : (lines : List (List ℕ)) (old new : Option (List ℕ)) (read input : List ℕ) (byte : ℕ) → lines ≡ take command_count_limit (command_lines read)
    → read ≡ ended_lines lines ++ byte ∷ [] → Consumes old new read → old ≡ Some input → lines ≡ take (length lines) (command_lines input)
full-first lines old new read input byte are split gave is =
    let it = has-more old new read input gave is in
    let plain : All HasNoFeed lines = subst (All HasNoFeed) (sym are) (All-take HasNoFeed command_count_limit (command_lines read) (lines-plain read)) in
    let own : command_lines input ≡ lines ++ command_lines (byte ∷ it.more) =
    ap command_lines (it.whole ∙ ap (λ l. l ++ it.more) split ∙ append_assoc (ended_lines lines) (byte ∷ []) it.more) ∙ command_lines-behind lines (byte ∷ it.more) plain in
    sym (ap (take (length lines)) own ∙ take_at lines (command_lines (byte ∷ it.more)) (length lines) refl)

-- ---- what an end tells of the whole input

split-some : (lines : List (List ℕ)) (rest : List ℕ) → 0 < length (ended_lines lines ++ rest) → 0 < length (lines ++ last_line rest)
split-some [] [] some = some
split-some [] (byte ∷ rest) some = omega arith
split-some (line ∷ lines) rest some = omega arith

-- Where there is a byte, there is a line.
pub some-lines : (bytes : List ℕ) → 0 < length bytes → 0 < length (command_lines bytes)
some-lines bytes some = split-some (whole_lines bytes) (open_line bytes) (subst (λ n. 0 < n) (ap length (lines-split bytes).whole) some)

-- The whole lines keep the limits, and where more than a byte follows there is room for its line.
budget-lines : (lines : List (List ℕ)) (rest : List ℕ) → All HasNoFeed lines → 1 < length rest → KeepsBudget (ended_lines lines ++ rest)
    → All IsShort lines × (length lines < command_count_limit)
budget-lines lines [] plain some keeps = absurd (omega (arith, some))
budget-lines lines (byte ∷ bytes) plain some keeps =
    let front = without_last (byte ∷ bytes) in
    let held : KeepsLimits (ended_lines lines ++ front) = subst KeepsLimits (last-behind (ended_lines lines) byte bytes) keeps in
    let own = command_lines-behind lines front plain in
    let size : 0 < length front = let a = length-take (length (byte ∷ bytes) - 1) (byte ∷ bytes) in omega (arith, a, some) in
    let more = some-lines front size in
    let a = ap length own in
    let b = length-append lines (command_lines front) in
    (all-first IsShort lines (command_lines front) (subst (All IsShort) own held.short), omega (arith, a, b, more, held.few))

pub long-tells : (read more : List ℕ) (number : ℕ) → KeepsBudget read → number ≡ length (whole_lines read) → length (open_line read) ≡ command_limit + 1
    → IsFirstLong (read ++ more) number
long-tells read more number budget number_is long =
    let cut = lines-split read in
    let lines = whole_lines read in
    let rest = open_line read in
    let it = goes-on rest more cut.rest_plain (omega (arith, long)) in
    let kept = budget-lines lines rest cut.lines_plain (omega (arith, long)) (subst KeepsBudget cut.whole budget) in
    let own : command_lines (read ++ more) ≡ lines ++ ((rest ++ it.added) ∷ it.later) = whole-first read more ∙ ap (λ l. lines ++ l) it.lines in
    let size = length-append lines ((rest ++ it.added) ∷ it.later) in
    let longer = length-append rest it.added in
    let place : slice_index_or (lines ++ ((rest ++ it.added) ∷ it.later)) number [] ≡ rest ++ it.added = get_or_at lines (rest ++ it.added) it.later [] number (sym number_is) in
    record {
      within = omega (arith, number_is, kept.1);
      there = let a = ap length own in omega (arith, a, size, number_is);
      long = let a = ap (λ l. length (slice_index_or l number [])) own in let b = ap length place in omega (arith, a, b, longer, long);
      short = subst (All IsShort) (sym (ap (take number) own ∙ take_at lines ((rest ++ it.added) ∷ it.later) number (sym number_is))) kept.0;
    }

pub full-tells : (read more : List ℕ) (lines : List (List ℕ)) (byte : ℕ) → KeepsBudget read → lines ≡ take command_count_limit (command_lines read)
    → length lines ≡ command_count_limit → read ≡ ended_lines lines ++ byte ∷ [] → IsFull (read ++ more)
full-tells read more lines byte budget lines_are full split =
    let plain : All HasNoFeed lines = subst (All HasNoFeed) (sym lines_are) (All-take HasNoFeed command_count_limit (command_lines read) (lines-plain read)) in
    let held : KeepsLimits (ended_lines lines ++ []) = subst KeepsLimits (last-behind (ended_lines lines) byte []) (subst KeepsBudget split budget) in
    let kept = command_lines-behind lines [] plain ∙ append-nil lines in
    let own : command_lines (read ++ more) ≡ lines ++ command_lines (byte ∷ more) =
    ap (λ bytes. command_lines (bytes ++ more)) split ∙ ap command_lines (append_assoc (ended_lines lines) (byte ∷ []) more) ∙ command_lines-behind lines (byte ∷ more) plain in
    let some = some-lines (byte ∷ more) (omega arith) in
    let size = length-append lines (command_lines (byte ∷ more)) in
    record {
      more = let a = ap length own in omega (arith, a, size, some, full);
      short = subst (All IsShort) (sym (ap (take command_count_limit) own ∙ take_at lines (command_lines (byte ∷ more)) command_count_limit full))
          (subst (All IsShort) kept held.short);
    }

-- The end of a session tells what its source had.
pub ends-tell : {R : Type 0} (answers : R → List ℕ → R → List ℕ → Type 0) (stops : R → List ℕ → R → Type 0) (old new : Streams) (before after : R) (end : SessionEnd)
    → SessionEnds answers stops old new before after end → (input : List ℕ) → old.source.unread ≡ Some input → Tells input end
ends-tell answers stops old new before after endings.Done it input is =
    let more = has-more old.source.unread new.source.unread it.course.read input it.went.gave is in
    let none : more.more ≡ [] = subst IsAtEnd more.left it.ends.at_end in
    subst KeepsLimits (sym (more.whole ∙ ap (λ l. it.course.read ++ l) none ∙ append-nil it.course.read)) it.ends.limits
ends-tell answers stops old new before after (endings.CommandLong number) it input is =
    let more = has-more old.source.unread new.source.unread it.course.read input it.went.gave is in
    subst (λ bytes. IsFirstLong bytes number) (sym more.whole)
    (long-tells it.course.read more.more number it.went.budget (it.ends.number_is ∙ ap length it.ends.lines) it.ends.long)
ends-tell answers stops old new before after endings.InputFull it input is =
    let more = has-more old.source.unread new.source.unread it.course.read input it.went.gave is in
    subst IsFull (sym more.whole) (full-tells it.course.read more.more it.course.lines it.ends.byte it.went.budget it.ends.lines it.ends.full it.ends.more)
ends-tell answers stops old new before after endings.ReadFault it input is = tt
ends-tell answers stops old new before after endings.WriteFault it input is = tt
ends-tell answers stops old new before after endings.NoMemory it input is = tt

not-risen : (old new : ℕ) → new ≡ old → old < 2 ^ 64 - 1 → Rose old new → ⊥
not-risen old new kept low rose = omega (arith, kept, low, rose)

-- Where nothing outside fails, the end is the one that the input asks for, or there is no memory.
pub ends-settle : {R : Type 0} (answers : R → List ℕ → R → List ℕ → Type 0) (stops : R → List ℕ → R → Type 0) (old new : Streams) (before after : R) (end : SessionEnd)
    → SessionEnds answers stops old new before after end → FailedNothing old new → (input : List ℕ) → old.source.unread ≡ Some input → Settles input end
ends-settle answers stops old new before after endings.Done it calm input is = ends-tell answers stops old new before after endings.Done it input is
ends-settle answers stops old new before after endings.NoMemory it calm input is = tt
ends-settle answers stops old new before after endings.ReadFault it calm input is =
    not-risen old.source.faults new.source.faults calm.source_kept calm.source_low it.ends.rose
ends-settle answers stops old new before after endings.WriteFault it calm input is =
    not-risen old.sink.faults new.sink.faults calm.sink_kept calm.sink_low it.ends.rose
ends-settle answers stops old new before after (endings.CommandLong number) it calm input is =
    ends-tell answers stops old new before after (endings.CommandLong number) it input is
ends-settle answers stops old new before after endings.InputFull it calm input is = ends-tell answers stops old new before after endings.InputFull it input is

-- An input that keeps the limits asks for no other end than Done.
pub settles-kept : (input : List ℕ) (end : SessionEnd) → Settles input end → KeepsLimits input → AnswersAll end
settles-kept input endings.Done settles keeps = tt
settles-kept input endings.NoMemory settles keeps = tt
settles-kept input endings.ReadFault settles keeps = absurd settles
settles-kept input endings.WriteFault settles keeps = absurd settles
settles-kept input (endings.CommandLong number) settles keeps = limits-long input number keeps settles
settles-kept input endings.InputFull settles keeps = limits-full input keeps settles

-- An input whose first line that is too long has this number asks for no other end than that.
pub settles-long : (input : List ℕ) (number : ℕ) (end : SessionEnd) → Settles input end → IsFirstLong input number → (end ≡ endings.CommandLong number) ⊎ (end ≡ endings.NoMemory)
settles-long input number endings.Done settles long = absurd (limits-long input number settles long)
settles-long input number endings.NoMemory settles long = inr refl
settles-long input number endings.ReadFault settles long = absurd settles
settles-long input number endings.WriteFault settles long = absurd settles
settles-long input number (endings.CommandLong other) settles long = inl (ap endings.CommandLong (long-only input other number settles long))
settles-long input number endings.InputFull settles long = absurd (full-long input number settles long)

-- An input of too many lines, none of the first of them too long, asks for no other end than that.
pub settles-full : (input : List ℕ) (end : SessionEnd) → Settles input end → IsFull input → (end ≡ endings.InputFull) ⊎ (end ≡ endings.NoMemory)
settles-full input endings.Done settles full = absurd (limits-full input settles full)
settles-full input endings.NoMemory settles full = inr refl
settles-full input endings.ReadFault settles full = absurd settles
settles-full input endings.WriteFault settles full = absurd settles
settles-full input (endings.CommandLong number) settles full = absurd (full-long input number full settles)
settles-full input endings.InputFull settles full = inl refl

-- ---- what the sink took

part-taken : (old new : Option (List ℕ)) (front back : List ℕ) (count : ℕ) → Appends old new (front ++ take count back) → AppendsPrefix old new (front ++ back)
part-taken old new front back count took = (length front + count, subst (Appends old new) (sym (take-append-add front back count)) took)

-- However a session ends, the sink took a prefix of the replies to its lines.
pub ends-wrote : {R : Type 0} (answers : R → List ℕ → R → List ℕ → Type 0) (stops : R → List ℕ → R → Type 0) (old new : Streams) (before after : R) (end : SessionEnd)
    (it : SessionEnds answers stops old new before after end) → AppendsPrefix old.sink.taken new.sink.taken (output_of it.course.steps)
ends-wrote answers stops old new before after endings.Done it = AppendsPrefix-all old.sink.taken new.sink.taken (output_of it.course.steps) it.ends.replied.wrote
ends-wrote answers stops old new before after endings.ReadFault it = AppendsPrefix-all old.sink.taken new.sink.taken (output_of it.course.steps) it.ends.replied.wrote
ends-wrote answers stops old new before after endings.WriteFault it =
    let all : output_of it.course.steps ≡ output_of it.ends.done ++ it.ends.last.reply = ap output_of it.ends.split ∙ output_of-push it.ends.done it.ends.last in
    subst (AppendsPrefix old.sink.taken new.sink.taken) (sym all)
    (part-taken old.sink.taken new.sink.taken (output_of it.ends.done) it.ends.last.reply it.ends.count it.ends.wrote)
ends-wrote answers stops old new before after endings.NoMemory it = AppendsPrefix-all old.sink.taken new.sink.taken (output_of it.course.steps) it.ends.wrote
ends-wrote answers stops old new before after (endings.CommandLong number) it =
    AppendsPrefix-all old.sink.taken new.sink.taken (output_of it.course.steps) it.ends.replied.wrote
ends-wrote answers stops old new before after endings.InputFull it = AppendsPrefix-all old.sink.taken new.sink.taken (output_of it.course.steps) it.ends.replied.wrote

-- ---- the whole input

-- However a session ends, it answered the first lines of its whole input.
pub ends-first : {R : Type 0} (answers : R → List ℕ → R → List ℕ → Type 0) (stops : R → List ℕ → R → Type 0) (old new : Streams) (before after : R) (end : SessionEnd)
    (it : SessionEnds answers stops old new before after end) → (input : List ℕ) → old.source.unread ≡ Some input
    → it.course.lines ≡ take (length it.course.lines) (command_lines input)
ends-first answers stops old new before after endings.Done it input is =
    first-lines it.course.lines old.source.unread new.source.unread it.course.read input (inr (it.ends.lines, it.ends.at_end)) it.went.gave is
ends-first answers stops old new before after endings.ReadFault it input is =
    first-lines it.course.lines old.source.unread new.source.unread it.course.read input (all-whole it.course.lines it.course.read new.source.unread it.ends.lines) it.went.gave is
ends-first answers stops old new before after endings.WriteFault it input is =
    first-lines it.course.lines old.source.unread new.source.unread it.course.read input it.ends.first it.went.gave is
ends-first answers stops old new before after endings.NoMemory it input is =
    first-lines it.course.lines old.source.unread new.source.unread it.course.read input it.ends.first it.went.gave is
ends-first answers stops old new before after (endings.CommandLong number) it input is =
    first-lines it.course.lines old.source.unread new.source.unread it.course.read input (all-whole it.course.lines it.course.read new.source.unread it.ends.lines) it.went.gave is
ends-first answers stops old new before after endings.InputFull it input is =
    full-first it.course.lines old.source.unread new.source.unread it.course.read input it.ends.byte it.ends.lines it.ends.more it.went.gave is

-- So where each line has an answer, the replies written are the first of those to the whole input.
pub ends-go_on : {R : Type 0} (answers : R → List ℕ → R → List ℕ → Type 0) (stops : R → List ℕ → R → Type 0)
    (answer : (before : R) (line : List ℕ) → (step : Answered R) × answers before line step.after step.reply) → (old new : Streams) (before after : R) (end : SessionEnd)
    (it : SessionEnds answers stops old new before after end) → (input : List ℕ) → old.source.unread ≡ Some input
    → (rest : List (Answered R)) × Runs answers before (command_lines input) (it.course.steps ++ rest)
ends-go_on answers stops answer old new before after end it input is =
    let first = ends-first answers stops old new before after end it input is in
    let behind = drop (length it.course.lines) (command_lines input) in
    let later = run-exists answers answer (left_by before it.course.steps) behind in
    let whole : it.course.lines ++ behind ≡ command_lines input = ap (λ l. l ++ behind) first ∙ take-append-drop (length it.course.lines) (command_lines input) in (
      later.steps,
      subst (λ lines. Runs answers before lines (it.course.steps ++ later.steps)) whole
          (runs-append answers before it.course.lines behind it.course.steps later.steps it.went.runs later.runs),
    )
