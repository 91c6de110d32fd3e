-- What a session keeps of what answers its lines.
use Rattle.std.proofs.Common.{ℕ, inl, inr, List, sym, ap, ◌∙◌, subst}
use Rattle.std.specs.declared.option.Option.{Option}
use Rattle.spec_session.specs.declared.SessionEnd.{SessionEnd}
use Rattle.spec_session.specs.declared.SessionEnd.TheVariants as endings
use Rattle.spec_session.specs.Runs.{left_by}
use Rattle.spec_session.specs.Sessions.{Streams, Course, RanOut, EndsAs, SessionEnds}
use Rattle.spec_session.proofs.RunLaws.{runs-keep, left_by-push}

ran_out-keep : {R : Type 0} (stops : R → List ℕ → R → Type 0) (P : R → Type 0) → ((before : R) (line : List ℕ) (after : R) → stops before line after → P before → P after)
    → (unread : Option (List ℕ)) (before after : R) (course : Course R) → RanOut stops unread before after course → P (left_by before course.steps) → P after
ran_out-keep stops P keeps unread before after course (inl left) holds = subst P (sym left) holds
ran_out-keep stops P keeps unread before after course (inr (line, first, stopped)) holds = keeps (left_by before course.steps) line after stopped holds

-- It holds of what is left where it holds behind the last answer.
pub ends_as-keep : {R : Type 0} (stops : R → List ℕ → R → Type 0) (P : R → Type 0) → ((before : R) (line : List ℕ) (after : R) → stops before line after → P before → P after)
    → (old new : Streams) (before after : R) (course : Course R) (end : SessionEnd) → EndsAs stops old new before after course end → P (left_by before course.steps) → P after
ends_as-keep stops P keeps old new before after course endings.Done it holds = subst P (sym it.replied.left) holds
ends_as-keep stops P keeps old new before after course endings.ReadFault it holds = subst P (sym it.replied.left) holds
ends_as-keep stops P keeps old new before after course endings.WriteFault it holds = subst P (ap (left_by before) it.split ∙ left_by-push before it.done it.last ∙ sym it.left) holds
ends_as-keep stops P keeps old new before after course endings.NoMemory it holds = ran_out-keep stops P keeps new.source.unread before after course it.ran_out holds
ends_as-keep stops P keeps old new before after course (endings.CommandLong number) it holds = subst P (sym it.replied.left) holds
ends_as-keep stops P keeps old new before after course endings.InputFull it holds = subst P (sym it.replied.left) holds

-- What each answer keeps, and each want of memory, a session keeps.
pub ends-keep : {R : Type 0} (answers : R → List ℕ → R → List ℕ → Type 0) (stops : R → List ℕ → R → Type 0) (P : R → Type 0)
    → ((before : R) (line : List ℕ) (after : R) (reply : List ℕ) → answers before line after reply → P before → P after)
    → ((before : R) (line : List ℕ) (after : R) → stops before line after → P before → P after)
    → (old new : Streams) (before after : R) (end : SessionEnd) → SessionEnds answers stops old new before after end → P before → P after
ends-keep answers stops P answered stopped old new before after end it holds =
    ends_as-keep stops P stopped old new before after it.course end it.ends (runs-keep answers P answered before it.course.lines it.course.steps it.went.runs holds)
