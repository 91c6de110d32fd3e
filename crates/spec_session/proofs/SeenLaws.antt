-- A session, with what answers its lines seen in another way.
use Rattle.std.proofs.Common.{◌≡◌, ℕ, inl, inr, List, [], ◌∷◌, ◌++◌, take, sym, ap, ◌∙◌, subst}
use Rattle.std.specs.declared.option.Option.{Option}
use Rattle.std.specs.Io.KnownBytes.{Appends}
use Rattle.std.proofs.lemmas.List.{map-append}
use Rattle.sp_kit.specs.Outside.{SinkState}
use Rattle.spec_session.specs.declared.SessionEnd.{SessionEnd}
use Rattle.spec_session.specs.declared.SessionEnd.TheVariants as endings
use Rattle.spec_session.specs.Runs.{Answered, output_of, left_by, steps_seen}
use Rattle.spec_session.specs.Sessions.{Streams, Course, Replied, RanOut, EndsAs, SessionEnds}
use Rattle.spec_session.proofs.RunLaws.{runs-seen, left_by-seen, output_of-seen}

abbrev pub step_seen : {R S : Type 0} → (R → S) → Answered R → Answered S
step_seen view step = record { after = view step.after; reply = step.reply }

abbrev pub course_seen : {R S : Type 0} → (R → S) → Course R → Course S
course_seen view course = record { read = course.read; lines = course.lines; steps = steps_seen view course.steps }

wrote-seen : {R S : Type 0} (view : R → S) (old new : Option (List ℕ)) (steps : List (Answered R)) → Appends old new (output_of steps) → Appends old new (output_of (steps_seen view steps))
wrote-seen view old new steps wrote = subst (Appends old new) (sym (output_of-seen view steps)) wrote

left-seen : {R S : Type 0} (view : R → S) (before after : R) (steps : List (Answered R)) → after ≡ left_by before steps → view after ≡ left_by (view before) (steps_seen view steps)
left-seen view before after steps left = ap view left ∙ sym (left_by-seen view before steps)

replied-seen : {R S : Type 0} (view : R → S) (old new : SinkState) (before after : R) (steps : List (Answered R)) → Replied old new before after steps
    → Replied old new (view before) (view after) (steps_seen view steps)
replied-seen view old new before after steps it =
    record { wrote = wrote-seen view old.taken new.taken steps it.wrote; kept = it.kept; left = left-seen view before after steps it.left }

ran_out-seen : {R S : Type 0} (stops : R → List ℕ → R → Type 0) (halts : S → List ℕ → S → Type 0) (view : R → S)
    → ((before : R) (line : List ℕ) (after : R) → stops before line after → halts (view before) line (view after))
    → (unread : Option (List ℕ)) (before after : R) (course : Course R) → RanOut stops unread before after course → RanOut halts unread (view before) (view after) (course_seen view course)
ran_out-seen stops halts view halted unread before after course (inl left) = inl (left-seen view before after course.steps left)
ran_out-seen stops halts view halted unread before after course (inr (line, first, stopped)) =
    inr (line, first, subst (λ mid. halts mid line (view after)) (sym (left_by-seen view before course.steps)) (halted (left_by before course.steps) line after stopped))

ends_as-seen : {R S : Type 0} (stops : R → List ℕ → R → Type 0) (halts : S → List ℕ → S → Type 0) (view : R → S)
    → ((before : R) (line : List ℕ) (after : R) → stops before line after → halts (view before) line (view after))
    → (old new : Streams) (before after : R) (course : Course R) (end : SessionEnd) → EndsAs stops old new before after course end
    → EndsAs halts old new (view before) (view after) (course_seen view course) end
ends_as-seen stops halts view halted old new before after course endings.Done it =
    record { at_end = it.at_end; limits = it.limits; lines = it.lines; replied = replied-seen view old.sink new.sink before after course.steps it.replied; kept = it.kept }
ends_as-seen stops halts view halted old new before after course endings.ReadFault it =
    record { limits = it.limits; lines = it.lines; replied = replied-seen view old.sink new.sink before after course.steps it.replied; rose = it.rose }
ends_as-seen stops halts view halted old new before after course endings.WriteFault it = record {
  first = it.first;
  no_further = it.no_further;
  done = steps_seen view it.done;
  last = step_seen view it.last;
  split = ap (steps_seen view) it.split ∙ map-append (step_seen view) it.done (it.last ∷ []);
  count = it.count;
  short = it.short;
  wrote = subst (λ bytes. Appends old.sink.taken new.sink.taken (bytes ++ take it.count it.last.reply)) (sym (output_of-seen view it.done)) it.wrote;
  left = ap view it.left;
  kept = it.kept;
  rose = it.rose;
}
ends_as-seen stops halts view halted old new before after course endings.NoMemory it = record {
  first = it.first;
  wrote = wrote-seen view old.sink.taken new.sink.taken course.steps it.wrote;
  ran_out = ran_out-seen stops halts view halted new.source.unread before after course it.ran_out;
  kept = it.kept;
  sink_kept = it.sink_kept;
}
ends_as-seen stops halts view halted old new before after course (endings.CommandLong number) it = record {
  lines = it.lines;
  number_is = it.number_is;
  long = it.long;
  replied = replied-seen view old.sink new.sink before after course.steps it.replied;
  kept = it.kept;
}
ends_as-seen stops halts view halted old new before after course endings.InputFull it = record {
  lines = it.lines;
  full = it.full;
  byte = it.byte;
  more = it.more;
  replied = replied-seen view old.sink new.sink before after course.steps it.replied;
  kept = it.kept;
}

-- A view of what answers gives a session of what is seen.
pub ends-seen : {R S : Type 0} (answers : R → List ℕ → R → List ℕ → Type 0) (stops : R → List ℕ → R → Type 0)
    (replies : S → List ℕ → S → List ℕ → Type 0) (halts : S → List ℕ → S → Type 0) (view : R → S)
    → ((before : R) (line : List ℕ) (after : R) (reply : List ℕ) → answers before line after reply → replies (view before) line (view after) reply)
    → ((before : R) (line : List ℕ) (after : R) → stops before line after → halts (view before) line (view after))
    → (old new : Streams) (before after : R) (end : SessionEnd) → SessionEnds answers stops old new before after end
    → SessionEnds replies halts old new (view before) (view after) end
ends-seen answers stops replies halts view seen halted old new before after end it = record {
  course = course_seen view it.course;
  went = record { gave = it.went.gave; budget = it.went.budget; runs = runs-seen answers replies view seen before it.course.lines it.course.steps it.went.runs };
  ends = ends_as-seen stops halts view halted old new before after it.course end it.ends;
}
