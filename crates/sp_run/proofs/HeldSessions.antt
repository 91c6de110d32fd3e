-- Sessions that were held, whatever answers their lines: a desk, or the room round it.
use Rattle.std.proofs.Common.{◌≡◌, ℕ, ◌-◌, ◌^◌, ◌<◌, List, [], ◌∷◌, inr, inl, refl, sym, ap, ap₂, ◌∙◌, subst}
use Rattle.std.specs.Io.KnownBytes.{Appends}
use Rattle.spec_session.specs.CommandLines.{command_lines}
use Rattle.spec_session.specs.Runs.{Answered, AtShelf, Counts, Runs, at_shelf, left_by, output_of, steps_seen}
use Rattle.spec_session.specs.Sessions.{SessionEnds, streams}
use Rattle.spec_session.specs.declared.SessionEnd.{SessionEnd}
use Rattle.spec_session.specs.declared.SessionEnd.TheVariants as endings
use Rattle.spec_session.proofs.RunLaws.{output_of-seen}
use Rattle.spec_state.specs.State.{State}
use Rattle.spec_machine.specs.Machine.{Memory, opened_memory}
use Rattle.spec_machine.specs.KeptMemories.{IsWholeMemory}
use Rattle.spec_locked_pages.specs.Chains.{AreLinked}
use Rattle.sp_kit.specs.Files.{ShelfState}
use Rattle.sp_run.specs.Records.{records_name}
use Rattle.sp_run.specs.Saving.{Changes, KeepsAllBut}
use Rattle.sp_run.specs.DeskLines.{NamedDesk, answered_in_order, memories_of}
use Rattle.sp_run.specs.Forms.{from_file}
use Rattle.sp_run.specs.CountedLines.{NotOpenedCounts}
use Rattle.sp_run.specs.Counted.{OpeningCounts}
use Rattle.sp_run.specs.Opening.{SameShelf}
use Rattle.sp_run.specs.Promises.{ArePromised}
use Rattle.sp_run.specs.Asking.{AsksTwo, telling}
use Rattle.sp_run.specs.Unopened.{Outside, Unopened}
use Rattle.sp_run.specs.DeskEnding.{AnsweredBy, AnsweredCalmlyBy, CommandsEnd, CountsUnsaved, Held, KeepsSaved, OpensDesk, begun_at}
use Rattle.sp_run.specs.Statuses.{status_of_end}
use Rattle.sp_run.proofs.Touches.{Way, session-counted, runs-promised, runs-last, runs-calm, session-others, session-saves}
use Rattle.sp_text.specs.declared.fault.TextFault.TheVariants as faults
use Rattle.sp_run.specs.declared.status.Status.{Status}
use Rattle.sp_run.specs.declared.status.Status.TheVariants as statuses

-- ---- how a session ends

-- A shelf that is as it was, but for the calls that it tells.
pub same-shelf : (old new : ShelfState) → SameShelf old new → new ≡ telling old new.calls
same-shelf old new same = λ i. record { files = same.files i; faults = same.faults i; calls = new.calls }

-- The session of a desk that was opened.
pub session-held : (way : Way) (name : List ℕ) (old new : Outside) (from opened to : Counts) (between : ShelfState) (memory : Memory) (after : AtShelf way.how.It) (end : SessionEnd)
    → OpensDesk old.shelf between name memory → OpeningCounts memory.state from opened
    → SessionEnds way.how.answers way.how.stops (streams old.source old.sink) (streams new.source new.sink) (at_shelf (way.how.begins name memory) between opened) after end → new.shelf ≡ after.shelf
    → to ≡ after.counts → Held way.how name old new from to end
session-held way name old new from opened to between memory after end opens opening ends left counts =
    let same = same-shelf old.shelf between opens.same in
    let begun = telling old.shelf between.calls in
    let first = opened_memory opens.state in
    let before = begun_at way.how name opens.state begun opened in
    let held : SessionEnds way.how.answers way.how.stops (streams old.source old.sink) (streams new.source new.sink) before after end =
    subst (λ (it : Memory). SessionEnds way.how.answers way.how.stops (streams old.source old.sink) (streams new.source new.sink) (at_shelf (way.how.begins name it) begun opened) after end) opens.is
    (subst (λ (it : ShelfState). SessionEnds way.how.answers way.how.stops (streams old.source old.sink) (streams new.source new.sink) (at_shelf (way.how.begins name memory) it opened) after end) same ends) in
    let desk = way.begins name first in
    let whole = subst IsWholeMemory opens.is opens.whole in
    let linked = subst AreLinked opens.is opens.linked in
    record {
      state = opens.state;
      has = opens.has;
      calls = between.calls;
      asks = subst (AsksTwo name (records_name name) old.shelf) same opens.asks;
      opened = opened;
      opening = subst (λ (it : Memory). OpeningCounts it.state from opened) opens.is opening;
      after = after;
      ends = held;
      left = left;
      counts = counts;
      promised = subst (λ (it : NamedDesk). ArePromised (memories_of way.how.desk it.memory held.course.steps)) desk
          (runs-promised way before held.course.lines held.course.steps held.went.runs (subst (λ (it : NamedDesk). IsWholeMemory it.memory) (sym desk) whole)
          (subst (λ (it : NamedDesk). AreLinked it.memory) (sym desk) linked));
      seen = way.sees name opens.state begun opened held.course.lines held.course.steps whole.state held.went.runs;
      counted = session-counted way (streams old.source old.sink) (streams new.source new.sink) before new.shelf after end held left;
      kept = subst (λ (it : NamedDesk). KeepsSaved it.name (memories_of way.how.desk it.memory held.course.steps) begun new.shelf) desk
          (session-saves way (streams old.source old.sink) (streams new.source new.sink) before new.shelf after end held left);
    }

pub held-ends : (held : SessionEnd → Type 0) (name : List ℕ) (old new : Outside) (from to : Counts) (end : SessionEnd) → held end → CommandsEnd held name old new from to (status_of_end end)
held-ends held name old new from to endings.Done it = it
held-ends held name old new from to endings.ReadFault it = it
held-ends held name old new from to endings.WriteFault it = it
held-ends held name old new from to endings.NoMemory it = inr it
held-ends held name old new from to (endings.CommandLong number) it = it
held-ends held name old new from to endings.InputFull it = it

-- A script that didn't open has no session.
pub unopened-ends : (held : SessionEnd → Type 0) (name : List ℕ) (old new : Outside) (from to : Counts) (status : Status) → Unopened (from_file name) old new status
    → NotOpenedCounts old.shelf name from to status → CommandsEnd held name old new from to status
unopened-ends held name old new from to statuses.Done it counts = absurd it
unopened-ends held name old new from to statuses.Usage it counts = absurd it
unopened-ends held name old new from to (statuses.NoFile given) it counts = (it, counts)
unopened-ends held name old new from to (statuses.BadText (faults.NotUtf8 place)) it counts = (it, counts)
unopened-ends held name old new from to (statuses.BadText (faults.LineFull place)) it counts = (it, counts)
unopened-ends held name old new from to (statuses.BadText faults.TextFull) it counts = (it, counts)
unopened-ends held name old new from to (statuses.BadText faults.NoMemory) it counts = absurd it
unopened-ends held name old new from to statuses.ReadFault it counts = absurd it.failed
unopened-ends held name old new from to statuses.WriteFault it counts = absurd it
unopened-ends held name old new from to statuses.ShelfFault it counts = (it, counts)
unopened-ends held name old new from to (statuses.BadRecords fault) it counts = (it, counts)
unopened-ends held name old new from to statuses.NoMemory it counts = inl (it, counts)
unopened-ends held name old new from to (statuses.CommandLong number) it counts = absurd it
unopened-ends held name old new from to statuses.InputFull it counts = absurd it
unopened-ends held name old new from to (statuses.BadSheets file sheet) it counts = absurd it
unopened-ends held name old new from to statuses.NotLocked it counts = absurd it

-- A session that was held to its end.
pub held-answered : (way : Way) (name : List ℕ) (old new : Outside) (from to : Counts) → Held way.how name old new from to endings.Done → AnsweredBy way.how name old new from to
held-answered way name old new from to held =
    let course = held.ends.course in
    let all = held.ends.ends in
    let before = begun_at way.how name held.state (telling old.shelf held.calls) held.opened in
    let runs : Runs way.how.answers before (command_lines course.read) course.steps = subst (λ (lines : List (List ℕ)). Runs way.how.answers before lines course.steps) all.lines held.ends.went.runs in
    record {
      state = held.state;
      has = held.has;
      calls = held.calls;
      asks = held.asks;
      opened = held.opened;
      opening = held.opening;
      input = course.read;
      gave = held.ends.went.gave;
      at_end = all.at_end;
      steps = course.steps;
      runs = runs;
      counts = held.counts ∙ ap (λ (it : AtShelf way.how.It). it.counts) all.replied.left;
      wrote = all.replied.wrote;
      left = held.left ∙ ap (λ (it : AtShelf way.how.It). it.shelf) all.replied.left ∙ sym (runs-last way before (command_lines course.read) course.steps runs);
      promised = held.promised;
      seen = subst (λ (lines : List (List ℕ)). way.how.seen (way.how.begins name (opened_memory held.state)) lines course.steps) all.lines held.seen;
      counted = subst (λ (lines : List (List ℕ)). CountsUnsaved way.how.saves old.shelf new.shelf lines course.steps) all.lines held.counted;
      kept = held.kept;
    }

-- ---- where no store failed

module _ {M : Type 0} (way : Way) (seen : AtShelf way.how.It → M) (answer : M → List ℕ → Answered M) (first : Memory → M)
    (calm-line : (before : AtShelf way.how.It) (line : List ℕ) (after : AtShelf way.how.It) (bytes : List ℕ) → way.how.answers before line after bytes → after.shelf.faults ≡ before.shelf.faults
    → after.shelf.faults < 2 ^ 64 - 1 → record { after = seen after; reply = bytes } ≡ answer (seen before) line)
    (begins : (name : List ℕ) (state : State) (shelf : ShelfState) (counts : Counts) → seen (begun_at way.how name state shelf counts) ≡ first (opened_memory state)) where
  -- Lines that were answered in order have the answers of the rules, where no store failed.
  calm-answers : (before : AtShelf way.how.It) (lines : List (List ℕ)) (steps : List (Answered (AtShelf way.how.It))) → Runs way.how.answers before lines steps
      → (left_by before steps).shelf.faults ≡ before.shelf.faults → before.shelf.faults < 2 ^ 64 - 1 → steps_seen seen steps ≡ answered_in_order answer (seen before) lines
  calm-answers before [] [] runs same low = refl
  calm-answers before [] (step ∷ steps) runs same low = absurd runs
  calm-answers before (line ∷ lines) [] runs same low = absurd runs
  calm-answers before (line ∷ lines) (step ∷ steps) runs same low =
      let calm = runs-calm way before line lines step steps runs same low in
      let one : record { after = seen step.after; reply = step.reply } ≡ answer (seen before) line = calm-line before line step.after step.reply runs.0 calm.first calm.low in
      let others : steps_seen seen steps ≡ answered_in_order answer (answer (seen before) line).after lines =
      calm-answers step.after lines steps runs.1 calm.later calm.low ∙ ap (λ (it : Answered M). answered_in_order answer it.after lines) one in
      ap₂ (λ (it : Answered M) (rest : List (Answered M)). it ∷ rest) one others

  pub calmly : (name : List ℕ) (old new : Outside) (from to : Counts) → AnsweredBy way.how name old new from to → new.shelf.faults ≡ old.shelf.faults → old.shelf.faults < 2 ^ 64 - 1
      → AnsweredCalmlyBy (λ state lines. output_of (answered_in_order answer (first (opened_memory state)) lines)) name old new
  calmly name old new from to all same low =
      let shelf = telling old.shelf all.calls in
      let before = begun_at way.how name all.state shelf all.opened in
      let lines = command_lines all.input in
      let last : (left_by before all.steps).shelf ≡ new.shelf = sym (runs-last way before lines all.steps all.runs) ∙ sym all.left in
      let end : (left_by before all.steps).shelf.faults ≡ old.shelf.faults = ap (λ (it : ShelfState). it.faults) last ∙ same in
      let steps = calm-answers before lines all.steps all.runs end low ∙ ap (λ (m : M). answered_in_order answer m lines) (begins name all.state shelf all.opened) in
      record {
        state = all.state;
        has = all.has;
        input = all.input;
        gave = all.gave;
        at_end = all.at_end;
        wrote = subst (Appends old.sink.taken new.sink.taken) (sym (output_of-seen seen all.steps) ∙ ap output_of steps) all.wrote;
      }

-- ---- no other file is touched

pub held-others : (way : Way) (name : List ℕ) (memory : Memory) (shelf : ShelfState) (opened : Counts) (old new : Outside) (after : AtShelf way.how.It) (end : SessionEnd)
    → SessionEnds way.how.answers way.how.stops (streams old.source old.sink) (streams new.source new.sink) (at_shelf (way.how.begins name memory) shelf opened) after end
    → Changes shelf.files after.shelf.files (λ one other. KeepsAllBut one other name (records_name name))
held-others way name memory shelf opened old new after end ends =
    subst (λ (it : NamedDesk). Changes shelf.files after.shelf.files (λ one other. KeepsAllBut one other it.name (records_name it.name))) (way.begins name memory)
    (session-others way (streams old.source old.sink) (streams new.source new.sink) (at_shelf (way.how.begins name memory) shelf opened) after end ends)
