-- A session of a desk.
use Rattle.std.proofs.Common.{◌≡◌, ℕ, ◌-◌, ◌^◌, ◌<◌, List, inl, inr, refl, ap, ◌∙◌, subst}
use Rattle.std.specs.Prelude.{Bool, true, false, if◌then◌else◌, slice_index_or}
use Rattle.std.specs.Str.{bytes_eq}
use Rattle.std.specs.declared.result.Result.{Result}
use Rattle.std.specs.declared.result.Result.TheVariants.{Ok, Err}
use Rattle.json.proofs.OnLiterals.{json_on_literals}
use Rattle.serde_json.proofs.OnLiterals.{serde_json_on_literals}
use Rattle.spec_session.specs.Runs.{AtShelf, Counts}
use Rattle.spec_wire.specs.Lines.{command_of_line}
use Rattle.spec_wire.specs.Commands.{CommandOf, FaultOf}
use Rattle.spec_wire.specs.Replies.{ReplyOf, saved, reply_line}
use Rattle.spec_records.specs.RecordFile.{digest_of}
use Rattle.spec_machine.specs.Machine.{Memory}
use Rattle.spec_machine.specs.Answers.{Step}
use Rattle.sp_run.specs.DeskLines.{NamedDesk, AnswersLine, RepliesTo, StopsAtLine, asks_save, answered_line, line_step_by, other_step, saved_step, saves}
use Rattle.sp_run.specs.Unopened.{Outside}
use Rattle.sp_run.specs.DeskEnding.{AnsweredAll, AnsweredCalmly, the_desk}
use Rattle.sp_run.proofs.Held.{not-risen}
use Rattle.sp_run.proofs.HeldSessions.{calmly}
use Rattle.sp_run.proofs.Touches.{Touches, Halts, Way, unsaved_line, other-line}

-- ---- what an answer of a desk does

-- The line of a save that was done.
done-letter : (digest : List ℕ) → slice_index_or (reply_line (saved digest)) 2 0 ≡ 100
unfolding serde_json_on_literals json_on_literals
done-letter digest = refl

saved-told : (memory : Memory) (asked : Result CommandOf FaultOf) (reply : ReplyOf) → reply ≡ (line_step_by memory asked).reply → asks_save asked ≡ true → bytes_eq (reply_line reply) unsaved_line ≡ false
saved-told memory (Ok command) reply is asks =
    let told : reply ≡ saved (digest_of memory.state.lines) = is ∙ ap (λ (b : Bool). (if b then saved_step memory else other_step memory command).reply) asks in
    other-line (reply_line reply) (ap (λ (r : ReplyOf). slice_index_or (reply_line r) 2 0) told ∙ done-letter (digest_of memory.state.lines))
saved-told memory (Err fault) reply is asks = absurd (let bad : ⊥ = cc in bad)

pub answer-touches : (before : AtShelf NamedDesk) (line : List ℕ) (after : AtShelf NamedDesk) (bytes : List ℕ) → AnswersLine before line after bytes → Touches (saves line) before after bytes
answer-touches before line after bytes it = by it.replies
  where
    by : RepliesTo before (command_of_line line) after it.reply → Touches (saves line) before after bytes
    by (inl done) = record {
      named = done.name;
      stored = inl (record {
        stores = done.stores;
        told = λ asks. ap (λ (b : List ℕ). bytes_eq b unsaved_line) it.is ∙ saved-told before.it.memory (command_of_line line) it.reply (ap (λ (s : Step). s.reply) done.step) asks;
      });
      follows = it.follows;
    }
    by (inr failed) = record { named = ap (λ (d : NamedDesk). d.name) failed.same; stored = inr (record { saves = failed.asks; failed = failed.failed }); follows = it.follows }

pub stop-halts : (before : AtShelf NamedDesk) (line : List ℕ) (after : AtShelf NamedDesk) → StopsAtLine before line after → Halts (saves line) before after
stop-halts before line after it = record { named = it.stops.name; memory = it.stops.memory; leaves = it.stops.leaves }

abbrev pub by_desk : Way
by_desk = record {
  how = the_desk;
  touches = answer-touches;
  halts = stop-halts;
  begins = λ name memory. refl;
  sees = λ name state shelf counts lines steps whole runs. tt;
}

-- ---- where no store failed

abbrev seen : AtShelf NamedDesk → Memory
seen at = at.it.memory

-- The step that a line asks for was done.
calm-step : (before : AtShelf NamedDesk) (line : List ℕ) (after : AtShelf NamedDesk) (reply : ReplyOf) → RepliesTo before (command_of_line line) after reply → after.shelf.faults ≡ before.shelf.faults
    → after.shelf.faults < 2 ^ 64 - 1 → record { after = seen after; reply = reply_line reply } ≡ answered_line (seen before) line
calm-step before line after reply (inl done) same low = ap (λ (it : Step). record { after = it.after; reply = reply_line it.reply }) done.step
calm-step before line after reply (inr failed) same low = absurd (not-risen before.shelf.faults after.shelf.faults failed.failed.rose same (subst (λ (n : ℕ). n < 2 ^ 64 - 1) same low))

calm-line : (before : AtShelf NamedDesk) (line : List ℕ) (after : AtShelf NamedDesk) (bytes : List ℕ) → AnswersLine before line after bytes → after.shelf.faults ≡ before.shelf.faults
    → after.shelf.faults < 2 ^ 64 - 1 → record { after = seen after; reply = bytes } ≡ answered_line (seen before) line
calm-line before line after bytes it same low =
    ap (λ (reply : List ℕ). record { after = seen after; reply = reply }) it.is ∙ calm-step before line after it.reply it.replies same low

pub answered-calmly : (name : List ℕ) (old new : Outside) (from to : Counts) → AnsweredAll name old new from to → new.shelf.faults ≡ old.shelf.faults → old.shelf.faults < 2 ^ 64 - 1 → AnsweredCalmly name old new
answered-calmly = calmly by_desk seen answered_line (λ memory. memory) calm-line (λ name state shelf counts. refl)
