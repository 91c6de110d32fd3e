-- No command of a sample is refused but the undo and the redo below three rooms.
use Rattle.std.proofs.Common.{◌≡◌, ℕ, zero, suc, ◌+◌, ◌<◌, ◌≤◌, Option, Some, None, List, [], ◌∷◌, ◌++◌, map, drop, refl, sym, ap, ap₂, ◌∙◌, subst, inl, inr, arith}
use Rattle.std.specs.Prelude.{All, codes, decimal}
use Rattle.std.specs.Fmt.{digits}
use Rattle.std.proofs.lemmas.Bool.{cases_eq}
use Rattle.std.proofs.lemmas.List.Elements.{All-nil, All-cons}
use Rattle.spec_sheets.proofs.ShownLaws.{length-shown_rows}
use Rattle.spec_state.specs.State.{opened_state}
use Rattle.spec_state.specs.Headings.{heading_labels}
use Rattle.spec_state.specs.StateSheets.{layout_in}
use Rattle.spec_state.specs.Openings.{scenes_locked}
use Rattle.spec_wire.specs.Commands.{CommandOf, undo, redo}
use Rattle.spec_wire.specs.Replies.{RefusalOf, nothing_to_undo, nothing_to_redo}
use Rattle.spec_machine.specs.Machine.{Memory, opened_memory, memory_after, memory_behind}
use Rattle.spec_machine.specs.Answers.{step_by}
use Rattle.spec_machine.specs.Refusals.{refusal_to}
use Rattle.spec_machine.specs.Sessions.{AcceptsAll}
use Rattle.spec_sample.specs.Sample.{room_lines, sample_lines, sample_commands, sample_opened, edits_down, stepped}
use Rattle.spec_sample.specs.Accepted.{sample_locks, refusals_of, sample_refusals, AreAccepted}
use Rattle.spec_sample.proofs.EditsTaken.{accepts-append, sample-holds, edits-accepted}
use Rattle.spec_sample.proofs.FirstRow.{first_heading, row-some}
use Rattle.spec_sample.proofs.LocksTaken.{IsSmall, locks-accepted}
use Rattle.spec_sample.proofs.Places.{texts-read}
use Rattle.spec_sample.proofs.SampleLaws.{length-sample_lines}
use Rattle.spec_sample.proofs.SampleSmall.{sample-none, sample-printable, sample-weight}

-- ---- a sample is small, and has a row

record Starts (texts : List (List ℕ)) : Type 0 where
  rest : List (List ℕ)
  is : texts ≡ first_heading ∷ [] ∷ rest

first-room : codes "INT. ROOM " ++ decimal 1 ++ codes " - DAY" ≡ first_heading
unfolding digits
first-room = refl

starts : (n : ℕ) → Starts (sample_lines (suc n))
starts zero =
    let first : room_lines 1 ≡ first_heading ∷ drop 1 (room_lines 1) = ap (λ (line : List ℕ). line ∷ drop 1 (room_lines 1)) first-room in
    record { rest = drop 2 (room_lines 1); is = first }
starts (suc n) = let before = starts n in record { rest = before.rest ++ room_lines (suc (suc n)); is = ap (λ (texts : List (List ℕ)). texts ++ room_lines (suc (suc n))) before.is }

some-rooms : (n : ℕ) → 0 < n → Starts (sample_lines n)
some-rooms zero some = absurd (omega (arith, some))
some-rooms (suc n) some = starts n

sample-small : (n : ℕ) → 0 < n → n ≤ 2000 → IsSmall (sample_lines n)
sample-small n some few =
    let texts = sample_lines n in
    let state = scenes_locked (opened_state texts) in
    let first = some-rooms n some in
    let holds = sample-holds n few in
    record {
      text = holds.is_text;
      none = sample-none n few;
      printable = sample-printable n few;
      lines = omega (arith, few, length-sample_lines n);
      weight = omega (arith, few, sample-weight n (omega (arith, few)));
      some = omega (arith, length-shown_rows state.lines (heading_labels state.lines state.scenes) (layout_in state).body, row-some state.speakers state.lines first.rest (texts-read 0 texts ∙ first.is));
    }

-- ---- accepted commands one after another

stepped-accepted : (memory : Memory) (command : CommandOf) → refusal_to memory command ≡ None → stepped memory command ≡ memory_after memory command
stepped-accepted memory command free = ap (λ (o : Option RefusalOf). (step_by memory command o).after) free

none-refused : (memory : Memory) (commands : List CommandOf) → AcceptsAll memory commands → All (λ (reason : Option RefusalOf). reason ≡ None) (refusals_of memory commands)
none-refused memory [] all = All-nil (λ (reason : Option RefusalOf). reason ≡ None)
none-refused memory (command ∷ commands) all =
    let free = all.0.free in
    All-cons (λ (reason : Option RefusalOf). reason ≡ None) (refusal_to memory command) (refusals_of (stepped memory command) commands) free
    (subst (λ (m : Memory). All (λ (reason : Option RefusalOf). reason ≡ None) (refusals_of m commands)) (sym (stepped-accepted memory command free)) (none-refused (memory_after memory command) commands all.1))

-- Accepted commands before others.
refusals-append : (memory : Memory) (one other : List CommandOf) → AcceptsAll memory one → refusals_of memory (one ++ other) ≡ map (λ (c : CommandOf). let o : Option RefusalOf = None in o) one ++ refusals_of (memory_behind memory one) other
refusals-append memory [] other all = refl
refusals-append memory (command ∷ one) other all =
    let free = all.0.free in
    ap₂ (λ (o : Option RefusalOf) (m : Memory). o ∷ refusals_of m (one ++ other)) free (stepped-accepted memory command free)
    ∙ ap (λ (os : List (Option RefusalOf)). let o : Option RefusalOf = None in o ∷ os) (refusals-append (memory_after memory command) one other all.1)

all-accepted : (n : ℕ) → 3 ≤ n → n ≤ 2000 → AcceptsAll (opened_memory (sample_opened n)) (sample_commands n)
all-accepted n many few =
    accepts-append (opened_memory (sample_opened n)) sample_locks (edits_down n ++ (undo ∷ redo ∷ []))
    (locks-accepted (sample_lines n) (sample-small n (omega (arith, many)) few)) (edits-accepted n many few)

no-edits : (n : ℕ) → 0 < n → n < 3 → edits_down n ≡ []
no-edits n some few = elim (cases_eq n 1) [
  | inl one ↦ ap edits_down one
  | inr other ↦ (let two : n ≡ 2 = omega (arith, some, few, other) in ap edits_down two)
]

few-accepted : (n : ℕ) → 0 < n → n < 3 → sample_refusals n ≡ None ∷ None ∷ None ∷ Some nothing_to_undo ∷ Some nothing_to_redo ∷ []
few-accepted n some few =
    let memory = opened_memory (sample_opened n) in
    ap (λ (es : List CommandOf). refusals_of memory (sample_locks ++ (es ++ (undo ∷ redo ∷ [])))) (no-edits n some few)
    ∙ refusals-append memory sample_locks (undo ∷ redo ∷ []) (locks-accepted (sample_lines n) (sample-small n some (omega (arith, few))))

-- Of samples of up to 2,000 rooms.
pub sample-accepted : (n : ℕ) → 0 < n → n ≤ 2000 → AreAccepted n
sample-accepted n some few = record {
  all = λ many. all-accepted n many few;
  none = λ many. none-refused (opened_memory (sample_opened n)) (sample_commands n) (all-accepted n many few);
  few = λ less. few-accepted n some less;
}
