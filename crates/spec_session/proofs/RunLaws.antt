-- What lines answered in order come to, one step after another and seen in another way.
use Rattle.std.proofs.Common.{◌≡◌, ℕ, List, [], ◌∷◌, ◌++◌, refl, sym, ap, ◌∙◌, append_assoc, append-nil}
use Rattle.spec_session.specs.Runs.{Answered, Runs, output_of, left_by, steps_seen}

-- One line more.
pub runs-push : {R : Type 0} (answers : R → List ℕ → R → List ℕ → Type 0) (before : R) (lines : List (List ℕ)) (steps : List (Answered R)) (line : List ℕ) (step : Answered R)
    → Runs answers before lines steps → answers (left_by before steps) line step.after step.reply → Runs answers before (lines ++ line ∷ []) (steps ++ step ∷ [])
runs-push answers before [] [] line step runs last = (last, tt)
runs-push answers before [] (first ∷ steps) line step runs last = absurd runs
runs-push answers before (first ∷ lines) [] line step runs last = absurd runs
runs-push answers before (first ∷ lines) (one ∷ steps) line step runs last = (runs.0, runs-push answers one.after lines steps line step runs.1 last)

pub left_by-push : {R : Type 0} (before : R) (steps : List (Answered R)) (step : Answered R) → left_by before (steps ++ step ∷ []) ≡ step.after
left_by-push before [] step = refl
left_by-push before (one ∷ steps) step = left_by-push one.after steps step

pub output_of-push : {R : Type 0} (steps : List (Answered R)) (step : Answered R) → output_of (steps ++ step ∷ []) ≡ output_of steps ++ step.reply
output_of-push [] step = append-nil step.reply
output_of-push (one ∷ steps) step = ap (λ l. one.reply ++ l) (output_of-push steps step) ∙ sym (append_assoc one.reply (output_of steps) step.reply)

-- What each answer keeps, all of them keep.
pub runs-keep : {R : Type 0} (answers : R → List ℕ → R → List ℕ → Type 0) (P : R → Type 0)
    → ((before : R) (line : List ℕ) (after : R) (reply : List ℕ) → answers before line after reply → P before → P after)
    → (before : R) (lines : List (List ℕ)) (steps : List (Answered R)) → Runs answers before lines steps → P before → P (left_by before steps)
runs-keep answers P keeps before [] [] runs holds = holds
runs-keep answers P keeps before [] (step ∷ steps) runs holds = absurd runs
runs-keep answers P keeps before (line ∷ lines) [] runs holds = absurd runs
runs-keep answers P keeps before (line ∷ lines) (step ∷ steps) runs holds =
    runs-keep answers P keeps step.after lines steps runs.1 (keeps before line step.after step.reply runs.0 holds)

-- ---- seen in another way

pub runs-seen : {R S : Type 0} (answers : R → List ℕ → R → List ℕ → Type 0) (replies : S → List ℕ → S → List ℕ → Type 0) (view : R → S)
    → ((before : R) (line : List ℕ) (after : R) (reply : List ℕ) → answers before line after reply → replies (view before) line (view after) reply)
    → (before : R) (lines : List (List ℕ)) (steps : List (Answered R)) → Runs answers before lines steps → Runs replies (view before) lines (steps_seen view steps)
runs-seen answers replies view seen before [] [] runs = tt
runs-seen answers replies view seen before [] (step ∷ steps) runs = absurd runs
runs-seen answers replies view seen before (line ∷ lines) [] runs = absurd runs
runs-seen answers replies view seen before (line ∷ lines) (step ∷ steps) runs =
    (seen before line step.after step.reply runs.0, runs-seen answers replies view seen step.after lines steps runs.1)

pub left_by-seen : {R S : Type 0} (view : R → S) (before : R) (steps : List (Answered R)) → left_by (view before) (steps_seen view steps) ≡ view (left_by before steps)
left_by-seen view before [] = refl
left_by-seen view before (step ∷ steps) = left_by-seen view step.after steps

pub output_of-seen : {R S : Type 0} (view : R → S) (steps : List (Answered R)) → output_of (steps_seen view steps) ≡ output_of steps
output_of-seen view [] = refl
output_of-seen view (step ∷ steps) = ap (λ l. step.reply ++ l) (output_of-seen view steps)

-- ---- runs one behind the other

pub runs-append : {R : Type 0} (answers : R → List ℕ → R → List ℕ → Type 0) (before : R) (lines more : List (List ℕ)) (steps rest : List (Answered R))
    → Runs answers before lines steps → Runs answers (left_by before steps) more rest → Runs answers before (lines ++ more) (steps ++ rest)
runs-append answers before [] more [] rest runs later = later
runs-append answers before [] more (step ∷ steps) rest runs later = absurd runs
runs-append answers before (line ∷ lines) more [] rest runs later = absurd runs
runs-append answers before (line ∷ lines) more (step ∷ steps) rest runs later = (runs.0, runs-append answers step.after lines more steps rest runs.1 later)

pub record HasRun {R : Type 0} (answers : R → List ℕ → R → List ℕ → Type 0) (before : R) (lines : List (List ℕ)) : Type 0 where
  pub steps : List (Answered R)
  pub runs : Runs answers before lines steps

-- One line before others that are answered.
run-before : {R : Type 0} (answers : R → List ℕ → R → List ℕ → Type 0) (before : R) (line : List ℕ) (lines : List (List ℕ)) (step : Answered R)
    → answers before line step.after step.reply → HasRun answers step.after lines → HasRun answers before (line ∷ lines)
run-before answers before line lines step answered later = record { steps = step ∷ later.steps; runs = (answered, later.runs) }

-- Where each line has an answer, all lines have.
pub run-exists : {R : Type 0} (answers : R → List ℕ → R → List ℕ → Type 0)
    (answer : (before : R) (line : List ℕ) → (step : Answered R) × answers before line step.after step.reply) → (before : R) (lines : List (List ℕ)) → HasRun answers before lines
run-exists answers answer before [] = record { steps = []; runs = tt }
run-exists answers answer before (line ∷ lines) =
    let (step, answered) = answer before line in run-before answers before line lines step answered (run-exists answers answer step.after lines)
