-- Which commands of a sample are refused (docs/RULES.md, "The sample").
use Rattle.std.specs.Prelude.{◌≡◌, ℕ, ◌<◌, ◌≤◌, List, [], ◌∷◌, All, Option, Some, None}
use Rattle.spec_wire.specs.Commands.{CommandOf, lock_scenes, lock_pages, next_round}
use Rattle.spec_wire.specs.Replies.{RefusalOf, nothing_to_undo, nothing_to_redo}
use Rattle.spec_machine.specs.Machine.{Memory, opened_memory}
use Rattle.spec_machine.specs.Refusals.{refusal_to}
use Rattle.spec_machine.specs.Sessions.{AcceptsAll}
use Rattle.spec_sample.specs.Sample.{sample_commands, sample_opened, stepped}

-- The commands before the edits: scenes and pages are locked, and a round is begun.
abbrev pub sample_locks : List CommandOf
sample_locks = lock_scenes ∷ lock_pages ∷ next_round ∷ []

-- Why each command is refused, if it is, by the memory behind those before it.
abbrev pub refusals_of : Memory → List CommandOf → List (Option RefusalOf)
refusals_of memory [] = []
refusals_of memory (command ∷ commands) = refusal_to memory command ∷ refusals_of (stepped memory command) commands

-- The same of the session of a sample.
abbrev pub sample_refusals : ℕ → List (Option RefusalOf)
sample_refusals n = refusals_of (opened_memory (sample_opened n)) (sample_commands n)

-- Of three rooms and more all commands of the session are accepted, one after another, and so none is refused. Of fewer there is no
-- edit: the locks and the round are accepted, and the undo and the redo are refused.
pub record AreAccepted (n : ℕ) : Type 0 where
  pub all : 3 ≤ n → AcceptsAll (opened_memory (sample_opened n)) (sample_commands n)
  pub none : 3 ≤ n → All (λ reason. reason ≡ None) (sample_refusals n)
  pub few : n < 3 → sample_refusals n ≡ None ∷ None ∷ None ∷ Some nothing_to_undo ∷ Some nothing_to_redo ∷ []
