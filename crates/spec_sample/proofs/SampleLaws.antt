-- What samples have.
use Rattle.std.proofs.Common.{◌≡◌, ℕ, zero, suc, ◌+◌, ◌*◌, [], ◌∷◌, length, ap, refl, ◌∙◌, length-append, arith}
use Rattle.std.specs.Prelude.{codes}
use Rattle.spec_text.specs.Edits.{splice}
use Rattle.spec_wire.specs.Commands.{edit, undo, redo, lock_scenes, lock_pages, next_round}
use Rattle.spec_sample.specs.Sample.{room_lines, sample_lines, sample_commands}

-- Each room has eleven lines.
pub length-sample_lines : (n : ℕ) → length (sample_lines n) ≡ 11 * n
length-sample_lines zero = refl
length-sample_lines (suc n) = length-append (sample_lines n) (room_lines (suc n)) ∙ ap (λ m. m + 11) (length-sample_lines n) ∙ omega arith

-- A sample of one room has no edit.
pub one-session : sample_commands 1 ≡ lock_scenes ∷ lock_pages ∷ next_round ∷ undo ∷ redo ∷ []
one-session = refl

-- Of three rooms the third is told more of, in the line behind its heading and an empty one.
pub three-session : sample_commands 3 ≡ lock_scenes ∷ lock_pages ∷ next_round ∷ edit (splice 24 0 0 (codes "Now and then. ")) ∷ undo ∷ redo ∷ []
three-session = refl
