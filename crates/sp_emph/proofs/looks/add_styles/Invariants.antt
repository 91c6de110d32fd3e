-- The first pairs are written, the last of them up to `done`: behind it nothing is written yet, and before it all that a
-- later pair could reach is.
use Rattle.std.proofs.Common.{◌≡◌, ℕ, ◌+◌, ◌<◌, ◌≤◌, true, false, length, get_or, take}
use Rattle.spec_script.specs.declared.Pair.{Pair}
use Rattle.spec_script.specs.Emphasis.{size_of, is_inside}
use Rattle.sp_emph.specs.Layering.{Changes, styled_inside}
use Rattle.sp_emph.proofs.looks.add_styles.Given as goal

abbrev none : Pair
none = record { first = 0; second = 0 }

abbrev pub invariant-loop-pair : goal.invariant-loop-pair
invariant-loop-pair l = record {
  changes : Changes (styled_inside l.fn.layer (take l.pair-index l.pairs)) l.fn.looks l.looks;
  behind : (place : ℕ) → l.done ≤ place → is_inside l.fn.layer (take l.pair-index l.pairs) place ≡ false;
  before : (later place : ℕ) → l.pair-index ≤ later → later < length l.pairs
      → (get_or l.pairs later none).first + size_of l.fn.layer ≤ place → place < l.done
      → is_inside l.fn.layer (take l.pair-index l.pairs) place ≡ true;
}
