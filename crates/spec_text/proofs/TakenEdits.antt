-- Edits that aren't refused lie within the lines, and make a text of a text where their own texts are UTF-8.
use Rattle.std.proofs.Common.{◌≡◌, ◌+◌, ◌≤◌, true, false, not, ◌&&◌, leb, ltb, cond, Option, Some, None, length, refl, arith}
use Rattle.std.specs.Prelude.{Bool}
use Rattle.std.proofs.lemmas.Bool.{and_parts, leb-true, ltb-true}
use Rattle.spec_text.specs.Lines.{TextState}
use Rattle.spec_text.specs.Edits.{EditOf, replace, splice, Refusal, range, boundary, line_break, replacement_of, is_within, is_between, has_break, refusal_of_lines, refusal_of, text_at}

-- What an edit is that nothing refuses.
pub record IsTaken (text : TextState) (it : EditOf) : Type 0 where
  pub within : is_within text.lines it ≡ true
  pub between : is_between text.lines it ≡ true
  pub unbroken : has_break it ≡ false
  pub limits : refusal_of_lines text (replacement_of text.lines it) ≡ None

pub taken-parts : (text : TextState) (it : EditOf) → refusal_of text it ≡ None → IsTaken text it
taken-parts text it none = by (is_within text.lines it) (is_between text.lines it) (has_break it) refl refl refl none
  where
    rest : Option Refusal
    rest = refusal_of_lines text (replacement_of text.lines it)

    by : (a b c : Bool) → is_within text.lines it ≡ a → is_between text.lines it ≡ b → has_break it ≡ c
        → cond (not a) (Some range) (cond (not b) (Some boundary) (cond c (Some line_break) rest)) ≡ None → IsTaken text it
    by true true false within between unbroken is = record { within = within; between = between; unbroken = unbroken; limits = is }
    by false b c within between unbroken is = absurd (let bad : ⊥ = cc in bad)
    by true false c within between unbroken is = absurd (let bad : ⊥ = cc in bad)
    by true true true within between unbroken is = absurd (let bad : ⊥ = cc in bad)

pub taken-inside : (text : TextState) (it : EditOf) → refusal_of text it ≡ None → (replacement_of text.lines it).first + (replacement_of text.lines it).old ≤ length text.lines
taken-inside text (replace first count texts) none = let it = taken-parts text (replace first count texts) none in leb-true (first + count) (length text.lines) it.within
taken-inside text (splice line from to put) none =
    let it = taken-parts text (splice line from to put) none in
    let parts = and_parts (ltb line (length text.lines)) (leb from to && leb to (length (text_at text.lines line))) it.within in
    let inside = ltb-true line (length text.lines) parts.0 in
    omega (arith, inside)
