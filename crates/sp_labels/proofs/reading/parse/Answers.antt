use Rattle.std.proofs.Common.{◌≡◌, ℕ, ◌<◌, ◌==◌, false, true, List, [], ◌∷◌, length, sym, eqb-true, arith}
use Rattle.std.specs.Prelude.{Some, None}
use Rattle.std.proofs.lemmas.List.{nil_from_length}
use Rattle.sp_labels.proofs.ReadSoFar.{read-number, read-step, no-number, no-more, read-all, ends-zero, answer-read}
use Rattle.sp_labels.proofs.reading.parse.Goals as goal

-- What the test of an empty rest says.
some-left : (rest : List ℕ) → false ≡ (length rest == 0) → 0 < length rest
some-left [] test = cc
some-left (byte ∷ rest) test = omega arith

none-left : (rest : List ℕ) → true ≡ (length rest == 0) → rest ≡ []
none-left rest test = nil_from_length rest (eqb-true (length rest) 0 (sym test))

pub returns-in_default-clause-spelled : goal.returns-in_default-clause-spelled
returns-in_default-clause-spelled c = no-number (rw c.as_bytes.ensures.value at c.in_default.ensures)

pub returns-in_default-clause-read : goal.returns-in_default-clause-read
returns-in_default-clause-read c = answer-read c.args.text.now None (returns-in_default-clause-spelled c)

pub loop-rest-init : goal.loop-rest-init
loop-rest-init c = rw c.new-path.ensures.items (read-number (rw c.as_bytes.ensures.value at c.in-Some.ensures))

pub returns-in_default-first_step-clause-spelled :
    goal.returns-in_default-first_step-clause-spelled
returns-in_default-first_step-clause-spelled c = no-more c.loop-rest.invariant (some-left c.loop-rest.rest.now c.loop-rest-test.ensures) c.in_default-first_step.ensures

pub returns-in_default-first_step-clause-read : goal.returns-in_default-first_step-clause-read
returns-in_default-first_step-clause-read c = answer-read c.args.text.now None (returns-in_default-first_step-clause-spelled c)

pub loop-rest-preserved : goal.loop-rest-preserved
loop-rest-preserved c = rw c.in_ok-push.ensures.items (read-step c.loop-rest.invariant c.in-Some-first_step.ensures)

pub returns-then-ends_in_zero-clause-spelled : goal.returns-then-ends_in_zero-clause-spelled
returns-then-ends_in_zero-clause-spelled c =
    let empty = none-left c.loop-rest.rest.now c.loop-rest-test.ensures in
    let all = rw empty at c.loop-rest.invariant in
    ends-zero all (rw c.deref.ensures.value at c.if-ends_in_zero.ensures)

pub returns-then-ends_in_zero-clause-read : goal.returns-then-ends_in_zero-clause-read
returns-then-ends_in_zero-clause-read c = answer-read c.args.text.now None (returns-then-ends_in_zero-clause-spelled c)

pub returns-clause-spelled : goal.returns-clause-spelled
returns-clause-spelled c =
    let empty = none-left c.loop-rest.rest.now c.loop-rest-test.ensures in
    let all = rw empty at c.loop-rest.invariant in
    read-all all (rw c.deref.ensures.value at c.if-ends_in_zero.ensures)

pub returns-clause-read : goal.returns-clause-read
returns-clause-read c = answer-read c.args.text.now (Some _) (returns-clause-spelled c)
