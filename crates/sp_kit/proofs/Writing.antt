-- How writes follow one another: what the proof of a function that writes in several calls cites.
use Rattle.std.proofs.Common.{◌≡◌, ℕ, ◌+◌, ◌≤◌, min, List, [], ◌++◌, length, length-append, take, sym, ◌∙◌, subst, refl, arith}
use Rattle.std.specs.Prelude.{Ok, Err, IsErr}
use Rattle.std.specs.declared.option.Option.{Option}
use Rattle.std.specs.declared.result.Result.{Result}
use Rattle.std.specs.Io.KnownBytes.{Appends}
use Rattle.std.proofs.KnownBytes.{Appends-nil, Appends-trans}
use Rattle.std.proofs.Math.Seq.{take-append-add, take-length}
use Rattle.std.proofs.lemmas.List.{take-append-le, take_min}
use Rattle.sp_kit.specs.Causes.{HasCause, Rose}
use Rattle.sp_kit.specs.Outside.{SinkState, AppendsPrefix, AppendsPart, Writes}

-- A prefix of the front is a prefix of the whole.
pub AppendsPrefix-front : (a b : Option (List ℕ)) (xs ys : List ℕ) → AppendsPrefix a b xs → AppendsPrefix a b (xs ++ ys)
AppendsPrefix-front a b xs ys (n, took) =
    let low : min n (length xs) ≤ length xs = omega arith in
    (min n (length xs), subst (Appends a b) (sym (take-append-le (min n (length xs)) xs ys low ∙ take_min n xs)) took)

-- After the whole front, a prefix of the rest makes a prefix of the whole.
pub AppendsPrefix-then : (a b c : Option (List ℕ)) (xs ys : List ℕ) → Appends a b xs → AppendsPrefix b c ys → AppendsPrefix a c (xs ++ ys)
AppendsPrefix-then a b c xs ys took (n, more) = (length xs + n, subst (Appends a c) (sym (take-append-add xs ys n)) (Appends-trans a b c xs (take n ys) took more))

-- What was taken whole was taken as a prefix.
pub AppendsPrefix-all : (a b : Option (List ℕ)) (xs : List ℕ) → Appends a b xs → AppendsPrefix a b xs
AppendsPrefix-all a b xs took = (length xs, subst (Appends a b) (sym (take-length xs)) took)

-- A part of the front is a part of the whole.
pub AppendsPart-front : (a b : Option (List ℕ)) (xs ys : List ℕ) → AppendsPart a b xs → AppendsPart a b (xs ++ ys)
AppendsPart-front a b xs ys (n, short, took) =
    let longer = length-append xs ys in
    let low : n ≤ length xs = omega (arith, short) in
    (n, omega (arith, short, longer), subst (Appends a b) (sym (take-append-le n xs ys low)) took)

-- After the whole front, a part of the rest makes a part of the whole.
pub AppendsPart-then : (a b c : Option (List ℕ)) (xs ys : List ℕ) → Appends a b xs → AppendsPart b c ys → AppendsPart a c (xs ++ ys)
AppendsPart-then a b c xs ys took (n, short, more) =
    let longer = length-append xs ys in
    (length xs + n, omega (arith, short, longer), subst (Appends a c) (sym (take-append-add xs ys n)) (Appends-trans a b c xs (take n ys) took more))

-- One count after another.
pub HasCause-then : {T U E F : Type 0} (a b c : ℕ) (x : T) (r : Result U E) → HasCause {T = T} {E = F} a b (Ok x) → HasCause b c r → HasCause a c r
HasCause-then a b c x (Ok y) first next = record { later = omega (arith, first.later, next.later); failed = tt; kept = next.kept ∙ first.kept }
HasCause-then a b c x (Err e) first next =
    let same : b ≡ a = first.kept in
    record { later = omega (arith, first.later, next.later); failed = subst (λ n. Rose n c) same next.failed; kept = tt }

-- What nothing was asked of.
pub writes_nothing : {T E : Type 0} (s : SinkState) (x : T) → Writes {T = T} {E = E} s s [] (Ok x)
writes_nothing s x = record { ok = Appends-nil s.taken; err = tt; cause = record { later = omega arith; failed = tt; kept = refl } }

-- The same bytes by an equation.
pub writes_as : {T E : Type 0} {old new : SinkState} {xs ys : List ℕ} {r : Result T E} → xs ≡ ys → Writes old new xs r → Writes old new ys r
writes_as {old = old} {new = new} {r = r} e wrote = subst (λ bytes. Writes old new bytes r) e wrote

-- A write after one that was answered Ok.
pub writes_then : {T U E F : Type 0} {a b c : SinkState} {xs ys : List ℕ} {x : T} {r : Result U E}
    → Writes {T = T} {E = F} a b xs (Ok x) → Writes b c ys r → Writes a c (xs ++ ys) r
writes_then {a = a} {b = b} {c = c} {xs = xs} {ys = ys} {x = x} {r = Ok y} first next =
    record { ok = Appends-trans a.taken b.taken c.taken xs ys first.ok next.ok; err = tt; cause = HasCause-then a.faults b.faults c.faults x (Ok y) first.cause next.cause }
writes_then {a = a} {b = b} {c = c} {xs = xs} {ys = ys} {x = x} {r = Err e} first next =
    record { ok = tt; err = AppendsPart-then a.taken b.taken c.taken xs ys first.ok next.err; cause = HasCause-then a.faults b.faults c.faults x (Err e) first.cause next.cause }

-- The exit of a write that failed, where more was to follow.
pub writes_failed : {T U E F : Type 0} {a b : SinkState} {xs : List ℕ} {e : E} {r : Result U F} (ys : List ℕ)
    → Writes {T = T} {E = E} a b xs (Err e) → IsErr r → Writes a b (xs ++ ys) r
writes_failed {r = Ok y} ys first failed = cc
writes_failed {a = a} {b = b} {xs = xs} {r = Err e} ys first failed =
    record { ok = tt; err = AppendsPart-front a.taken b.taken xs ys first.err; cause = record { later = first.cause.later; failed = first.cause.failed; kept = tt } }
