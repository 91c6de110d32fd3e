use Rattle.std.proofs.Common.{◌≡◌, ℕ, ◌-◌, ◌<◌, ◌≤◌, List, ◌++◌, length, take, drop, append_assoc, length-append, ap, sym, ◌∙◌, subst, refl, arith}
use Rattle.std.specs.Prelude.{Ok, Err, IsErr}
use Rattle.std.specs.declared.result.Result.{Result}
use Rattle.std.specs.Io.KnownBytes.{Appends, Keeps}
use Rattle.std.proofs.KnownBytes.{Appends-trans, Appends-kept}
use Rattle.std.proofs.lemmas.Bool.{eqb-false}
use Rattle.std.proofs.lemmas.List.{take_rest, take-append-drop}
use Rattle.std.proofs.Math.Seq.{take-append_seam}
use Rattle.sp_kit.specs.Causes.{Rose}
use Rattle.sp_kit.specs.Outside.{SinkState, Writes}
use Rattle.sp_kit.proofs.outside.write_whole.Goals as goal

-- A part of the rest is done too.
done-more : (piece done rest : List ℕ) (n : ℕ) → piece ≡ done ++ rest → piece ≡ (done ++ take n rest) ++ take (length rest - n) (drop n rest)
done-more piece done rest n split =
    split ∙ ap (λ xs. done ++ xs) (sym (take-append-drop n rest ∙ refl) ∙ ap (λ xs. take n rest ++ xs) (sym (take_rest rest n)))
    ∙ sym (append_assoc done (take n rest) (take (length rest - n) (drop n rest)))

-- A write that failed after some bytes were done.
stopped : {T E : Type 0} (a b c : SinkState) (piece done rest : List ℕ) (r : Result T E)
    → piece ≡ done ++ rest → 0 < length rest → Appends a.taken b.taken done → Keeps b.taken c.taken → b.faults ≡ a.faults
    → b.faults ≤ c.faults → Rose b.faults c.faults → IsErr r → Writes a c piece r
stopped a b c piece done rest (Ok x) split some took keeps same later rose failed = cc
stopped a b c piece done rest (Err e) split some took keeps same later rose failed =
    let whole = ap length split ∙ length-append done rest in
    let prefix : take (length done) piece ≡ done = ap (take (length done)) split ∙ take-append_seam done rest in
    record {
      ok = tt;
      err = (length done, omega (arith, whole, some), subst (Appends a.taken c.taken) (sym prefix) (Appends-kept a.taken b.taken c.taken done took keeps));
      cause = record { later = omega (arith, same, later); failed = subst (λ n. Rose n c.faults) same rose; kept = tt };
    }

pub returns-in_err-count : goal.returns-in_err-count
returns-in_err-count g c =
    let (done, split, took, kept) = c.loop-rest.invariant in
    let more = eqb-false (length c.loop-rest.rest.now) 0 (sym c.loop-rest-test.ensures) in
    stopped (g.O.Sink.state c.args.sink.now) (g.O.Sink.state c.loop-rest.sink) (g.O.Sink.state c.write.new.self) c.args.piece.now done c.loop-rest.rest.now _
    split (omega (arith, more)) took c.in_err-count.ensures.bytes kept c.in_err-count.ensures.cause.later c.in_err-count.ensures.cause.failed c.from_residual.ensures.0

pub loop-rest-preserved : goal.loop-rest-preserved
loop-rest-preserved g c =
    let (done, split, took, kept) = c.loop-rest.invariant in (
      done ++ take c.in_ok-count.count c.loop-rest.rest.now,
      done-more c.args.piece.now done c.loop-rest.rest.now c.in_ok-count.count split,
      Appends-trans _ _ _ _ _ took c.in_ok-count.ensures.bytes,
      c.in_ok-count.ensures.cause.kept ∙ kept,
    )
