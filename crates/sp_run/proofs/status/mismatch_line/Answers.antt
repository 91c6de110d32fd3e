use Rattle.std.proofs.Common.{[], ◌∷◌, ◌++◌}
use Rattle.std.specs.Prelude.{codes}
use Rattle.sp_kit.proofs.Writing.{writes_as, writes_then, writes_failed}
use Rattle.sp_run.proofs.status.mismatch_line.Goals as goal

pub returns-in_err-write_whole : goal.returns-in_err-write_whole
returns-in_err-write_whole g c =
    writes_failed (c.args.kept.now ++ (codes ", found " ++ (c.args.found.now ++ 10 ∷ []))) c.in_err-write_whole.ensures c.from_residual.ensures.0

pub returns-in_err-write_whole-2 : goal.returns-in_err-write_whole-2
returns-in_err-write_whole-2 g c =
    writes_then c.in_ok-write_whole.ensures
    (writes_failed (codes ", found " ++ (c.args.found.now ++ 10 ∷ [])) (writes_as c.as_bytes.ensures.value c.in_err-write_whole-2.ensures) c.from_residual-in_err-write_whole-2.ensures.0)

pub returns-in_err-write_whole-3 : goal.returns-in_err-write_whole-3
returns-in_err-write_whole-3 g c =
    writes_then c.in_ok-write_whole.ensures
    (writes_then (writes_as c.as_bytes.ensures.value c.in_ok-write_whole-2.ensures)
    (writes_failed (c.args.found.now ++ 10 ∷ []) c.in_err-write_whole-3.ensures c.from_residual-in_err-write_whole-3.ensures.0))

pub returns-in_err-write_whole-4 : goal.returns-in_err-write_whole-4
returns-in_err-write_whole-4 g c =
    writes_then c.in_ok-write_whole.ensures
    (writes_then (writes_as c.as_bytes.ensures.value c.in_ok-write_whole-2.ensures)
    (writes_then c.in_ok-write_whole-3.ensures
    (writes_failed (10 ∷ []) (writes_as c.as_bytes-2.ensures.value c.in_err-write_whole-4.ensures) c.from_residual-in_err-write_whole-4.ensures.0)))

pub returns : goal.returns
returns g c =
    writes_then c.in_ok-write_whole.ensures
    (writes_then (writes_as c.as_bytes.ensures.value c.in_ok-write_whole-2.ensures)
    (writes_then c.in_ok-write_whole-3.ensures
    (writes_then (writes_as c.as_bytes-2.ensures.value c.in_ok-write_whole-4.ensures) c.write_whole-5.ensures)))
