use Rattle.std.proofs.Common.{[], ◌∷◌, ◌++◌}
use Rattle.std.specs.Prelude.{codes, decimal}
use Rattle.sp_kit.proofs.Writing.{writes_then, writes_failed}
use Rattle.sp_run.proofs.status.sheets_line.Goals as goal

pub returns-in_err-write_whole : goal.returns-in_err-write_whole
returns-in_err-write_whole g c =
    writes_failed (decimal c.args.file ++ (codes " sheet " ++ (decimal c.args.sheet ++ 10 ∷ []))) c.in_err-write_whole.ensures c.from_residual.ensures.0

pub returns-in_err-write_number : goal.returns-in_err-write_number
returns-in_err-write_number g c =
    writes_then c.in_ok-write_whole.ensures
    (writes_failed (codes " sheet " ++ (decimal c.args.sheet ++ 10 ∷ [])) c.in_err-write_number.ensures c.from_residual-in_err-write_number.ensures.0)

pub returns-in_err-write_whole-2 : goal.returns-in_err-write_whole-2
returns-in_err-write_whole-2 g c =
    writes_then c.in_ok-write_whole.ensures
    (writes_then c.in_ok-write_number.ensures
    (writes_failed (decimal c.args.sheet ++ 10 ∷ []) c.in_err-write_whole-2.ensures c.from_residual-in_err-write_whole-2.ensures.0))

pub returns-in_err-write_number-2 : goal.returns-in_err-write_number-2
returns-in_err-write_number-2 g c =
    writes_then c.in_ok-write_whole.ensures
    (writes_then c.in_ok-write_number.ensures
    (writes_then c.in_ok-write_whole-2.ensures
    (writes_failed (10 ∷ []) c.in_err-write_number-2.ensures c.from_residual-in_err-write_number-2.ensures.0)))

pub returns : goal.returns
returns g c =
    writes_then c.in_ok-write_whole.ensures
    (writes_then c.in_ok-write_number.ensures
    (writes_then c.in_ok-write_whole-2.ensures
    (writes_then c.in_ok-write_number-2.ensures c.write_whole-3.ensures)))
