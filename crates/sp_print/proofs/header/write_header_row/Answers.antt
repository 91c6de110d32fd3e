use Rattle.std.proofs.Common.{◌++◌, ap, ap₂, ◌∙◌}
use Rattle.sp_kit.proofs.Writing.{writes_as, writes_then, writes_failed}
use Rattle.sp_print.specs.Header.{columns_behind_round, label_bytes, round_bytes}
use Rattle.sp_print.proofs.HeaderLaws.{header-row}
use Rattle.sp_print.proofs.header.write_header_row.Goals as goal

pub returns-in_err-write_round : goal.returns-in_err-write_round
returns-in_err-write_round g c =
    let sheet = c.args.page.now in
    let rest = label_bytes (columns_behind_round sheet.round) sheet.label in
    writes_as (ap (λ n. round_bytes n ++ rest) c.round.ensures ∙ header-row sheet) (writes_failed rest c.in_err-write_round.ensures c.from_residual.ensures.0)

pub returns : goal.returns
returns g c =
    let sheet = c.args.page.now in
    writes_as
    (ap₂ (λ n bytes. round_bytes n ++ bytes) c.round.ensures
    (ap₂ label_bytes (c.columns_behind_round.ensures ∙ ap columns_behind_round c.round-2.ensures) c.label.ensures) ∙ header-row sheet)
    (writes_then c.in_ok-write_round.ensures c.write_label.ensures)
