use Rattle.std.proofs.Common.{[], ◌++◌, append-nil, append_assoc, refl, ap, sym, ◌∙◌}
use Rattle.std.specs.List.{flat_map}
use Rattle.sp_kit.proofs.Writing.{writes_as, writes_nothing, writes_then, writes_failed}
use Rattle.sp_print.specs.Writing.{line_written}
use Rattle.sp_print.proofs.sheet.write_slots.Goals as goal

pub loop-row-init : goal.loop-row-init
loop-row-init g c = ([], refl, writes_nothing (g.O.Sink.state c.args.sink.now) tt)

pub returns-in_err-write_row : goal.returns-in_err-write_row
returns-in_err-write_row g c =
    let (done, split, wrote) = c.loop-row.invariant in
    let rest = flat_map (line_written g.P.PartWriter.written) c.next.new.self in
    writes_as (sym (ap (λ rows. done ++ flat_map (line_written g.P.PartWriter.written) rows) c.in-Some.ensures) ∙ split) (writes_then wrote (writes_failed rest c.in_err-write_row.ensures c.from_residual.ensures.0))

pub loop-row-preserved : goal.loop-row-preserved
loop-row-preserved g c =
    let (done, split, wrote) = c.loop-row.invariant in
    let line = line_written g.P.PartWriter.written c.in-Some.row in
    let rest = flat_map (line_written g.P.PartWriter.written) c.next.new.self in (
      done ++ line,
      append_assoc done line rest ∙ sym (ap (λ rows. done ++ flat_map (line_written g.P.PartWriter.written) rows) c.in-Some.ensures) ∙ split,
      writes_then wrote c.in_ok-write_row.ensures,
    )

pub returns : goal.returns
returns g c =
    let (done, split, wrote) = c.loop-row.invariant in
    writes_as (sym (append-nil done) ∙ ap (λ rows. done ++ flat_map (line_written g.P.PartWriter.written) rows) (sym c.in_default.ensures) ∙ split) wrote
