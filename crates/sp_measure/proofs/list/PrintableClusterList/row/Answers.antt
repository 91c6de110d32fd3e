-- Printable bytes are one run, a column each.
use Rattle.std.proofs.Common.{◌<◌, ◌+◌, List, length, ap, ap₂, sym, ◌∙◌, ℕ, arith}
use Rattle.spec_script.specs.declared.Run.{Run}
use Rattle.spec_pages.specs.Wrapping.{WrappedRow, row_of}
use Rattle.sp_measure.proofs.Bytes.{runs_of-bytes, total_width-bytes}
use Rattle.sp_measure.proofs.list.PrintableClusterList.row.Goals as goal

pub returns : goal.returns
returns c =
    let p = c.self.inside in
    let some : 0 < length p.bytes.now = omega (arith, c.if-count-eq0.false) in
    let run : Run = record { from = p.from; to = p.from + length p.bytes.now; style = p.style } in
    ap₂ (λ (runs : List Run) (width : ℕ). let row : WrappedRow = record { runs = runs; width = width } in row)
    (sym (runs_of-bytes p.style p.from p.bytes.now some)) (sym (total_width-bytes p.style p.from p.bytes.now))
    ∙ ap row_of c.self.view_is
