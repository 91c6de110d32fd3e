-- The runs are those of the window, a column for each byte.
use Rattle.std.proofs.Common.{◌≡◌, List, ℕ, length, ap, ap₂, sym, ◌∙◌, arith}
use Rattle.spec_script.specs.declared.Run.{Run}
use Rattle.spec_pages.specs.Wrapping.{WrappedRow, row_of}
use Rattle.sp_measure.proofs.Windows.{length-window, width-all}
use Rattle.sp_measure.proofs.shown.PrintableRunsClusterList.row.Goals as goal

pub returns : goal.returns
returns c =
    let p = c.self.inside in
    let n = length p.bytes.now in
    ap₂ (λ (runs : List Run) (width : ℕ). let row : WrappedRow = record { runs = runs; width = width } in row)
    (c.in_ok-shown_runs.ensures p.text.now c.self.invariant.1)
    (sym (width-all n p.skip p.text.now p.runs.now ∙ length-window n p.skip p.text.now p.runs.now p.bytes.now c.self.invariant.0))
    ∙ ap row_of c.self.view_is
