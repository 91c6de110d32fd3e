-- A line has the clusters of all that its runs show, and those of printable text are those of its bytes.
use Rattle.std.proofs.Common.{◌≡◌, true, length, ap, sym, ◌∙◌, arith, take_all}
use Rattle.spec_pages.specs.Wrapping.{total_width}
use Rattle.sp_measure.specs.Shown.{shown_bytes}
use Rattle.sp_measure.proofs.Windows.{ends-parts, length-window, width-all, window-whole}
use Rattle.sp_measure.proofs.rows.printable_runs.Goals as goal

pub returns : goal.returns
returns c =
    let text = c.args.text.now in
    let runs = c.args.runs.now in
    let bytes = c.args.bytes.now in
    let printable = sym c.all_printable.ensures ∙ c.if-not-all_printable.false in
    let is : bytes ≡ shown_bytes text runs = c.requires.bytes in
    let whole = take_all (length bytes) (shown_bytes text runs) (omega (arith, ap length is)) in
    record {
      value = window-whole text runs bytes is printable;
      wide = omega (arith, width-all (length bytes) 0 text runs, length-window (length bytes) 0 text runs bytes (is ∙ sym whole), c.requires.few);
    }

pub invariant_of-result : goal.invariant_of-result
invariant_of-result c =
    let text = c.args.text.now in
    let runs = c.args.runs.now in
    let bytes = c.args.bytes.now in
    let is : bytes ≡ shown_bytes text runs = c.requires.bytes in
    let whole = take_all (length bytes) (shown_bytes text runs) (omega (arith, ap length is)) in
    (is ∙ sym whole, ends-parts text 0 runs c.requires.parts, omega (arith, c.requires.few))
